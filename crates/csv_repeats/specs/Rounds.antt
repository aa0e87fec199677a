-- 53 and 54 over rows of which a table keeps the numbers as far as it has room: what is found so far, and what the rows say that are left.
use Rattle.std.specs.Prelude.{◌≡◌, cond, List, [], ◌++◌, ℕ, ◌+◌, ◌≤◌, ◌<◌, eqb, ltb, length}
use Rattle.csv_rules.specs.Quote.{FileLine}
use Rattle.csv_rules.specs.Spot.{first_after, clashes, comes_back}
use Rattle.csv_rows.specs.Rows.{lines_from}

-- the first of two lines; 0 is none
unfoldable pub first_line : ℕ → ℕ → ℕ
first_line a b = cond (eqb a 0) b (cond (eqb b 0) a (cond (ltb b a) b a))

-- the rows that are left: those from unkept on, none where it is 0
unfoldable pub left : List ℕ → ℕ → List FileLine
left f unkept = cond (eqb unkept 0) [] (lines_from f unkept)

-- 53 and 54 of the rows from first on, the first of which is the k-th line: differs and returns, or what the rows say by themselves that are left, the
-- first of which is the line-th line; whichever line comes first. Once 53 is met, no more is said of 54.
pub record Partly (f : List ℕ) (first k differs returns unkept line : ℕ) : Type 0 where
  pub clash : first_after clashes k [] (lines_from f first) ≡ first_line differs (first_after clashes line [] (left f unkept))
  pub back : differs ≡ 0 → first_after comes_back k [] (lines_from f first) ≡ first_line returns (first_after comes_back line [] (left f unkept))
  pub kept : List FileLine
  pub parts : lines_from f first ≡ kept ++ left f unkept
  pub place : (unkept ≡ 0 → ⊥) → (first ≤ unkept) × (unkept < length f)
  pub moves : first < 4294967296 → (unkept ≡ 0 → ⊥) → first < unkept
  pub few : (unkept ≡ 0 → ⊥) → (k ≤ line) × (line + first ≤ unkept + k)
