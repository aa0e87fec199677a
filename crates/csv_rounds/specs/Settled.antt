-- 53 and 54, once every row is gone through.
use Rattle.std.specs.Prelude.{◌≡◌, true, List, [], ℕ, ◌+◌, ◌≤◌, ◌<◌, length}
use Rattle.rules.specs.Lists.{all}
use Rattle.csv_rules.specs.Sheets.{row_converts}
use Rattle.csv_rules.specs.Spot.{first_after, clashes, comes_back}
use Rattle.csv_repeats.specs.Rounds.{first_line, left}

-- the rows that are left, the first of which is the line-th line: they convert
pub record Unsettled (f : List ℕ) (unkept line : ℕ) : Type 0 where
  pub converts : all row_converts (left f unkept) ≡ true
  pub place : (unkept ≡ 0 → ⊥) → unkept < length f
  pub few : (unkept ≡ 0 → ⊥) → (0 < line) × (line ≤ unkept + 1)

-- d and r: the first of those found so far and what these rows say. Once 53 is met, no more is said of 54.
pub record Settled (f : List ℕ) (differs returns unkept line d r : ℕ) : Type 0 where
  pub clash : d ≡ first_line differs (first_after clashes line [] (left f unkept))
  pub back : d ≡ 0 → r ≡ first_line returns (first_after comes_back line [] (left f unkept))
