-- What the parts of the walk find.
use Rattle.std.specs.Prelude.{◌≡◌, Bool, cond, not, ◌&&◌, List, [], ◌∷◌, ℕ, ◌+◌, ◌-◌, ◌*◌, eqb, ltb, length, take, drop, Option, Some, is_some}
use Rattle.rules.specs.Lists.{nth}
use Rattle.csv_rules.specs.Quote.{cut, is_broken, FileLine, lines_in}
use Rattle.csv_rules.specs.Count.{numeral, counts}
use Rattle.csv_rules.specs.Sheets.{row_converts, bytes_in}
use Rattle.csv_rules.specs.Spot.{first_not}

-- ---- the column count
-- a number, as far as the code counts
unfoldable pub capped : ℕ → ℕ
capped n = cond (ltb n 10000000000000000000) n 10000000000000000000

-- a number and a digit behind it
unfoldable pub with_digit : ℕ → ℕ → ℕ
with_digit n b = cond (ltb n 1000000000000000000) (10 * n + (b - 48)) 10000000000000000000

-- of an item v
pub record ColumnsAre (v : List ℕ) (number : Option ℕ) : Type 0 where
  pub is : is_some number ≡ counts v
  pub value : (n : ℕ) → number ≡ Some n → capped n ≡ capped (numeral 0 v)

-- the item that holds it; empty where there is no version line
unfoldable pub column_item : List FileLine → List ℕ
column_item [] = []
column_item (version ∷ ls) = nth version.items 1

-- ---- the lines
unfoldable pub first_found : ℕ → ℕ → Bool → ℕ
first_found found n passes = cond (eqb found 0 && not passes) n found

unfoldable pub count_spot : ℕ → Bool → ℕ → ℕ
count_spot lines good miscounted = cond (eqb lines 0) 1 (cond (eqb lines 1) 2 (cond good miscounted 1))

-- the walk over the lines of f with a column count that is m as far as the code counts: miscounted is by the rows alone
pub record WalkIs (f : List ℕ) (number : ℕ) (broken : Bool) (lines miscounted unconverted first : ℕ) : Type 0 where
  pub quoting : broken ≡ is_broken (cut f)
  pub counts : lines ≡ length (lines_in (cut f))
  pub counted : (m : ℕ) → capped number ≡ capped m → miscounted ≡ first_not (λ (r : FileLine). eqb (length r.items) m) 3 (drop 2 (lines_in (cut f)))
  pub converted : unconverted ≡ first_not row_converts 1 (lines_in (cut f))
  pub rows : first ≡ bytes_in (take 2 (lines_in (cut f)))
