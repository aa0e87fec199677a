-- The row behind some rows of a run: whether the run goes on with it.
use Rattle.std.specs.Prelude.{◌≡◌, Bool, true, false, not, ◌&&◌, List, [], ◌∷◌, ℕ, ◌+◌, ◌≤◌, ◌<◌, length}
use Rattle.rules.specs.declared.Name.TheVariants.{Pid, Pv1}
use Rattle.csv_rules.specs.Quote.{Items, FileLine}
use Rattle.csv_rules.specs.Sheets.{same_number, row_converts}
use Rattle.csv_rules.specs.Raw.{raw_agree}
use Rattle.csv_rows.specs.declared.RowItems.{RowItems}
use Rattle.csv_rows.specs.Rows.{lines_from, Firsts}

-- whether the first of some rows has the number of the row q
unfoldable pub goes_on : Items → List FileLine → Bool
goes_on q [] = false
goes_on q (r ∷ rs) = same_number q r.items

-- a row with the number of the row q stands there: its items, its bytes, whether it converts, whether its header keys differ from q's as they lie
-- in the file
pub record Joins (f : List ℕ) (q : Items) (at : ℕ) (row : RowItems) (size : ℕ) (good differs : Bool) : Type 0 where
  pub items : Items
  pub lines : lines_from f at ≡ record { items = items; size = size } ∷ lines_from f (at + size)
  pub lies : Firsts row items
  pub number : same_number q items ≡ true
  pub converts : good ≡ row_converts (record { items = items; size = size })
  pub header : differs ≡ not (raw_agree Pid q items && raw_agree Pv1 q items)
  pub moves : 0 < size
  pub place : at + size ≤ length f
