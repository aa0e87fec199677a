-- The sheet of the run that begins at a place of a file, written as far as its rows convert.
use Rattle.std.specs.Prelude.{◌≡◌, Bool, true, List, [], ◌∷◌, ℕ, ◌≤◌, length}
use Rattle.rules.specs.Lists.{all}
use Rattle.rules.specs.Sheet.{sheet_of}
use Rattle.csv_rules.specs.Kanji.{convertible}
use Rattle.csv_rules.specs.Sheets.{Given, sheet_rows, runs_from}
use Rattle.reach.specs.Reach.{Adds}
use Rattle.csv_rows.specs.declared.RowItems.{RowItems}
use Rattle.csv_rows.specs.Rows.{items_of}
use Rattle.csv_runs.specs.Runs.{RunIs}

-- where its lines are asked for, a row converts
pub record RowReady (row : RowItems) (asked : Bool) : Type 0 where
  pub converts : asked ≡ true → all convertible (items_of row) ≡ true

-- the sheet of the run that begins at a place; nothing where none does
unfoldable pub sheet_at : List ℕ → ℕ → Given → List ℕ
sheet_at f at g = elim (runs_from f at) [ [] ↦ [] | u ∷ us ↦ sheet_of (sheet_rows g u) ]

-- what is found of the run, and its sheet over x, as far as x reaches, where its rows convert
pub record PutIs (f : List ℕ) (at : ℕ) (g : Given) (x : List ℕ) (size end : ℕ) (good differs : Bool) (y : List ℕ) : Type 0 where
  pub run : RunIs f at size good differs
  pub sheet : good ≡ true → Adds 0 x (sheet_at f at g) end y
  pub same : length y ≡ length x
  pub inside : end ≤ length y
