-- What is told of a sheet that was made.
use Rattle.std.specs.Prelude.{◌≡◌, true, List, ◌∷◌, ℕ, ltb, length}
use Rattle.rules.specs.Told.{Told, gives, refuse◌if◌else◌, ◌>>◌}
use Rattle.rules.specs.Lists.{all}
use Rattle.rules.specs.Sheet.{read_sheet}
use Rattle.csv_rules.specs.Sheets.{Run, run_lines, row_converts, runs_from}

-- a run begins at a place, and each of its rows converts
pub record Convertible (f : List ℕ) (at : ℕ) : Type 0 where
  pub run : Run
  pub others : List Run
  pub begins : runs_from f at ≡ run ∷ others
  pub good : all row_converts (run_lines run) ≡ true

-- 45 "lent buffer too short", of a sheet s; and before it "the sheet's own"
unfoldable pub copied_told : List ℕ → ℕ → Told (List ℕ)
copied_told s room = refuse 45 if ltb room (length s) else gives s

unfoldable pub made_told : List ℕ → ℕ → Told (List ℕ)
made_told s room = read_sheet s >> copied_told s room
