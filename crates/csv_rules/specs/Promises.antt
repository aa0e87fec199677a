-- THE PROMISES of the calls on the commercial centre's file, by name. Each says the whole answer for any bytes and, of a lent buffer, every byte
-- that it then holds. The calls of `oul` promise these words.
use Rattle.std.specs.Prelude.{◌≡◌, List, ℕ, length, Result}
use Rattle.csv_rules.specs.declared.FileFault.{FileFault}
use Rattle.csv_rules.specs.declared.CsvSheets.{CsvSheets}
use Rattle.csv_rules.specs.declared.NotMade.{NotMade}
use Rattle.csv_rules.specs.declared.Next.{Next}
use Rattle.csv_rules.specs.Answers.{told_count, SheetCall, NextCall}
use Rattle.csv_rules.specs.Sheets.{Given, csv_count, csv_sheet, csv_next, place_after}
use Rattle.csv_rules.specs.Spot.{csv_spot}

-- csv_count; csv_spot
abbrev pub SheetsCounted : List ℕ → Result CsvSheets FileFault → Type 0
SheetsCounted file r = told_count r ≡ csv_count file

abbrev pub LineTold : List ℕ → ℕ → Type 0
LineTold file r = r ≡ csv_spot file

-- csv_sheet; csv_next: what they answer, and what they leave of a buffer that held `before`
abbrev pub CsvSheetWritten : List ℕ → ℕ → Given → List ℕ → Result ℕ NotMade → List ℕ → Type 0
CsvSheetWritten file which g before r after = SheetCall (csv_sheet file which g (length before)) before r after

abbrev pub NextSheetWritten : List ℕ → ℕ → Given → List ℕ → Next → List ℕ → Type 0
NextSheetWritten file at g before r after = NextCall (csv_next file at g (length before)) (place_after file at) before r after
