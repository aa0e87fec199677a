-- What the calls tell of a verdict on the whole file. Assumes nothing.
use mathlib.Core.Path.{◌≡◌, sym, ap, ◌∙◌}
use mathlib.Core.List.{List}
use Prim.Native.Nat.{ℕ}
use Rattle.std.specs.Prelude.{Result, Ok, Err}
use Rattle.csv_rules.specs.declared.CsvSheets.{CsvSheets}
use Rattle.csv_rules.specs.Spot.{csv_spot}
use Rattle.csv_check.specs.declared.Blame.{Blame}
use Rattle.csv_check.specs.Verdicts.{line_of}

pub spot-right : (f : List ℕ) (v : Result CsvSheets Blame) → line_of v ≡ csv_spot f → (c : CsvSheets) → v ≡ Ok c → 0 ≡ csv_spot f
spot-right f v t c e = ap line_of (sym e) ∙ t

pub spot-wrong : (f : List ℕ) (v : Result CsvSheets Blame) → line_of v ≡ csv_spot f → (b : Blame) → v ≡ Err b → b.line ≡ csv_spot f
spot-wrong f v t b e = ap line_of (sym e) ∙ t
