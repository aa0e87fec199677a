-- What is found of the run of rows that begins at a place of a file.
use Rattle.std.specs.Prelude.{◌≡◌, Bool, true, List, [], ◌∷◌, ℕ, ◌+◌, ◌≤◌, length, drop}
use Rattle.rules.specs.Lists.{all}
use Rattle.csv_rules.specs.Quote.{cut, is_broken}
use Rattle.csv_rules.specs.Sheets.{Run, run_lines, row_converts, differ, bytes_in, runs_from}

-- a run begins at the place at: its bytes, whether its rows convert, and then whether two of them differ in a header key
pub record Found (f : List ℕ) (at size : ℕ) (good differs : Bool) : Type 0 where
  pub run : Run
  pub others : List Run
  pub begins : runs_from f at ≡ run ∷ others
  pub bytes : size ≡ bytes_in (run_lines run)
  pub converts : good ≡ all row_converts (run_lines run)
  pub header : good ≡ true → differs ≡ differ (run_lines run)

-- nothing but a line that breaks the quoting stands there
pub record Broken (f : List ℕ) (at : ℕ) : Type 0 where
  pub none : runs_from f at ≡ []
  pub broken : is_broken (cut (drop at f)) ≡ true

pub record RunIs (f : List ℕ) (at size : ℕ) (good differs : Bool) : Type 0 where
  pub found : Found f at size good differs
  pub inside : at + size ≤ length f
