-- What a verdict on a file tells.
use Rattle.std.specs.Prelude.{ℕ, Result, Ok, Err}
use Rattle.rules.specs.Told.{Told, gives}
use Rattle.csv_rules.specs.declared.CsvSheets.{CsvSheets}
use Rattle.csv_rules.specs.Answers.{told_fault}
use Rattle.csv_check.specs.declared.Blame.{Blame}

-- its sheets, or its fault; and the line of that fault, 0 where there is none
abbrev pub told_verdict : Result CsvSheets Blame → Told CsvSheets
told_verdict (Ok c) = gives c
told_verdict (Err b) = told_fault b.fault

abbrev pub line_of : Result CsvSheets Blame → ℕ
line_of (Ok c) = 0
line_of (Err b) = b.line
