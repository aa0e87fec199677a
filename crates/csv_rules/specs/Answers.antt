-- What the answers about a file tell: the request's number and values for every case.
use Rattle.std.specs.Prelude.{◌≡◌, List, ℕ, ◌≤◌, length, Result, Ok, Err}
use Rattle.rules.specs.Told.{Told, gives, refused, refusal, over, length_of}
use Rattle.csv_rules.specs.declared.FileFault.{FileFault}
use Rattle.csv_rules.specs.declared.FileFault.TheVariants.{Quoting, Columns, Unconverted, HeaderDiffers, Returns}
use Rattle.csv_rules.specs.declared.CsvSheets.{CsvSheets}
use Rattle.csv_rules.specs.declared.NotMade.{NotMade}
use Rattle.csv_rules.specs.declared.NotMade.TheVariants.{Unfit, Faulty}
use Rattle.csv_rules.specs.declared.Next.{Next}

-- "Refusals: 50 quoting, 51 no version or heading line .., 52 a byte that can't be converted, 53 rows of a number that differ in a header key,
-- 54 a number that returns after another"; they name no line
abbrev pub fault_number : FileFault → ℕ
fault_number Quoting = 50
fault_number Columns = 51
fault_number Unconverted = 52
fault_number HeaderDiffers = 53
fault_number Returns = 54

abbrev pub told_fault : {A : Type 0} → FileFault → Told A
told_fault f = refused (fault_number f) 0 0

abbrev pub told_count : Result CsvSheets FileFault → Told CsvSheets
told_count (Ok c) = gives c
told_count (Err f) = told_fault f

-- how many bytes the sheet has
abbrev pub told_made : Result ℕ NotMade → Told ℕ
told_made (Ok n) = gives n
told_made (Err (Unfit r)) = refusal r
told_made (Err (Faulty f)) = told_fault f

-- a call that gives t, a sheet or a refusal: what it answers, r, and what it leaves, after, of a lent buffer that held before. What it says it
-- wrote lies in the buffer.
pub record SheetCall (t : Told (List ℕ)) (before : List ℕ) (r : Result ℕ NotMade) (after : List ℕ) : Type 0 where
  pub told : told_made r ≡ length_of t
  pub buffer : after ≡ over t before
  pub within : (n : ℕ) → r ≡ Ok n → n ≤ length before

-- the same, and the place behind
pub record NextCall (t : Told (List ℕ)) (behind : ℕ) (before : List ℕ) (r : Next) (after : List ℕ) : Type 0 where
  pub call : SheetCall t before r.made after
  pub place : r.place ≡ behind
