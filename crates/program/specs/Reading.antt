-- What reading tells.
use Rattle.std.specs.Prelude.{ℕ, ◌≤◌, Option, None, Some, Result, Ok, Err}
use Rattle.program.specs.declared.Told.{Told}

-- what a read brings; where it fails, that is told
unfoldable pub brought : {E : Type 0} → Result ℕ E → Result ℕ Told
brought (Ok k) = Ok k
brought (Err e) = Err (record {})

-- a read that brought nothing, behind so many bytes: it succeeds at the end of the input
unfoldable pub ending_of : {E : Type 0} → Result ℕ E → ℕ → Result ℕ Told
ending_of (Ok k) done = Ok done
ending_of (Err e) done = Err (record {})

-- an input lies in its buffer of n bytes
abbrev pub InBuffer : ℕ → Result ℕ Told → Type 0
InBuffer n (Ok k) = k ≤ n
InBuffer n (Err e) = Unit {0}

-- a number that an argument gives has nine digits at most
abbrev pub NineDigits : Option ℕ → Type 0
NineDigits (Some n) = n ≤ 999999999
NineDigits None = Unit {0}
