-- Laws of reading. Assumes nothing.
use Rattle.std.proofs.Common.{ℕ, ◌≡◌, ◌≤◌, Result, Ok, Err}
use Rattle.program.specs.declared.Told.{Told}
use Rattle.program.specs.Reading.{ending_of, InBuffer}

-- where a read brought nothing, the input lies in the buffer
pub ending_within : {E : Type 0} (a : Result ℕ E) (done n : ℕ) (r : Result ℕ Told) → r ≡ ending_of a done → done ≤ n → InBuffer n r
unfolding ending_of
ending_within (Ok k) done n r e h = rw e h
ending_within (Err x) done n r e h = rw e tt
