use Rattle.std.proofs.Common.{ℕ}
use Rattle.std.proofs.lemmas.List.{length-replicate}
use Rattle.program.proofs.file.room.Goals as goal

pub returns : goal.returns
returns c = length-replicate {A = ℕ} 4194305 0
