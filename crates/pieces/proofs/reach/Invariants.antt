use Prim.Native.Nat.{◌+◌, ◌-◌, ◌≤◌}
use lib.ListN.{length}
use Rattle.pieces.proofs.Laws.{Walked}
use Rattle.pieces.proofs.reach.Given as goal

abbrev pub invariant-loop-p : goal.invariant-loop-p
invariant-loop-p l = (l.p.start + l.p.len ≤ length l.s) × (l.p.number ≤ l.n) × Walked l.sep l.s l.p.number l.p.start l.p.len

abbrev pub decreases-loop-p : goal.decreases-loop-p
decreases-loop-p l = length l.s - l.p.start
