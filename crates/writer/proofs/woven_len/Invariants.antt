use Prim.Native.Nat.{◌+◌, ◌≤◌}
use mathlib.Core.Path.{◌≡◌}
use lib.ListN.{length, drop}
use Rattle.writer.specs.Woven.{woven, holes}
use Rattle.writer.proofs.woven_len.Given as goal

abbrev pub invariant-loop-slot : goal.invariant-loop-slot
invariant-loop-slot l =
    (l.next + holes (drop l.slot-index l.pattern) ≤ length l.texts)
    × (l.n + length (woven l.d (drop l.slot-index l.pattern) (drop l.next l.texts)) ≡ length (woven l.d l.pattern l.texts))
