use Prim.Native.Nat.{◌+◌, ◌≤◌}
use lib.ListN.{length, drop}
use Rattle.writer.specs.Woven.{woven, holes}
use Rattle.writer.proofs.Laws.{Running}
use Rattle.writer.proofs.put_woven.Given as goal

abbrev pub invariant-loop-slot : goal.invariant-loop-slot
invariant-loop-slot l =
    (l.next + holes (drop l.slot-index l.pattern) ≤ length l.texts)
    × Running (woven l.d l.pattern l.texts) (woven l.d (drop l.slot-index l.pattern) (drop l.next l.texts)) l.initial.out l.out l.at
