use mathlib.Core.Bool.{false}
use Prim.Native.Nat.{◌-◌, ◌≤◌}
use lib.ListN.{length}
use Rattle.csv_rules.specs.Kanji.{converted}
use Rattle.csv_rules.specs.Written.{halved}
use Rattle.reach.proofs.Laws.{Writing}
use Rattle.sjis.proofs.Writing.{left_at}
use Rattle.sjis.proofs.put_converted.Given as goal

abbrev pub invariant-loop-i : goal.invariant-loop-i
invariant-loop-i l = (l.i ≤ length l.raw) × Writing (converted (halved false l.raw)) (left_at l.two l.raw l.i) l.initial.out l.out l.at l.k

abbrev pub decreases-loop-i : goal.decreases-loop-i
decreases-loop-i l = length l.raw - l.i
