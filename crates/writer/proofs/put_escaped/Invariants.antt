use Prim.Native.Nat.{◌-◌, ◌≤◌}
use lib.ListN.{length, drop}
use Rattle.rules.specs.declared.Mode.TheVariants.{One}
use Rattle.rules.specs.Shift.{marks}
use Rattle.rules.specs.Escape.{escape, escape_met}
use Rattle.writer.proofs.Laws.{Running}
use Rattle.writer.proofs.put_escaped.Given as goal

abbrev pub invariant-loop-i : goal.invariant-loop-i
invariant-loop-i l = (l.i ≤ length l.text) × Running (escape l.d l.text) (escape_met l.d (marks 0x0D One (drop l.i l.text))) l.initial.out l.out l.at

abbrev pub decreases-loop-i : goal.decreases-loop-i
decreases-loop-i l = length l.text - l.i
