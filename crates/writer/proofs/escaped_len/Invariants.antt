use mathlib.Core.Path.{◌≡◌}
use Prim.Native.Nat.{◌+◌, ◌-◌, ◌*◌, ◌≤◌}
use lib.ListN.{length, drop}
use Rattle.rules.specs.declared.Mode.TheVariants.{One}
use Rattle.rules.specs.Shift.{marks}
use Rattle.rules.specs.Escape.{escape, escape_met}
use Rattle.writer.proofs.escaped_len.Given as goal

abbrev pub invariant-loop-i : goal.invariant-loop-i
invariant-loop-i l = (l.i ≤ length l.text) × (l.n ≤ 3 * l.i) × (l.n + length (escape_met l.d (marks 0x0D One (drop l.i l.text))) ≡ length (escape l.d l.text))

abbrev pub decreases-loop-i : goal.decreases-loop-i
decreases-loop-i l = length l.text - l.i
