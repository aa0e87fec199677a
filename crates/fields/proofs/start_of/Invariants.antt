use Prim.Native.Nat.{◌-◌, ◌≤◌}
use mathlib.Core.Path.{◌≡◌}
use lib.ListN.{length, drop}
use Rattle.rules.specs.Shift.{met}
use Rattle.scan.specs.Scan.{onward}
use Rattle.fields.proofs.start_of.Given as goal

abbrev pub invariant-loop-i : goal.invariant-loop-i
invariant-loop-i l = (l.at ≤ length l.s) × (met (drop l.at l.s) ≡ onward l.d.field (l._i - l.fn.w.field) (met (drop l.fn.w.at l.s)))
