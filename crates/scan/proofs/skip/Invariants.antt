use mathlib.Core.Path.{◌≡◌}
use Prim.Native.Nat.{◌-◌, ◌≤◌}
use lib.ListN.{length, drop}
use Rattle.rules.specs.Shift.{met}
use Rattle.scan.specs.Scan.{onward}
use Rattle.scan.proofs.skip.Given as goal

abbrev pub invariant-loop : goal.invariant-loop
invariant-loop l = (l.at ≤ length l.s) × (onward l.sep l.n (met l.s) ≡ onward l.sep (l.n - l.counter) (met (drop l.at l.s)))
