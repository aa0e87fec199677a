use mathlib.Core.Path.{◌≡◌}
use Rattle.rules.specs.Shift.{met}
use Rattle.components.specs.Components.{forward}
use Rattle.closed.proofs.forward.Given as goal

abbrev pub invariant-loop-i : goal.invariant-loop-i
invariant-loop-i l = met l.rest ≡ forward l.d l._i (met l.t)
