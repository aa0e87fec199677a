use Prim.Native.Nat.{◌+◌}
use mathlib.Core.Path.{◌≡◌}
use lib.ListN.{drop}
use Rattle.rules.specs.declared.Mode.TheVariants.{One}
use Rattle.spot.specs.Spot.{kept_bytes}
use Rattle.spot.proofs.kept_bytes.Given as goal

abbrev pub invariant-loop-i : goal.invariant-loop-i
invariant-loop-i l = (kept_bytes l.end One l.s ≡ l.i + kept_bytes l.end l.mode (drop l.i l.s))
