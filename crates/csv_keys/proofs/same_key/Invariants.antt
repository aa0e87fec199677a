use mathlib.Core.Path.{◌≡◌}
use Prim.Native.Nat.{◌+◌}
use lib.ListN.{length}
use Rattle.rules.specs.Lists.{same}
use Rattle.csv_keys.specs.Keys.{raw_value}
use Rattle.csv_keys.proofs.same_key.Given as goal

abbrev pub invariant-loop-p : goal.invariant-loop-p
invariant-loop-p l = same (raw_value l.a.lead.now l.a.raw.now) (raw_value l.b.lead.now l.b.raw.now) ≡ same (raw_value l.x.lead.now l.x.raw.now) (raw_value l.y.lead.now l.y.raw.now)

abbrev pub decreases-loop-p : goal.decreases-loop-p
decreases-loop-p l = length l.x.lead.now + length l.x.raw.now
