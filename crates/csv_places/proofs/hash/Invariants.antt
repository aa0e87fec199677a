use mathlib.Core.Path.{◌≡◌}
use mathlib.Core.Bool.{false}
use Prim.Native.Nat.{◌<◌}
use lib.ListN.{drop}
use Rattle.csv_rules.specs.Written.{halved}
use Rattle.csv_places.specs.Places.{hash_from, hash_of}
use Rattle.csv_places.proofs.hash.Given as goal

abbrev pub invariant-loop-b : goal.invariant-loop-b
invariant-loop-b l = (l.h < 4294967296) × (hash_of (halved false l.raw) ≡ hash_from l.h (halved l.second (drop l.b-index l.raw)))
