use mathlib.Core.Path.{◌≡◌}
use Prim.Native.Nat.{◌-◌}
use Rattle.csv_rules.specs.Claims.{place_of}
use Rattle.csv_calls.proofs.place_behind.Given as goal

abbrev pub invariant-loop : goal.invariant-loop
invariant-loop l = place_of l.file l.first l.n ≡ place_of l.file l.at (l.n - l.counter)
