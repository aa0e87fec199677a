use mathlib.Core.Path.{◌≡◌}
use mathlib.Core.Bool.{false}
use Prim.Native.Nat.{◌-◌, ◌≤◌}
use lib.ListN.{length}
use Rattle.csv_rules.specs.Kanji.{convertible}
use Rattle.csv_rules.specs.Written.{halved}
use Rattle.sjis.proofs.Laws.{good_all}
use Rattle.sjis.proofs.convertible.Given as goal

abbrev pub invariant-loop-i : goal.invariant-loop-i
invariant-loop-i l = (l.i ≤ length l.raw) × (convertible (halved false l.raw) ≡ good_all l.raw l.i)

abbrev pub decreases-loop-i : goal.decreases-loop-i
decreases-loop-i l = length l.raw - l.i
