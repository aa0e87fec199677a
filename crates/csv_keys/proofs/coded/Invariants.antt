use mathlib.Core.Path.{◌≡◌}
use mathlib.Core.Bool.{false}
use lib.ListN.{drop}
use Rattle.csv_rules.specs.Written.{halved}
use Rattle.csv_keys.specs.Ways.{meaning_in}
use Rattle.csv_keys.proofs.coded.Given as goal

abbrev pub invariant-loop-code : goal.invariant-loop-code
invariant-loop-code l = meaning_in l.codes (halved false l.raw) ≡ meaning_in (drop l.code-index l.codes) (halved false l.raw)
