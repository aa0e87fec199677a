use mathlib.Core.Path.{refl}
use native.Mathlib.Omega.{arith}
use borrow.Author.Rules.{rules}
use Rattle.rules.specs.Lists.{all}
use Rattle.csv_keys.proofs.Codes.{kind-sn, kind-nm, kind-st}
use Rattle.csv_keys.proofs.value_type.Goals as goal

pub returns-then-form-equal : goal.returns-then-form-equal
returns-then-form-equal c = search (kind-sn, rules)

pub returns-then-is_ok : goal.returns-then-is_ok
returns-then-is_ok c = search (kind-nm, rules)

pub returns : goal.returns
returns c = search (kind-st, rules)

pub in_place-requires : goal.in_place-requires
unfolding all
in_place-requires c = record { plain = refl; few = omega arith }

pub in_place-requires-then-is_ok : goal.in_place-requires-then-is_ok
unfolding all
in_place-requires-then-is_ok c = record { plain = refl; few = omega arith }

pub in_place-requires-2 : goal.in_place-requires-2
unfolding all
in_place-requires-2 c = record { plain = refl; few = omega arith }
