-- The claims are not empty: the whole case keeps the rules, its counts and a part are given, and with sex Q it keeps them not. Assumes nothing.
use mathlib.Core.Path.{◌≡◌, refl, sym, ◌∙◌}
use native.Mathlib.Omega.{arith}
use Rattle.rules.specs.Told.{gives, accepted}
use Rattle.rules.specs.Lists.{bytes}
use Rattle.rules.specs.WholeCase.{whole_message, sex_q, the_case, whole-accepted, sex_q-refused}
use Rattle.rules.proofs.Logic.{not-given}
use Rattle.kept.specs.Kept.{Kept}
use Rattle.kept.specs.Given.{counts_given, part_shown, Fetches}
use Rattle.kept.proofs.Given as Given

pub whole-kept : Kept whole_message
whole-kept = ((Given.accepted whole_message).0 _ whole-accepted).0

pub whole-counts : gives (counts_given whole_message) ≡ accepted 1 1 2
whole-counts = sym ((Given.accepted whole_message).1 whole-kept) ∙ whole-accepted

pub sex_q-not-kept : Kept sex_q → ⊥
sex_q-not-kept K = not-given (sym sex_q-refused ∙ (Given.accepted sex_q).1 K)

-- PID-3
pub whole-patient : Fetches whole_message 2 3 1 (bytes "P7")
unfolding the_case part_shown
whole-patient = Given.parts-given whole_message whole-kept 1 3 1 _ refl (omega arith) (omega arith)
