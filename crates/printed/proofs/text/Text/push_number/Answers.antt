use Rattle.std.proofs.Common.{arith}
use Rattle.std.proofs.lemmas.Grind.{common_steps}
use Rattle.printed.proofs.Laws.{number_short, behind}
use Rattle.printed.proofs.text.Text.push_number.Goals as goal

pub put_number_at-self-inside-requires : goal.put_number_at-self-inside-requires
put_number_at-self-inside-requires g c = grind (arith, common_steps, number_short _ c.ranges.n.fits)

pub invariant_of-self : goal.invariant_of-self
invariant_of-self g c = grind (arith, common_steps, number_short _ c.ranges.n.fits)

pub returns-clause-within : goal.returns-clause-within
returns-clause-within g c = grind (arith, common_steps, behind, number_short _ c.ranges.n.fits)
