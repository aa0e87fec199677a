use Rattle.value.proofs.Laws.{and-then}
use Rattle.components.proofs.Laws.{led-read}
use Rattle.components.proofs.led.Goals as goal

pub returns-clause-components_of : goal.returns-clause-components_of
returns-clause-components_of c =
    λ d a ps p e j q. led-read d p c.args.t.now c.args.u.now e a ps _ _ _ _ _ _ _ j q (and-then c.args.x.fault c.args.r.fault c.and.result c.and.ensures)
