use Rattle.fetch.proofs.Laws.{locate-accepted}
use Rattle.fetch.proofs.locate.Goals as goal

pub returns : goal.returns
returns c = locate-accepted _ _ _ _ _ c.check.ensures _ _ c.in_ok-check.was c.place.ensures
