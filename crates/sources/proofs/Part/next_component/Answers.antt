use Rattle.sources.proofs.Laws.{component-long}
use Rattle.sources.proofs.Part.next_component.Goals as goal

pub behind-requires : goal.behind-requires
behind-requires c = let l = component-long _ _ _ c.requires.0 in (l.0, l.1, c.requires.1)
