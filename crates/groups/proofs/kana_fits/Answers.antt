use Rattle.groups.proofs.Laws.{blank-by}
use Rattle.groups.proofs.kana_fits.Goals as goal

pub returns : goal.returns
returns c = rw (blank-by _ c.is_empty.ensures, blank-by _ c.is_empty-2.ensures)
