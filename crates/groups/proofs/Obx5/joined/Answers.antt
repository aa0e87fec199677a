use Rattle.groups.specs.Groups.{four_of}
use Rattle.groups.proofs.Laws.{blank-by, filled-by}
use Rattle.groups.proofs.Obx5.joined.Goals as goal

pub returns : goal.returns
returns c = rw (c.unjoined-unjoined.ensures (four_of c.args.self.now) (filled-by _ c.is_empty.ensures) (filled-by _ c.is_empty-2.ensures), c.beside.ensures, blank-by _ c.is_empty-3.ensures)
