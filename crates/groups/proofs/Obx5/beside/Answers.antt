use Rattle.groups.specs.Groups.{four_of}
use Rattle.groups.proofs.Laws.{filled-by}
use Rattle.groups.proofs.Obx5.beside.Goals as goal

pub returns : goal.returns
returns c = c.beside.ensures (four_of c.args.self.now) (filled-by _ c.is_empty.ensures) (filled-by _ c.is_empty-2.ensures) (filled-by _ c.is_empty-3.ensures)
