use Rattle.groups.specs.Groups.{four_of}
use Rattle.groups.proofs.Laws.{filled-by}
use Rattle.groups.proofs.Obx5.agrees.Goals as goal

pub returns : goal.returns
returns c = c.agrees.ensures (four_of c.args.self.now) (filled-by _ c.is_empty.ensures) c.beside.ensures
