use borrow.Author.Rules.{rules}
use Rattle.groups.proofs.Laws.{four-are}
use Rattle.groups.proofs.Obx5.of.Goals as goal

pub returns : goal.returns
returns c = search (four-are, rules)
