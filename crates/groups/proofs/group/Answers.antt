use borrow.Author.Rules.{rules}
use Rattle.groups.proofs.Laws.{group-none}
use Rattle.groups.proofs.group.Goals as goal

pub returns-in-Orc : goal.returns-in-Orc
returns-in-Orc c = search (group-none, rules)
