use borrow.Author.Rules.{rules}
use Rattle.numbered.proofs.Texts.{sn-is}
use Rattle.numbered.proofs.result.Goals as goal

pub structured-requires : goal.structured-requires
structured-requires c = (search rules, search rules, search (sn-is, rules))

pub single-requires : goal.single-requires
single-requires c = (search rules, search rules, search (sn-is, rules))
