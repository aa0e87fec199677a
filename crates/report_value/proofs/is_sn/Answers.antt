use borrow.Author.Rules.{rules}
use Rattle.rules.specs.Lists.{bytes}
use Rattle.report_value.proofs.Laws.{sn_is}
use Rattle.report_value.proofs.is_sn.Goals as goal

pub returns : goal.returns
unfolding bytes
returns c = search (sn_is, rules)
