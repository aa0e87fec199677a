use borrow.Author.Rules.{rules}
use Rattle.writer.specs.Woven.{holes, taken, sizes}
use Rattle.segments.proofs.Texts.{common-is}
use Rattle.segments.proofs.common_order.Goals as goal

pub fit_woven-requires : goal.fit_woven-requires
unfolding holes taken sizes
fit_woven-requires c = search rules

pub returns : goal.returns
returns c = search (common-is, rules)
