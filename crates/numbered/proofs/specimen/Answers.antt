use borrow.Author.Rules.{rules}
use Rattle.writer.specs.Woven.{holes, taken, sizes}
use Rattle.numbered.proofs.Texts.{specimen-is}
use Rattle.numbered.proofs.specimen.Goals as goal

pub fit_woven-requires : goal.fit_woven-requires
unfolding holes taken sizes
fit_woven-requires c = search rules

pub returns : goal.returns
returns c = search (specimen-is, rules)
