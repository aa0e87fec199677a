use borrow.Author.Rules.{rules}
use Rattle.fields.specs.Segment.{said}
use Rattle.specimen.proofs.Laws.{orc-1, orc-2, orc-differs, orc-end}
use Rattle.specimen.proofs.orc.Goals as goal

pub returns-in_err-w : goal.returns-in_err-w
returns-in_err-w c = orc-1 c.begin-w.ensures c.in_err-w.ensures c.from_residual.ensures.1 (said c.args.order.now)

pub returns-in_err-w-2 : goal.returns-in_err-w-2
returns-in_err-w-2 c = orc-2 c.begin-w.ensures c.in_ok-w.ensures c.in_err-w-2.ensures c.from_residual-in_err-w-2.ensures.1 (said c.args.order.now)

pub returns-then-not-equal : goal.returns-then-not-equal
returns-then-not-equal c = orc-differs c.begin-w.ensures c.in_ok-w.ensures c.in_ok-w-2.ensures c.requires _ _ _ c.equal.ensures c.head_of.ensures (search rules)

pub returns : goal.returns
returns c = orc-end c.begin-w.ensures c.in_ok-w.ensures c.in_ok-w-2.ensures c.requires _ _ _ c.equal.ensures c.head_of.ensures (search rules)
