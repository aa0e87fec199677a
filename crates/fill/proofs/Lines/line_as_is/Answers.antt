use borrow.Author.Rules.{rules}
use mathlib.Core.Path.{refl}
use Rattle.fill.proofs.Laws.{line_is}
use Rattle.fill.proofs.Lines.line_as_is.Goals as goal

pub returns : goal.returns
returns c =
    line_is _ _ (λ d. c.args.value.now) c.put.ensures.same c.put-2.ensures.same c.put-3.ensures.same
    c.put.ensures.filled c.put-2.ensures.filled c.put-3.ensures.filled refl (search rules)
