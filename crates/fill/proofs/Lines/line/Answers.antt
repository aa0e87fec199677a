use borrow.Author.Rules.{rules}
use mathlib.Core.Path.{refl}
use Rattle.rules.specs.Shift.{met}
use Rattle.rules.specs.Judge.{plain_of}
use Rattle.fill.proofs.Laws.{line_is}
use Rattle.fill.proofs.Lines.line.Goals as goal

pub returns : goal.returns
returns c =
    line_is _ _ (λ d. plain_of d (met c.args.raw.text.now)) c.put.ensures.same c.text.ensures.same c.put-2.ensures.same
    c.put.ensures.filled c.text.ensures.filled c.put-2.ensures.filled refl (search rules)
