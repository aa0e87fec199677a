use borrow.Author.Rules.{rules}
use Rattle.openings.proofs.Opening.{behind-item, behind-order, behind-neither}
use Rattle.openings.proofs.behind_result.Goals as goal

pub returns-then-starts_with : goal.returns-then-starts_with
returns-then-starts_with c = search (behind-item, rules)

pub returns-then-starts_with-2 : goal.returns-then-starts_with-2
returns-then-starts_with-2 c = search (behind-order, rules)

pub returns : goal.returns
returns c = search (behind-neither, rules)
