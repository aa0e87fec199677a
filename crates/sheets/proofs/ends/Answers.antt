use borrow.Author.Rules.{rules}
use Rattle.sheets.proofs.Telling.{ends-none, ends_some}
use Rattle.sheets.proofs.ends.Goals as goal

pub returns-in-empty : goal.returns-in-empty
returns-in-empty c = search (ends-none, rules)

pub returns-in-len1-up : goal.returns-in-len1-up
returns-in-len1-up c = search (ends_some, rules)
