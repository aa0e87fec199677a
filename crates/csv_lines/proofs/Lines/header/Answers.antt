use borrow.Author.Rules.{rules}
use Rattle.rules.specs.Lists.{bytes}
use Rattle.csv_lines.proofs.Groups.{header_is}
use Rattle.csv_lines.proofs.Lines.header.Goals as goal

pub returns : goal.returns
unfolding bytes
returns c = search (header_is, rules)
