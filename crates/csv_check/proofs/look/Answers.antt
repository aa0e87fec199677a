use borrow.Author.Rules.{rules}
use Rattle.csv_check.proofs.Lines.{look-all}
use Rattle.csv_check.proofs.look.Goals as goal

pub returns : goal.returns
returns c = record { looked_is = search (look-all, rules); rows = search rules }
