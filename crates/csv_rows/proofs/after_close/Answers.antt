use borrow.Author.Rules.{rules}
use Rattle.csv_rows.proofs.Items.{behind-end, behind-comma, behind-last, behind-crlf, behind-bad}
use Rattle.csv_rows.proofs.after_close.Goals as goal

pub returns-then-j-file : goal.returns-then-j-file
returns-then-j-file c = search (behind-end, rules)

pub returns-then-file-j-eq44 : goal.returns-then-file-j-eq44
returns-then-file-j-eq44 c = search (behind-comma, rules)

pub returns-then-k-file : goal.returns-then-k-file
returns-then-k-file c = search (behind-last, rules)

pub returns-then-file-j : goal.returns-then-file-j
returns-then-file-j c = search (behind-crlf, rules)

pub returns : goal.returns
returns c = search (behind-bad, rules)
