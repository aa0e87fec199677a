use borrow.Author.Rules.{rules}
use Rattle.csv_check.proofs.Count.{count-starts, count-not, count-digit, count-on, count-seven, count-few}
use Rattle.csv_check.proofs.column_count.Goals as goal

pub loop-b-init : goal.loop-b-init
loop-b-init c = search (count-starts, rules)

pub returns-then-not-is_digit : goal.returns-then-not-is_digit
returns-then-not-is_digit c = search (count-not, rules)

pub one_more-number-requires : goal.one_more-number-requires
one_more-number-requires c = search (count-digit, rules)

pub loop-b-preserved : goal.loop-b-preserved
loop-b-preserved c = search (count-on, rules)

pub returns-then-number-ge7 : goal.returns-then-number-ge7
returns-then-number-ge7 c = search (count-seven, rules)

pub returns-else-number-ge7 : goal.returns-else-number-ge7
returns-else-number-ge7 c = search (count-few, rules)
