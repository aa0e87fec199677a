use borrow.Author.Rules.{rules}
use Rattle.csv_check.proofs.Count.{digit_low, goes-low, goes-high}
use Rattle.csv_check.proofs.one_more.Goals as goal

pub overflow_sub-result : goal.overflow_sub-result
overflow_sub-result c = search (digit_low, rules)

pub returns-then-n-lt1000000000000000000 : goal.returns-then-n-lt1000000000000000000
returns-then-n-lt1000000000000000000 c = search (goes-low, rules)

pub returns : goal.returns
returns c = search (goes-high, rules)
