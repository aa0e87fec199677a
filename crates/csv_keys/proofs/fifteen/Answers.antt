use borrow.Author.Rules.{rules}
use Rattle.csv_keys.proofs.Items.{fifteen-stays, fifteen-other, fifteen-key, at-most}
use Rattle.csv_keys.proofs.fifteen.Goals as goal

pub returns-then-len : goal.returns-then-len
returns-then-len c = search (fifteen-stays, rules)

pub returns-then-not-all_digits : goal.returns-then-not-all_digits
returns-then-not-all_digits c = search (fifteen-other, rules)

pub overflow_sub-end : goal.overflow_sub-end
overflow_sub-end c = search (at-most, rules)

pub returns : goal.returns
returns c = search (fifteen-key, rules)
