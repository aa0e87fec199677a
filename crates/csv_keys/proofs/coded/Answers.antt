use borrow.Author.Rules.{rules}
use Rattle.csv_keys.proofs.Codes.{code-none, code-plain, code-few, code-met, code-other}
use Rattle.csv_keys.proofs.coded.Goals as goal

pub returns-then-equal : goal.returns-then-equal
returns-then-equal c = search (code-met, rules)

pub in_place-requires : goal.in_place-requires
in_place-requires c = record { plain = search (code-plain, rules); few = search (code-few, rules) }

pub loop-code-preserved : goal.loop-code-preserved
loop-code-preserved c = search (code-other, rules)

pub returns : goal.returns
returns c = search (code-none, rules)
