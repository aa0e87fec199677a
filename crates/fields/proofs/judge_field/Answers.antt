use borrow.Author.Rules.{rules}
use Rattle.std.proofs.lemmas.Result.{IfOk-weaker}
use Rattle.fields.proofs.Laws.{told_one, told-three, told-charset, told_names, read_one, read-three, read-charset, read_names, small_one, small-first, small-second, small-third}
use Rattle.fields.proofs.judge_field.Goals as goal

pub one-requires : goal.one-requires
one-requires c = search (small_one, rules)

pub three-requires : goal.three-requires
three-requires c = search (small-first, small-second, small-third, rules)

pub returns-in-One-clause-told : goal.returns-in-One-clause-told
returns-in-One-clause-told c = search (told_one, rules)

pub returns-in-One-clause-read : goal.returns-in-One-clause-read
returns-in-One-clause-read c = IfOk-weaker _ _ _ (λ e h. read_one _ _ _ _ _ _ _ _ _ h _ c.in-One.is c.one.ensures.components_of) c.divided.ensures.read

pub returns-in-Three-clause-told : goal.returns-in-Three-clause-told
returns-in-Three-clause-told c = search (told-three, rules)

pub returns-in-Three-clause-read : goal.returns-in-Three-clause-read
returns-in-Three-clause-read c = IfOk-weaker _ _ _ (λ e h. read-three _ _ _ _ _ _ _ _ _ h _ _ _ c.in-Three.is c.three.ensures.components_of) c.divided-in-Three.ensures.read

pub returns-in-Charset-clause-told : goal.returns-in-Charset-clause-told
returns-in-Charset-clause-told c = search (told-charset, rules)

pub returns-in-Charset-clause-read : goal.returns-in-Charset-clause-read
returns-in-Charset-clause-read c = IfOk-weaker _ _ _ (λ e h. read-charset _ _ _ _ _ _ _ h c.in-Charset.is c.charset.ensures.closed_of) c.undivided.ensures.read

pub returns-in-Names-clause-told : goal.returns-in-Names-clause-told
returns-in-Names-clause-told c = search (told_names, rules)

pub returns-in-Names-clause-read : goal.returns-in-Names-clause-read
returns-in-Names-clause-read c = IfOk-weaker _ _ _ (λ e h. read_names _ _ _ _ _ _ _ h c.in-Names.is c.names.ensures.closed_of) c.undivided-in-Names.ensures.read
