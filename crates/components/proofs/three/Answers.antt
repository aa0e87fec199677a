use borrow.Author.Rules.{rules}
use mathlib.Core.List.{[], ◌∷◌}
use Rattle.components.proofs.Laws.{next-within}
use Rattle.components.proofs.three.Goals as goal

pub led-requires : goal.led-requires
led-requires c = search (next-within, rules)

pub led-requires-2 : goal.led-requires-2
led-requires-2 c = search (next-within, rules)

pub returns-clause-components_of : goal.returns-clause-components_of
returns-clause-components_of c =
    c.led-2.ensures.components_of c.args.d c.args.a (c.args.b ∷ c.args.c ∷ []) c.requires.0 c.behind-u.ensures c.component-x.ensures.judged_of
    (c.led.ensures.components_of c.args.d c.args.b (c.args.c ∷ []) c.requires.0 c.behind-v.ensures c.component-y.ensures.judged_of c.one.ensures.components_of)
