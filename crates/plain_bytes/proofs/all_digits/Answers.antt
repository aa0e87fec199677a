use Rattle.std.proofs.Common.{rules}
use borrow.Author.Tests.{tests}
use Rattle.std.proofs.lemmas.Iterator.{YieldsList-from_slice}
use Rattle.std.proofs.lemmas.Iterator.Search.{all_from_yields_List}
use Rattle.rules.specs.Frame.{digit}
use Rattle.plain_bytes.proofs.Laws.{all_by}
use Rattle.plain_bytes.proofs.all_digits.Goals as goal

pub returns : goal.returns
returns c =
    all_by digit c.args.v.now c.all.result
    (all_from_yields_List digit _ _ _ c.all.ensures.ran (YieldsList-from_slice c.args.v.now cc) (λ x b q k. search (rules, tests)))
