use Rattle.std.proofs.Common.{rules}
use borrow.Author.Tests.{tests}
use Rattle.std.proofs.lemmas.Iterator.{YieldsList-from_slice}
use Rattle.std.proofs.lemmas.Iterator.Search.{position_from_yields_List}
use Rattle.plain_bytes.specs.Bytes.{is_byte}
use Rattle.plain_bytes.proofs.Laws.{before_by}
use Rattle.plain_bytes.proofs.before.Goals as goal

pub returns-clause-value : goal.returns-clause-value
returns-clause-value c =
    before_by c.args.sep c.args.s.now c.position.result c.unwrap_or.result
    (position_from_yields_List (is_byte c.args.sep) _ _ _ c.position.ensures.ran (YieldsList-from_slice c.args.s.now cc) (λ x b q k. search (rules, tests)))
    c.unwrap_or.ensures
