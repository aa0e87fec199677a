use borrow.Author.Rules.{rules}
use mathlib.Core.Path.{◌≡◌}
use lib.ListN.{length}
use Rattle.rules.specs.Told.{◌then◌}
use Rattle.value.specs.Rules.{fault_no}
use Rattle.value.proofs.Laws.{and-then}
use Rattle.closed.proofs.Laws.{kanji-alone, kanji-kana}
use Rattle.closed.proofs.both.Goals as goal

pub returns-then-is_empty : goal.returns-then-is_empty
returns-then-is_empty c = search (kanji-alone, rules)

pub returns : goal.returns
returns c =
    let e : fault_no c.and.result ≡ (fault_no c.name-kanji.result then fault_no c.name.result) = and-then _ _ _ c.and.ensures in
    let f : length c.repetition-kana.result.now ≡ 0 → ⊥ = search rules in
    search (kanji-kana, rules)
