use borrow.Author.Rules.{rules}
use Rattle.segments.proofs.Texts.{kana-none, kana-some}
use Rattle.segments.proofs.patient.Goals as goal

pub kanji_alone-requires : goal.kanji_alone-requires
kanji_alone-requires c = (search rules, search (kana-none, rules))

pub with_kana-requires : goal.with_kana-requires
with_kana-requires c = (search rules, search (kana-some, rules))
