use mathlib.Core.Path.{refl}
use borrow.Author.Rules.{rules}
use Rattle.writer.specs.Woven.{holes, taken, sizes}
use Rattle.segments.proofs.Texts.{kana-is}
use Rattle.segments.proofs.with_kana.Goals as goal

pub fit_woven-requires : goal.fit_woven-requires
unfolding holes taken sizes
fit_woven-requires c = search (c.requires, rules)

pub returns : goal.returns
returns c = record {
  fit = kana-is _ _ _ _ _ _ _ _ _ _ _ _ _ refl c.value_at-id.ensures.value c.value_at-family.ensures.value c.value_at-given.ensures.value c.value_at-kana_family.ensures.value c.value_at-kana_given.ensures.value c.value_at-birth.ensures.value c.value_at-sex.ensures.value c.requires.1 c.fit_woven.ensures.fit;
  within = c.fit_woven.ensures.within;
}
