use mathlib.Core.Path.{refl}
use borrow.Author.Rules.{rules}
use Rattle.writer.specs.Woven.{holes, taken, sizes}
use Rattle.numbered.proofs.Texts.{single-is}
use Rattle.numbered.proofs.single.Goals as goal

pub fit_woven-requires : goal.fit_woven-requires
unfolding holes taken sizes
fit_woven-requires c = search (c.requires, rules)

pub returns : goal.returns
returns c = record {
  fit = single-is _ _ _ _ _ _ _ _ _ _ _ _ _ _ refl c.value_at-item.ensures.value c.value_at-name.ensures.value c.value_at-value_type.ensures.value c.value_at-value.ensures.value c.value_at-unit.ensures.value c.value_at-flag.ensures.value c.value_at-status.ensures.value c.requires.2 c.fit_woven.ensures.fit;
  within = c.fit_woven.ensures.within;
}
