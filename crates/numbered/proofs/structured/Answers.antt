use mathlib.Core.Path.{refl}
use borrow.Author.Rules.{rules}
use native.Mathlib.Omega.{arith}
use Rattle.writer.specs.Woven.{holes, taken, sizes}
use Rattle.numbered.proofs.Texts.{structured-is}
use Rattle.numbered.proofs.structured.Goals as goal

pub fit_woven-requires : goal.fit_woven-requires
unfolding holes taken sizes
fit_woven-requires c =
    (search rules, omega (arith, c.requires, c.value_at-item.ensures.within, c.value_at-name.ensures.within, c.value_at-value_type.ensures.within, c.value_at-compare.ensures.within, c.value_at-value.ensures.within, c.value_at-join.ensures.within, c.value_at-second.ensures.within, c.value_at-unit.ensures.within, c.value_at-flag.ensures.within, c.value_at-status.ensures.within), search rules, c.requires.0.proper)

pub returns : goal.returns
returns c = record {
  fit = structured-is _ _ _ _ _ _ _ _ _ _ _ _ _ _ _ _ _ refl c.value_at-item.ensures.value c.value_at-name.ensures.value c.value_at-value_type.ensures.value c.value_at-compare.ensures.value c.value_at-value.ensures.value c.value_at-join.ensures.value c.value_at-second.ensures.value c.value_at-unit.ensures.value c.value_at-flag.ensures.value c.value_at-status.ensures.value c.requires.2 c.fit_woven.ensures.fit;
  within = c.fit_woven.ensures.within;
}
