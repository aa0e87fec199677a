use mathlib.Core.Path.{refl, sym}
use borrow.Author.Rules.{rules}
use Rattle.rules.proofs.Logic.{never}
use Rattle.sheets.proofs.Telling.{exit-is, readable-short}
use Rattle.to_message.proofs.Calling.{base-proper, measure-not, measure-all}
use Rattle.to_message.proofs.measure.Goals as goal

pub returns-in_err-readable : goal.returns-in_err-readable
returns-in_err-readable c = measure-not _ _ c.in_err-readable.ensures _ refl (exit-is c.from_residual.ensures.1)

pub pass-requires : goal.pass-requires
pass-requires c = (readable-short _ _ c.in_ok-readable.ensures refl, λ k. never (sym k), search (base-proper, rules))

pub returns : goal.returns
returns c = measure-all _ _ c.in_ok-readable.ensures refl _ c.delimiters-d.ensures _ _ _ c.pass.ensures
