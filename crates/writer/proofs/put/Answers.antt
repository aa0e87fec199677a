use mathlib.Core.Path.{refl}
use native.Mathlib.Omega.{arith}
use lib.ListN.{length, length-set}
use borrow.Author.Rules.{rules}
use Rattle.writer.proofs.Laws.{copy_step, copy-end}
use Rattle.writer.proofs.put.Goals as goal

pub loop-i-init : goal.loop-i-init
loop-i-init c = (refl, refl)

pub loop-i-preserved : goal.loop-i-preserved
loop-i-preserved c = (simp length-set (omega (arith, c.loop-i.invariant.0)), copy_step _ _ _ _ c.loop-i.invariant.1 (search rules) (search rules))

pub returns : goal.returns
returns c = record { ends = search rules; is = copy-end _ _ _ (length c.args.bytes.now) (search (c.loop-i.invariant.1, rules)) refl }
