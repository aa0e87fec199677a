use borrow.Author.Rules.{rules}
use Rattle.fields.proofs.Chain.{handed-found}
use Rattle.obx.proofs.Laws.{obx-6, obx-8, obx-11, obx-status, obx-end}
use Rattle.obx.proofs.obx.Goals as goal

pub returns-in_err-v : goal.returns-in_err-v
returns-in_err-v c = handed-found c.in_err-v.ensures c.from_residual.ensures.1

pub returns-in_err-w : goal.returns-in_err-w
returns-in_err-w c = obx-6 c.in_ok-v.ensures c.in_err-w.ensures c.from_residual-in_err-w.ensures.1

pub returns-in_err-w-2 : goal.returns-in_err-w-2
returns-in_err-w-2 c = obx-8 c.in_ok-v.ensures c.in_ok-w.ensures c.in_err-w-2.ensures c.from_residual-in_err-w-2.ensures.1

pub returns-in_err-w-3 : goal.returns-in_err-w-3
returns-in_err-w-3 c = obx-11 c.in_ok-v.ensures c.in_ok-w.ensures c.in_ok-w-2.ensures c.in_err-w-3.ensures c.from_residual-in_err-w-3.ensures.1

pub returns-then-not-agrees : goal.returns-then-not-agrees
returns-then-not-agrees c =
    obx-status c.in_ok-v.ensures c.in_ok-w.ensures c.in_ok-w-2.ensures c.in_ok-w-3.ensures c.requires _ _ c.head_of.ensures c.agrees.ensures (search rules)

pub returns : goal.returns
returns c = obx-end c.in_ok-v.ensures c.in_ok-w.ensures c.in_ok-w-2.ensures c.in_ok-w-3.ensures c.requires _ _ c.head_of.ensures c.agrees.ensures (search rules)
