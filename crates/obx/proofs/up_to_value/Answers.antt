use Rattle.std.proofs.lemmas.Result.{MatchResult-weaker}
use Rattle.obx.proofs.Laws.{handed-match, obx-2, obx-3, obx-5, obx-valued}
use Rattle.obx.proofs.up_to_value.Goals as goal

pub returns-in_err-w : goal.returns-in_err-w
returns-in_err-w c = handed-match _ _ _ _ (obx-2 c.begin-w.ensures c.in_err-w.ensures) c.from_residual.ensures.1

pub returns-in_err-w-2 : goal.returns-in_err-w-2
returns-in_err-w-2 c = handed-match _ _ _ _ (obx-3 c.begin-w.ensures c.in_ok-w.ensures c.in_err-w-2.ensures) c.from_residual-in_err-w-2.ensures.1

pub returns : goal.returns
returns c =
    MatchResult-weaker _ c.value_field.ensures
    (λ v h. obx-valued c.begin-w.ensures c.in_ok-w.ensures c.in_ok-w-2.ensures c.requires _ c.head_of-word.ensures _ _ _ h)
    (λ e h. obx-5 c.begin-w.ensures c.in_ok-w.ensures c.in_ok-w-2.ensures c.requires _ c.head_of-word.ensures _ h)
