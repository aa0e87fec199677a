use mathlib.Core.Path.{refl}
use Rattle.fields.proofs.Laws.{nothing-broken, broken-is}
use Rattle.obx.proofs.Laws.{value-passed, value-broken}
use Rattle.obx.proofs.value_field.Goals as goal

pub returns-in-Ok : goal.returns-in-Ok
returns-in-Ok c =
    value-passed _ _ _ _ _ _ _ _ _ c.start_of-start.ensures.s_value c.value-r.ensures.value_of _ c.requires.0 (nothing-broken _ _ c.in-Ok.is) c.start_of-start.ensures.within
    c.value-r.ensures.within refl refl refl refl

pub returns-in-Err : goal.returns-in-Err
returns-in-Err c = value-broken _ _ _ _ _ _ _ _ _ c.start_of-start.ensures.s_value c.value-r.ensures.value_of _ (broken-is _ _ c.in-Err.is) refl
