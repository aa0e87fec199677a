use mathlib.Core.Path.{refl}
use Rattle.value.specs.Rules.{fault_no}
use Rattle.fields.specs.Fields.{form_fault, form_head}
use Rattle.fields.proofs.Laws.{is-passed, is-broken}
use Rattle.fields.proofs.field.Goals as goal

pub returns-in-Ok : goal.returns-in-Ok
unfolding fault_no
returns-in-Ok c =
    is-passed c.args.d c.args.s.now c.args.number (form_fault c.args.d c.args.form) (form_head c.args.d c.args.form) c.args.w c.start_of-start.result c.start_of-start.ensures.s_value
    _ _ c.requires.0 c.in-Ok.ensures.told c.start_of-start.ensures.within c.in-Ok.ensures.read c.in-Ok.ensures.within refl refl refl

pub returns-in-Err : goal.returns-in-Err
unfolding fault_no
returns-in-Err c =
    is-broken c.args.d c.args.s.now c.args.number (form_fault c.args.d c.args.form) (form_head c.args.d c.args.form) c.args.w c.start_of-start.result c.start_of-start.ensures.s_value
    _ c.in-Err.ensures.told refl
