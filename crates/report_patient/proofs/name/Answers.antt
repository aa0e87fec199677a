use Rattle.report_patient.proofs.Laws.{name_is}
use Rattle.report_patient.proofs.name.Goals as goal

pub returns : goal.returns
returns c =
    name_is _ _ _ _ _ _ _ _ _ _ _ c.line.ensures c.line-2.ensures c.repetition.ensures.marked_of
    c.component-a.ensures.result_value c.next_component-u.ensures.result_value c.component-b.ensures.result_value
