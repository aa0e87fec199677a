use Rattle.report.proofs.Laws.{fields_are}
use Rattle.report.proofs.two_fields.Goals as goal

pub returns : goal.returns
returns c =
    fields_are _ _ _ _ _ _ _ _ _ _ c.line.ensures c.line-2.ensures
    c.component-a.ensures.result_value c.field_behind-u.ensures.result_value c.component-b.ensures.result_value
