use Rattle.report_value.proofs.Laws.{parts_sn, parts_one}
use Rattle.report_value.proofs.parts.Goals as goal

pub returns-then-is_sn : goal.returns-then-is_sn
returns-then-is_sn c = parts_sn _ _ _ _ _ c.is_sn.ensures c.if-is_sn.true c.numbers.ensures

pub returns-else-is_sn : goal.returns-else-is_sn
returns-else-is_sn c = parts_one _ _ _ _ _ c.is_sn.ensures c.if-is_sn.false c.single.ensures
