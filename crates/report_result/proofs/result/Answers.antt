use Rattle.report_result.proofs.Laws.{result_is}
use Rattle.report_result.proofs.result.Goals as goal

pub returns : goal.returns
returns c =
    result_is _ _ _ _ _ _ c.from_item.ensures c.onward-t.ensures.result_value c.component-obx2.ensures.result_value c.field_behind-u.ensures.result_value
