use borrow.Author.Rules.{rules}
use Rattle.sources.proofs.Laws.{field-leads}
use Rattle.report_result.proofs.Laws.{from_value_is}
use Rattle.report_result.proofs.from_value.Goals as goal

pub field_behind-u-requires : goal.field_behind-u-requires
field_behind-u-requires c = search (field-leads, rules)

pub returns : goal.returns
returns c =
    from_value_is _ _ _ _ _ _ _ c.parts.ensures c.from_unit.ensures c.piece-f.ensures.result_value c.field_behind-u.ensures.result_value
