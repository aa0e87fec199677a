use borrow.Author.Rules.{rules}
use Rattle.sources.proofs.Laws.{field-leads}
use mathlib.Core.Path.{refl}
use Rattle.rules.specs.Lists.{bytes}
use Rattle.report_patient.proofs.Laws.{from_names_is, names_free}
use Rattle.report_patient.proofs.from_names.Goals as goal

pub field_behind-u-requires : goal.field_behind-u-requires
field_behind-u-requires c = search (field-leads, rules)

pub names-requires : goal.names-requires
names-requires c = search (names_free, rules)

pub returns : goal.returns
unfolding bytes
returns c =
    from_names_is _ _ _ _ _ _ _ _ c.names.ensures c.two_fields.ensures c.piece-f.ensures.result_value c.field_behind-u.ensures.result_value refl refl
