use mathlib.Core.Path.{refl}
use Rattle.lines.proofs.Laws.{exit-is}
use Rattle.groups.proofs.Laws.{names-wrong, kana-wrong, patient-is}
use Rattle.groups.proofs.patient.Goals as goal

pub returns-in_err-line : goal.returns-in_err-line
returns-in_err-line c = patient-is _ c.in_ok-kana.ensures c.in_err-line.ensures refl (exit-is c.from_residual-in_err-line.ensures.1)

pub returns : goal.returns
returns c = patient-is _ c.in_ok-kana.ensures c.in_ok-line.ensures c.line-2.ensures refl

pub returns-in_err-named : goal.returns-in_err-named
returns-in_err-named c = rw (exit-is c.from_residual.ensures.1) (names-wrong _ c.in_err-named.ensures)

pub returns-in_err-kana : goal.returns-in_err-kana
returns-in_err-kana c = rw (exit-is c.from_residual-in_err-kana.ensures.1) (kana-wrong _ c.in_err-kana.ensures)
