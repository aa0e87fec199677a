use mathlib.Core.Path.{refl}
use Rattle.sheets.proofs.Telling.{exit-is, readable-short, judged-wrong, judged-right}
use Rattle.sheets.proofs.judge.Goals as goal

pub read_groups-requires : goal.read_groups-requires
read_groups-requires c = readable-short _ _ c.in_ok-readable.ensures refl

pub returns-in_err-readable : goal.returns-in_err-readable
returns-in_err-readable c = judged-wrong _ _ c.in_err-readable.ensures _ refl (exit-is c.from_residual.ensures.1)

pub returns : goal.returns
returns c = judged-right _ _ c.in_ok-readable.ensures refl _ c.read_groups.ensures
