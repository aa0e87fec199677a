use Rattle.lines.proofs.Laws.{exit-is}
use Rattle.groups.proofs.Laws.{item-wrong, parts-wrong, status-is}
use Rattle.groups.proofs.result.Goals as goal

pub returns-in_err-item : goal.returns-in_err-item
returns-in_err-item c = rw (exit-is c.from_residual.ensures.1) (item-wrong _ c.in_err-item.ensures)

pub returns-in_err-parts : goal.returns-in_err-parts
returns-in_err-parts c = rw (exit-is c.from_residual-in_err-parts.ensures.1) (parts-wrong _ c.in_err-parts.ensures)

pub standing-requires : goal.standing-requires
standing-requires c = (c.in_ok-parts.ensures, rw (← c.of-said.ensures, ← status-is _ c.value_at.ensures.value) c.agrees.ensures)
