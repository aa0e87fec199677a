use Rattle.sheets.proofs.Telling.{exit-is}
use Rattle.to_message.proofs.Calling.{call-refused}
use Rattle.to_message.proofs.to_message.Goals as goal

pub returns-in_err-size : goal.returns-in_err-size
returns-in_err-size c = call-refused _ _ c.in_err-size.ensures _ (exit-is c.from_residual.ensures.1)
