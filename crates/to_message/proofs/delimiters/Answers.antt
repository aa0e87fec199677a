use mathlib.Core.Path.{refl}
use Rattle.rules.specs.Message.{base}
use Rattle.to_message.proofs.delimiters.Goals as goal

pub returns : goal.returns
unfolding base
returns c = refl
