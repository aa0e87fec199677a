-- The order rule's state, as the code has it and as the definitions have it.
use Rattle.rules.specs.Frame as Frame
use Rattle.order.specs.declared.Reached.{Reached}

abbrev pub reached_of : Reached → Frame.Reached
reached_of a = record { last = a.last }

abbrev pub code_reached : Frame.Reached → Reached
code_reached a = record { last = a.last }
