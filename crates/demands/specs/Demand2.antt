-- DEMAND 2. "A message is accepted exactly if it keeps the rules of document 01; counts, parts and sheet are those that the rules give. A
-- sheet that is written and read returns byte for byte." The claims stand in `kept` specs/Given and in `returns` specs/Demand2.
use Rattle.kept.specs.Given.{Accepted, PartsGiven, SheetGiven, CheckCalls, FetchCalls, TurnCalls}
use Rattle.returns.specs.Demand2.{SheetIsWritten, SheetReturns, MessageReturns, SheetCalls, MessageCalls}

pub record Demand2 : Type 0 where
  -- "A message is accepted exactly if it keeps the rules of document 01; counts .. are those that the rules give."
  pub accepted : Accepted
  -- "parts"
  pub parts : PartsGiven
  -- "and sheet"
  pub sheet : SheetGiven
  -- what the calls `check`, `fetch` and `to_sheet` return
  pub check : CheckCalls
  pub fetch : FetchCalls
  pub turn : TurnCalls
  -- "A sheet that is written and read returns byte for byte": it is written, unless 44 or 45 is given, and its message gives it back
  pub written : SheetIsWritten
  pub sheet-returns : SheetReturns
  -- "An accepted message turned into a sheet and, if not refused with 44, written again reads as the same sheet."
  pub message-returns : MessageReturns
  -- what the calls `to_message` and `to_sheet` return and leave in their buffers
  pub sheet-calls : SheetCalls
  pub message-calls : MessageCalls
