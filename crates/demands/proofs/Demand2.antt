-- Demand 2, proved. Assumes nothing.
use Rattle.kept.proofs.Given as goal
use Rattle.returns.proofs.Demand2 as Returned
use Rattle.demands.specs.Demand2.{Demand2}

pub demand2 : Demand2
demand2 =
    record {
      accepted = goal.accepted;
      parts = goal.parts-given;
      sheet = goal.sheet-given;
      check = goal.check-calls;
      fetch = goal.fetch-calls;
      turn = goal.turn-calls;
      written = Returned.sheet-is-written;
      sheet-returns = Returned.sheet-returns;
      message-returns = Returned.message-returns;
      sheet-calls = Returned.sheet-calls;
      message-calls = Returned.message-calls;
    }
