-- The three demands hold. Assumes nothing.
use Rattle.unread.proofs.Demand3.{demand3}
use Rattle.demands.specs.Demands.{Demands}
use Rattle.demands.proofs.Demand1.{demand1}
use Rattle.demands.proofs.Demand2.{demand2}

pub demands : Demands
demands = record { one = demand1; two = demand2; three = demand3 }
