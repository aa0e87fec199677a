use mathlib.Core.Path.{ap}
use lib.ListN.{length}
use native.Mathlib.Omega.{arith}
use Rattle.writer.proofs.Laws.{start, then}
use Rattle.writer.proofs.Decimals.{decimal-one, decimal-more, decimal-more-length}
use Rattle.writer.proofs.+put_number.Goals as goal

pub put_at-requires : goal.put_at-requires
put_at-requires t c = omega (arith, ap length (decimal-one _ c.if-n-lt10.true))

pub returns-then-n-lt10 : goal.returns-then-n-lt10
returns-then-n-lt10 t c = rw (decimal-one _ c.if-n-lt10.true) (then (start _) c.put_at.ensures)

pub put_number-k-requires : goal.put_number-k-requires
put_number-k-requires t c = (omega arith, omega (arith, decimal-more-length _ c.if-n-lt10.false))

pub put_at-requires-2 : goal.put_at-requires-2
put_at-requires-2 t c = omega (arith, decimal-more-length _ c.if-n-lt10.false)

pub returns : goal.returns
returns t c = rw (decimal-more _ c.if-n-lt10.false) (then c.put_number-k.ensures c.put_at-2.ensures)
