-- A text in its room, and what is written behind it. Assumes nothing.
use mathlib.Core.Path.{◌≡◌, sym}
use mathlib.Core.List.{List, ◌++◌, append_assoc}
use Prim.Native.Nat.{ℕ, ◌≤◌, ◌<◌}
use native.Mathlib.Omega.{arith}
use lib.ListN.{length, take, drop, length-append}
use lib.Seq.{take_at, length-take-le}
use Rattle.rules.specs.Lists.{decimal}
use Rattle.rules.proofs.Measures.{tens, decimal-few}
use Rattle.writer.specs.Over.{over_front, over_at, Put}

-- a number of 64 bits
pub number_short : (n : ℕ) → n < 18446744073709551616 → length (decimal n) ≤ 20
unfolding tens
number_short n h = decimal-few 19 n (omega arith)

-- what is written behind the first bytes follows them
pub behind : {at r : ℕ} {x b y : List ℕ} → Put at x b r y → at ≤ length x → take r y ≡ take at x ++ b
unfolding over_front over_at
behind {at} {r} {x} {b} {y} p h =
    rw (p.is, sym (append_assoc (take at x) b (drop (length b) (drop at x))))
    (take_at (take at x ++ b) (drop (length b) (drop at x)) r (simp length-append (omega (arith, p.ends, length-take-le at x h))))
