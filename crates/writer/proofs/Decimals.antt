-- The laws of `decimal`. Assumes nothing.
use mathlib.Core.Path.{◌≡◌, refl, ap, ◌∙◌}
use mathlib.Core.Bool.{Bool, true, false}
use mathlib.Core.List.{[], ◌∷◌, ◌++◌}
use Prim.Native.Nat.{ℕ, zero, suc, ◌+◌, ◌/◌, ◌%◌, ◌≤◌, ◌<◌}
use native.Mathlib.Omega.{arith}
use lib.Dec.{ltb}
use lib.ListN.{length, length-append}
use borrow.Author.Tests.{lt-ltb, le-ltb, ltb-true, ltb-false}
use Rattle.rules.specs.Lists.{decimal, decimal_to}

small : (k n : ℕ) → n < 10 → decimal_to (suc k) n ≡ (48 + n) ∷ []
unfolding decimal_to
small k n h = rw (lt-ltb n 10 h, decimal_to)

large : (k n : ℕ) → 10 ≤ n → decimal_to (suc k) n ≡ decimal_to k (n / 10) ++ ((48 + n % 10) ∷ [])
unfolding decimal_to
large k n h = rw (le-ltb n 10 h, decimal_to)

step : (k j n : ℕ) (t : Bool) → ltb n 10 ≡ t → (10 ≤ n → decimal_to k (n / 10) ≡ decimal_to j (n / 10)) → decimal_to (suc k) n ≡ decimal_to (suc j) n
step k j n true e f = let l = ltb-true n 10 e in rw (small k n l, small j n l)
step k j n false e f = let l = ltb-false n 10 e in rw (large k n l, large j n l, f l)

-- more fuel than n changes nothing
fuel : (k j n : ℕ) → n < k → n < j → decimal_to k n ≡ decimal_to j n
fuel zero j n h g = absurd (omega arith)
fuel (suc k) zero n h g = absurd (omega arith)
fuel (suc k) (suc j) n h g = step k j n (ltb n 10) refl (λ l. fuel k j (n / 10) (omega arith) (omega arith))

pub decimal-one : (n : ℕ) → n < 10 → decimal n ≡ (48 + n) ∷ []
unfolding decimal
decimal-one n h = small n n h

pub decimal-more : (n : ℕ) → 10 ≤ n → decimal n ≡ decimal (n / 10) ++ ((48 + n % 10) ∷ [])
unfolding decimal
decimal-more n h = rw (large n n h, fuel n (suc (n / 10)) (n / 10) (omega arith) (omega arith))

pub decimal-more-length : (n : ℕ) → 10 ≤ n → length (decimal n) ≡ length (decimal (n / 10)) + 1
decimal-more-length n h = ap length (decimal-more n h) ∙ simp length-append
