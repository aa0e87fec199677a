-- The pieces of a text are together no longer than it. Assumes nothing.
use mathlib.Core.Path.{◌≡◌, refl, ap}
use mathlib.Core.List.{List, [], ◌∷◌}
use Prim.Native.Nat.{ℕ, zero, suc, ◌+◌, ◌*◌, ◌/◌, ◌≤◌, ◌<◌}
use native.Mathlib.Nat.{div-lt_iff_lt-mul}
use native.Mathlib.Omega.{arith}
use borrow.Author.Tests.{ltb-true, ltb-false}
use lib.Dec.{ltb}
use lib.ListN.{length, get_or, drop, length-append, drop_of_length-le, get_or-eq_default}
use lib.Seq.{drop-cons}
use Rattle.rules.specs.Lists.{nth, split, led, join, decimal_to, decimal, front, later}
use Rattle.rules.proofs.Logic.{cases}
use Rattle.rules.proofs.Lists.{from}
use Rattle.rules.proofs.Split.{split-cons, join-split}

-- ---- joined pieces: each with its separator
unfoldable pub total : List (List ℕ) → ℕ
total [] = 0
total (f ∷ fs) = suc (length f) + total fs

led-total : (x : ℕ) (fs : List (List ℕ)) → length (led x fs) ≡ total fs
unfolding led total
led-total x [] = refl
led-total x (f ∷ fs) = rw (length-append, led-total x fs) (omega arith)

pub join-total : (x : ℕ) (f : List ℕ) (fs : List (List ℕ)) → length (join x (f ∷ fs)) ≡ length f + total fs
unfolding join
join-total x f fs = rw (length-append, led-total x fs)

-- ---- pieces: their lengths alone
unfoldable pub sum : List (List ℕ) → ℕ
sum [] = 0
sum (p ∷ ps) = length p + sum ps

sum-from : (ps : List (List ℕ)) (k n : ℕ) → sum (from ps k n) ≤ sum (drop k ps)
unfolding from sum
sum-from ps k zero = omega arith
sum-from ps k (suc n) =
    cases (ltb k (length ps))
    (λ e. rw (drop-cons ps k [] (ltb-true k (length ps) e)) (omega (arith, sum-from ps (suc k) n)))
    (λ e.
    let l = ltb-false k (length ps) e in
    let z : get_or ps k [] ≡ [] = get_or-eq_default ps [] l in
    let y : drop (suc k) ps ≡ [] = drop_of_length-le ps {i = suc k} (omega arith) in
    let x : sum (drop (suc k) ps) ≡ 0 = rw y in
    omega (arith, sum-from ps (suc k) n, ap length z))

sum-total : (ps : List (List ℕ)) → sum ps + length ps ≡ total ps
unfolding sum total
sum-total [] = refl
sum-total (p ∷ ps) = omega (arith, sum-total ps)

module _ (x : ℕ) (s : List ℕ) where
  split-total : total (split x s) ≡ suc (length s)
  unfolding total
  split-total =
      let e = rw (split-cons x s) at (join-split x s) in
      rw (split-cons x s) (omega (arith, ap length e, join-total x (front x s) (later x s)))

  some-piece : 1 ≤ length (split x s)
  some-piece = rw (split-cons x s) (omega arith)

  -- the first n pieces, and a separator between each two
  pub pieces-fit : (n : ℕ) → (sum (from (split x s) 0 n) + length (split x s) ≤ suc (length s)) × (1 ≤ length (split x s))
  pieces-fit n = (omega (arith, sum-from (split x s) 0 n, sum-total (split x s), split-total), some-piece)

  -- a filled piece is there
  pub piece-there : (i : ℕ) → 1 ≤ length (nth (split x s) i) → i < length (split x s)
  piece-there i h =
      cases (ltb i (length (split x s)))
      (λ e. ltb-true i (length (split x s)) e)
      (λ e.
      let z : get_or (split x s) i [] ≡ [] = get_or-eq_default (split x s) [] (ltb-false i (length (split x s)) e) in
      absurd (omega (arith, ap length z)))

  pub split-sum : sum (split x s) ≤ length s
  split-sum = omega (arith, sum-total (split x s), split-total, some-piece)

nth-sum : (ps : List (List ℕ)) (i : ℕ) → length (nth ps i) ≤ sum ps
unfolding sum
nth-sum [] i = omega arith
nth-sum (p ∷ ps) zero = omega arith
nth-sum (p ∷ ps) (suc i) = omega (arith, nth-sum ps i)

pub nth-short : (x : ℕ) (s : List ℕ) (i : ℕ) → length (nth (split x s) i) ≤ length s
nth-short x s i = omega (arith, nth-sum (split x s) i, split-sum x s)

-- ---- how many digits a number has: below ten times ten .. times ten
unfoldable pub tens : ℕ → ℕ
tens zero = 10
tens (suc k) = tens k * 10

digits_of : (c k n : ℕ) → n < tens c → length (decimal_to k n) ≤ suc c
unfolding tens decimal_to
digits_of c zero n h = omega arith
digits_of zero (suc k) n h = cases (ltb n 10) (λ e. rw (e, decimal_to) (omega arith)) (λ e. absurd (omega (arith, ltb-false n 10 e)))
digits_of (suc c) (suc k) n h =
    cases (ltb n 10)
    (λ e. rw (e, decimal_to) (omega arith))
    (λ e. rw (e, decimal_to, length-append) (omega (arith, digits_of c k (n / 10) ((div-lt_iff_lt-mul {k = 10} (omega arith)).1 h))))

pub decimal-few : (c n : ℕ) → n < tens c → length (decimal n) ≤ suc c
unfolding decimal
decimal-few c n h = digits_of c (suc n) n h
