-- Values that are written as themselves: digits, capitals, numbers. Assumes nothing.
use mathlib.Core.Path.{◌≡◌, refl}
use mathlib.Core.Bool.{Bool, true, ◌&&◌, ◌||◌}
use mathlib.Core.List.{List, [], ◌∷◌}
use Prim.Native.Nat.{ℕ, suc, ◌+◌, ◌≤◌, ◌<◌}
use native.Mathlib.Omega.{arith}
use borrow.Author.Tests.{leb-true, eqb-true}
use lib.Dec.{eqb, leb}
use lib.ListN.{length}
use Rattle.rules.specs.Lists.{bytes, has, any, all, count}
use Rattle.rules.specs.Shift.{within, step, is_one}
use Rattle.rules.specs.Frame.{digit, capital, capital_or_digit}
use Rattle.rules.specs.Value.{digits_ok, point, unsigned, spelled}
use Rattle.rules.proofs.Logic.{cases, both, either}
use Rattle.rules.proofs.Lists.{all_cons, range, in-range, all-each}
use Rattle.rules.proofs.Escaped.{plain_byte}

-- to unfold this name is to see whether a given byte is plain
unfoldable pub bytewise : Unit {0}
unfolding all range plain_byte is_one step has any bytes
bytewise = tt

-- ---- digits, capitals, signs and points are written as themselves
within-plain : (low n b : ℕ) → within low (low + n) b ≡ true → ((k : ℕ) → low ≤ k → k < low + suc n → plain_byte k ≡ true) → plain_byte b ≡ true
within-plain low n b h f = let w = both (leb low b) (leb b (low + n)) h in f b (leb-true low b w.0) (omega (arith, leb-true b (low + n) w.1))

digit-plain : (b : ℕ) → digit b ≡ true → plain_byte b ≡ true
digit-plain b h = within-plain 48 9 b h (in-range plain_byte 48 10 (unfold bytewise in refl))

capital-plain : (b : ℕ) → capital b ≡ true → plain_byte b ≡ true
capital-plain b h = within-plain 65 25 b h (in-range plain_byte 65 26 (unfold bytewise in refl))

both-plain : (b : ℕ) → capital_or_digit b ≡ true → plain_byte b ≡ true
both-plain b h = either (capital b) (digit b) h (capital-plain b) (digit-plain b)

as_byte : (b k : ℕ) → eqb b k ≡ true → plain_byte k ≡ true → plain_byte b ≡ true
as_byte b k e h = rw (eqb-true b k e) h

spelled-plain : (s : List ℕ) → spelled s ≡ true → all plain_byte s ≡ true
unfolding spelled
spelled-plain s h =
    let among : ℕ → Bool = λ b. digit b || point b in
    let f : (b : ℕ) → among b ≡ true → plain_byte b ≡ true = λ b k. either (digit b) (point b) k (digit-plain b) (λ e. as_byte b 46 e (unfold bytewise in refl)) in
    all-each among plain_byte f s (both (all among s) (leb (count point s) 1) (both (all among s && leb (count point s) 1) (any digit s) h).0).0

pub number-plain : (v : List ℕ) → spelled (unsigned v) ≡ true → all plain_byte v ≡ true
unfolding unsigned
number-plain [] h = unfold all in refl
number-plain (b ∷ s) h =
    cases (eqb b 43 || eqb b 45)
    (λ e.
    let p : plain_byte b ≡ true = either (eqb b 43) (eqb b 45) e (λ f. as_byte b 43 f (unfold bytewise in refl)) (λ f. as_byte b 45 f (unfold bytewise in refl)) in
    rw (all_cons plain_byte b s, p) (spelled-plain s (rw e at h)))
    (λ e. spelled-plain (b ∷ s) (rw e at h))

pub digits-plain : (n : ℕ) (v : List ℕ) → digits_ok n v ≡ true → all plain_byte v ≡ true
digits-plain n v h = all-each digit plain_byte digit-plain v (both (eqb (length v) n) (all digit v) h).1

pub capitals-plain : (v : List ℕ) → all capital_or_digit v ≡ true → all plain_byte v ≡ true
capitals-plain v h = all-each capital_or_digit plain_byte both-plain v h
