-- "The rule is shown once for all pairs, including that no two pairs share an image": a test over all pairs, computed, and the law that
-- turns it into the claims. Assumes nothing.
use mathlib.Core.Path.{◌≡◌, refl, sym, ap, ◌∙◌}
use mathlib.Core.Bool.{Bool, true, cond, ◌&&◌, ◌||◌}
use Prim.Native.Nat.{ℕ, suc, ◌+◌, ◌-◌, ◌/◌, ◌%◌}
use native.Mathlib.Omega.{arith}
use borrow.Author.Tests.{eqb-true, leb-true}
use lib.Dec.{eqb, leb, ltb}
use Rattle.rules.specs.Lists.{all}
use Rattle.rules.specs.Shift.{within}
use Rattle.rules.proofs.Logic.{both, either}
use Rattle.rules.proofs.Lists.{range, in-range}
use Rattle.csv_rules.specs.Kanji.{lead, trail, first, second, is_pair}
use Rattle.csv_rules.specs.Claims.{EveryPair, NoTwoPairs, EveryImage}

-- the way back: the lead and the trail of an image
unfoldable lead_of : ℕ → ℕ
lead_of f = let h = (f - 1) / 2 in h + cond (ltb h 0x2F) 0x71 0xB1

unfoldable trail_of : ℕ → ℕ → ℕ
trail_of f s = s + cond (eqb (f % 2) 0) 0x7E (cond (ltb s 0x60) 0x1F 0x20)

-- the test of a pair: its image lies in 21–7E twice, and the way back finds the pair
unfoldable right : ℕ → ℕ → Bool
right l t =
    (within 0x21 0x7E (first l t) && within 0x21 0x7E (second t))
    && (eqb (lead_of (first l t)) l && eqb (trail_of (first l t) (second t)) t)

-- over the leads 81–9F or E0–EF with the trails 40–7E or 80–FC
unfoldable by_trails : ℕ → Bool
by_trails l = all (right l) (range 0x40 63) && all (right l) (range 0x80 125)

all-low : all by_trails (range 0x81 31) ≡ true
unfolding all range by_trails right first second lead_of trail_of
all-low = refl

all-high : all by_trails (range 0xE0 16) ≡ true
unfolding all range by_trails right first second lead_of trail_of
all-high = refl

-- what holds on both stretches holds for each byte that lies in one
in_either : (p : ℕ → Bool) (a m c n x : ℕ) → all p (range a (suc m)) ≡ true → all p (range c (suc n)) ≡ true
    → (within a (a + m) x || within c (c + n) x) ≡ true → p x ≡ true
in_either p a m c n x h k e =
    either (within a (a + m) x) (within c (c + n) x) e
    (λ w. let q = both (leb a x) (leb x (a + m)) w in in-range p a (suc m) h x (leb-true a x q.0) (omega (arith, leb-true x (a + m) q.1)))
    (λ w. let q = both (leb c x) (leb x (c + n)) w in in-range p c (suc n) k x (leb-true c x q.0) (omega (arith, leb-true x (c + n) q.1)))

is_right : (l t : ℕ) → is_pair l t ≡ true → right l t ≡ true
unfolding is_pair by_trails
is_right l t h =
    let q = both (lead l) (trail t) h in
    let b = both (all (right l) (range 0x40 63)) (all (right l) (range 0x80 125)) (in_either by_trails 0x81 30 0xE0 15 l all-low all-high q.0) in
    in_either (right l) 0x40 62 0x80 124 t b.0 b.1 q.1

pub every-pair : EveryPair
unfolding right
every-pair l t h =
    let r = is_right l t h in
    let i = both (within 0x21 0x7E (first l t) && within 0x21 0x7E (second t)) (eqb (lead_of (first l t)) l && eqb (trail_of (first l t) (second t)) t) r in
    both (within 0x21 0x7E (first l t)) (within 0x21 0x7E (second t)) i.0

way_back : (l t : ℕ) → is_pair l t ≡ true → (lead_of (first l t) ≡ l) × (trail_of (first l t) (second t) ≡ t)
unfolding right
way_back l t h =
    let r = is_right l t h in
    let i = both (within 0x21 0x7E (first l t) && within 0x21 0x7E (second t)) (eqb (lead_of (first l t)) l && eqb (trail_of (first l t) (second t)) t) r in
    let e = both (eqb (lead_of (first l t)) l) (eqb (trail_of (first l t) (second t)) t) i.1 in
    (eqb-true (lead_of (first l t)) l e.0, eqb-true (trail_of (first l t) (second t)) t e.1)

pub no-two-pairs : NoTwoPairs
no-two-pairs l t k u h j e f =
    let a = way_back l t h in
    let b = way_back k u j in
    (sym a.0 ∙ ap lead_of e ∙ b.0, cc (a.1, b.1))

-- ---- every image
unfoldable met : ℕ → ℕ → Bool
met f s = is_pair (lead_of f) (trail_of f s) && (eqb (first (lead_of f) (trail_of f s)) f && eqb (second (trail_of f s)) s)

all-met : all (λ (f : ℕ). all (met f) (range 0x21 94)) (range 0x21 94) ≡ true
unfolding all range met is_pair first second lead_of trail_of
all-met = refl

in-those : (p : ℕ → Bool) (x : ℕ) → all p (range 0x21 94) ≡ true → within 0x21 0x7E x ≡ true → p x ≡ true
in-those p x h w = let q = both (leb 0x21 x) (leb x 0x7E) w in in-range p 0x21 94 h x (leb-true 0x21 x q.0) (omega (arith, leb-true x 0x7E q.1))

pub every-image : EveryImage
unfolding met
every-image f s h k =
    let m = in-those (met f) s (in-those (λ (f : ℕ). all (met f) (range 0x21 94)) f all-met h) k in
    let l = lead_of f in
    let t = trail_of f s in
    let q = both (is_pair l t) (eqb (first l t) f && eqb (second t) s) m in
    let r = both (eqb (first l t) f) (eqb (second t) s) q.1 in
    record { lead = l; trail = t; pair = q.0; is-first = eqb-true (first l t) f r.0; is-second = eqb-true (second t) s r.1 }
