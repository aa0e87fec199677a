-- The first line that a test tells of some rows, where the test looks at the rows before: without some of these, and of two such lines the first. Assumes
-- nothing.
use mathlib.Core.Path.{◌≡◌, refl, sym, ap, ◌∙◌}
use mathlib.Core.Bool.{Bool, true, false}
use mathlib.Core.List.{List, [], ◌∷◌, ◌++◌}
use Prim.Native.Nat.{ℕ, suc, ◌+◌, ◌≤◌, ◌<◌}
use native.Mathlib.Omega.{arith}
use borrow.Author.Tests.{eqb-true, eqb-false, ne_eqb, ltb-true, ltb-false, lt-ltb, le-ltb}
use lib.Dec.{eqb, ltb}
use lib.ListN.{length}
use Rattle.rules.proofs.Logic.{cases}
use Rattle.csv_rules.specs.Quote.{FileLine}
use Rattle.csv_rules.specs.Spot.{first_after}
use Rattle.csv_repeats.specs.Rounds.{first_line}
use Rattle.csv_repeats.proofs.Seen.{back}

-- ---- the first of two lines
pub least-none : (a : ℕ) → first_line a 0 ≡ a
unfolding first_line
least-none a = cases (eqb a 0) (λ e. rw e (sym (eqb-true a 0 e))) (λ e. rw e)

pub least_zero : (a b : ℕ) → first_line a b ≡ 0 → (a ≡ 0) × (b ≡ 0)
unfolding first_line
least_zero a b h =
    cases (eqb a 0) (λ q. (eqb-true a 0 q, rw q at h))
    (λ q.
    absurd
    (cases (eqb b 0)
    (λ y. eqb-false a 0 q (rw (q, y) at h))
    (λ y. cases (ltb b a) (λ w. eqb-false b 0 y (rw (q, y, w) at h)) (λ w. eqb-false a 0 q (rw (q, y, w) at h)))))

pub least-early : (a b : ℕ) → 0 < a → ((b ≡ 0 → ⊥) → a ≤ b) → first_line a b ≡ a
unfolding first_line
least-early a b h k =
    rw (ne_eqb a 0 (λ z. omega arith))
    (cases (eqb b 0) (λ e. rw e) (λ e. rw (e, le-ltb b a (k (eqb-false b 0 e)))))

pub least-late : (a b : ℕ) → 0 < b → b < a → first_line a b ≡ b
unfolding first_line
least-late a b h k = rw (ne_eqb a 0 (λ z. omega arith), ne_eqb b 0 (λ z. omega arith), lt-ltb b a k)

some-three : (a b c : ℕ) → 0 < a → 0 < b → 0 < c → first_line a (first_line b c) ≡ first_line (first_line a b) c
some-three a b c x y z =
    cases (ltb c b)
    (λ q.
    let k = ltb-true c b q in
    ap (first_line a) (least-late b c z k)
    ∙ cases (ltb b a)
    (λ p. let l = ltb-true b a p in least-late a c z (omega arith) ∙ sym (ap (λ (n : ℕ). first_line n c) (least-late a b y l) ∙ least-late b c z k))
    (λ p. sym (ap (λ (n : ℕ). first_line n c) (least-early a b x (λ h. ltb-false b a p)))))
    (λ q.
    let k = ltb-false c b q in
    ap (first_line a) (least-early b c y (λ h. k))
    ∙ cases (ltb b a)
    (λ p. let l = ltb-true b a p in least-late a b y l ∙ sym (ap (λ (n : ℕ). first_line n c) (least-late a b y l) ∙ least-early b c y (λ h. k)))
    (λ p.
    let l = ltb-false b a p in
    let e = least-early a b x (λ h. l) in
    e ∙ sym (ap (λ (n : ℕ). first_line n c) e ∙ least-early a c x (λ h. omega arith))))

none_first : (b : ℕ) → first_line 0 b ≡ b
unfolding first_line
none_first b = refl

above : (a : ℕ) → eqb a 0 ≡ false → 0 < a
above a e = let h = eqb-false a 0 e in omega arith

pub least-over : (a b c : ℕ) → first_line a (first_line b c) ≡ first_line (first_line a b) c
least-over a b c =
    cases (eqb a 0)
    (λ x. rw (eqb-true a 0 x) (none_first (first_line b c) ∙ sym (ap (λ (n : ℕ). first_line n c) (none_first b))))
    (λ x.
    cases (eqb b 0)
    (λ y. rw (eqb-true b 0 y) (ap (first_line a) (none_first c) ∙ sym (ap (λ (n : ℕ). first_line n c) (least-none a))))
    (λ y.
    cases (eqb c 0)
    (λ z. rw (eqb-true c 0 z) (ap (first_line a) (least-none b) ∙ sym (least-none (first_line a b))))
    (λ z. some-three a b c (above a x) (above b y) (above c z))))

-- ---- a line that is told isn't before the first
pub first-late : (p : List FileLine → FileLine → Bool) (k : ℕ) (seen ls : List FileLine) → (first_after p k seen ls ≡ 0 → ⊥) → k ≤ first_after p k seen ls
unfolding first_after
first-late p k seen [] h = absurd (h refl)
first-late p k seen (l ∷ ls) h =
    cases (p seen l)
    (λ e. rw (e, first_after) (omega arith))
    (λ e. let q = first-late p (suc k) (l ∷ seen) ls (λ z. h (rw (e, first_after) z)) in rw (e, first_after) (omega arith))

-- ---- without the rows that are kept: a test that tells of late rows the same then
unfoldable pub Alone : (List FileLine → FileLine → Bool) → List FileLine → List FileLine → Type 0
Alone p kept [] = Unit {0}
Alone p kept (l ∷ late) = (p (late ++ kept) l ≡ p late l) × Alone p kept late

-- both walks tell the same late row, or none of them
gone : {P : Type 0} (p : List FileLine → FileLine → Bool) (kept : List FileLine) (u : ℕ) → 0 < u → (late : List FileLine) → Alone p kept late → (rest : List FileLine)
    → ((n : ℕ) → 0 < n → n < u + length late → first_after p u kept (back late rest) ≡ n → first_after p u [] (back late rest) ≡ n → P)
    → (first_after p u kept (back late rest) ≡ first_after p (u + length late) (late ++ kept) rest → first_after p u [] (back late rest) ≡ first_after p (u + length late) late rest → P)
    → P
unfolding back Alone first_after
gone p kept u h [] A rest f g =
    let z : u ≡ u + 0 = omega arith in
    g (ap (λ (n : ℕ). first_after p n kept rest) z) (ap (λ (n : ℕ). first_after p n [] rest) z)
gone p kept u h (l ∷ late) A rest f g =
    let m : suc (u + length late) ≡ u + length (l ∷ late) = omega arith in
    gone p kept u h late A.1 (l ∷ rest)
    (λ n a b x y. f n a (omega arith) x y)
    (λ x y.
    cases (p late l)
    (λ e. f (u + length late) (omega arith) (omega arith) (x ∙ rw (A.0, e, first_after)) (y ∙ rw (e, first_after)))
    (λ e.
    g
    (x ∙ rw (A.0, e, first_after) (ap (λ (n : ℕ). first_after p n (l ∷ (late ++ kept)) rest) m))
    (y ∙ rw (e, first_after) (ap (λ (n : ℕ). first_after p n (l ∷ late) rest) m))))

module _ (p : List FileLine → FileLine → Bool) (kept : List FileLine) (u : ℕ) (h : 0 < u) (late : List FileLine) (A : Alone p kept late) where
  pub alone-ends : first_after p u kept (back late []) ≡ first_after p u [] (back late [])
  unfolding first_after
  alone-ends = gone p kept u h late A [] (λ n a b x y. x ∙ sym y) (λ x y. x ∙ sym y)

  -- a row that the test tells
  pub alone-met : (r : FileLine) (rest : List FileLine) → p (late ++ kept) r ≡ true
      → first_after p u kept (back late (r ∷ rest)) ≡ first_line (u + length late) (first_after p u [] (back late (r ∷ rest)))
  unfolding first_after
  alone-met r rest t =
      gone p kept u h late A (r ∷ rest)
      (λ n a b x y. x ∙ sym (ap (first_line (u + length late)) y ∙ least-late (u + length late) n a b))
      (λ x y.
      x ∙ rw (t, first_after)
      (sym
      (ap (first_line (u + length late)) y
      ∙ least-early (u + length late) (first_after p (u + length late) late (r ∷ rest)) (omega arith) (first-late p (u + length late) late (r ∷ rest)))))
