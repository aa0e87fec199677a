-- The laws of an item as it lies in the file: a walk over it, its first blank, order numbers; what is a stretch of it. Assumes nothing.
use mathlib.Core.Path.{◌≡◌, refl, sym, ap, ◌∙◌}
use mathlib.Core.Bool.{Bool, true, false, cond, not, ◌||◌}
use mathlib.Core.List.{List, [], ◌∷◌, ◌++◌, append-nil}
use Prim.Native.Nat.{ℕ, zero, suc, ◌+◌, ◌-◌, ◌≤◌, ◌<◌}
use native.Mathlib.Omega.{arith}
use borrow.Author.Tests.{eq-eqb, ne_eqb, eqb-true, lt-leb, le-leb, eqb-false, ltb-true, ltb-false, not-true, not-false}
use lib.Dec.{eqb, leb, ltb}
use lib.ListN.{length, get_or, take, drop, replicate, length-drop, length-replicate}
use lib.Seq.{drop-nil, drop-drop, take-take, take-length, length-take-le}
use Rattle.std.proofs.lemmas.List.{drop-take}
use Rattle.rules.specs.Lists.{filled, all, onto}
use Rattle.rules.specs.Shift.{within}
use Rattle.rules.specs.Frame.{digit}
use Rattle.rules.proofs.Logic.{cases, never, either, neither, and-false}
use Rattle.rules.proofs.Lists.{here, over, rest-is, all_first, all_cons, empty-zero, filled-some}
use Rattle.rules.proofs.Split.{split-nil, split-here, split-there, split-cons}
use Rattle.csv_rules.specs.Written.{halved}
use Rattle.csv_rules.specs.Columns.{family_of, given_of, fifteen_of}
use Rattle.csv_rows.specs.Rows.{LiesIn}
use Rattle.csv_keys.specs.Keys.{raw_value, KeyIs}
use Rattle.csv_keys.specs.Ways.{blank_at, NextOrBlank}

-- ---- a byte
half-here : (b : ℕ) (s : List ℕ) → eqb b 0x22 ≡ false → halved false (b ∷ s) ≡ b ∷ halved false s
unfolding halved
half-here b s e = rw e

half-last : (b : ℕ) → halved false (b ∷ []) ≡ b ∷ halved false []
unfolding halved
half-last b = cases (eqb b 0x22) (λ e. rw e) (λ e. rw e)

half-two : (b t : ℕ) (s : List ℕ) → eqb b 0x22 ≡ true → halved false (b ∷ (t ∷ s)) ≡ b ∷ halved false s
unfolding halved
half-two b t s e = rw (e, halved)

blank-here : (b : ℕ) (s : List ℕ) → eqb b 0x22 ≡ false → blank_at false (b ∷ s) ≡ cond (eqb b 0x20) 0 (1 + blank_at false s)
unfolding blank_at
blank-here b s e = cases (eqb b 0x20) (λ f. rw (f, blank_at)) (λ f. rw (f, e, blank_at) (omega arith))

blank-last : (b : ℕ) → blank_at false (b ∷ []) ≡ cond (eqb b 0x20) 0 1
unfolding blank_at
blank-last b = cases (eqb b 0x20) (λ f. rw (f, blank_at)) (λ f. cases (eqb b 0x22) (λ e. rw (f, e, blank_at)) (λ e. rw (f, e, blank_at)))

blank-two : (b t : ℕ) (s : List ℕ) → b ≡ 0x22 → blank_at false (b ∷ (t ∷ s)) ≡ 2 + blank_at false s
unfolding blank_at
blank-two b t s e = rw e (omega arith)

-- so many bytes further on
further : (t : Bool) (i n k : ℕ) → i + cond t 0 (n + k) ≡ cond t i (i + n + k)
further true i n k = omega arith
further false i n k = omega arith

module _ (s : List ℕ) (i j : ℕ) (h : i < length s) (e : j ≡ i + 1) where
  here-at : drop i s ≡ get_or s i 0 ∷ drop j s
  here-at = here 0 s i h ∙ ap (λ (n : ℕ). get_or s i 0 ∷ drop n s) (sym e)

  pub next_last : length s ≤ j → NextOrBlank s i j
  unfolding blank_at
  next_last l =
      let o : drop j s ≡ [] = over s j l in
      let w : drop i s ≡ get_or s i 0 ∷ [] = here-at ∙ ap (λ (w : List ℕ). get_or s i 0 ∷ w) o in
      record {
        low = omega arith;
        high = omega arith;
        is = ap (halved false) w ∙ half-last (get_or s i 0) ∙ ap (λ (w : List ℕ). get_or s i 0 ∷ halved false w) (sym o);
        blank =
            ap (λ (w : List ℕ). i + blank_at false w) w ∙ ap (λ (n : ℕ). i + n) (blank-last (get_or s i 0)) ∙ further (eqb (get_or s i 0) 0x20) i 1 0
            ∙ rw (o, e);
      }

  pub next-two : j < length s → get_or s i 0 ≡ 0x22 → NextOrBlank s i (i + 2)
  next-two l q =
      let k : j + 1 ≡ i + 2 = omega arith in
      let w : drop i s ≡ get_or s i 0 ∷ (get_or s j 0 ∷ drop (i + 2) s) = here-at ∙ ap (λ (w : List ℕ). get_or s i 0 ∷ w) (here 0 s j l ∙ ap (λ (n : ℕ). get_or s j 0 ∷ drop n s) k) in
      record {
        low = omega arith;
        high = omega arith;
        is = ap (halved false) w ∙ half-two (get_or s i 0) (get_or s j 0) (drop (i + 2) s) (eq-eqb (get_or s i 0) 0x22 q);
        blank =
            ap (λ (w : List ℕ). i + blank_at false w) w ∙ ap (λ (n : ℕ). i + n) (blank-two (get_or s i 0) (get_or s j 0) (drop (i + 2) s) q)
            ∙ further false i 2 (blank_at false (drop (i + 2) s)) ∙ rw q;
      }

  pub next_one : (get_or s i 0 ≡ 0x22 → ⊥) → NextOrBlank s i j
  next_one q =
      let z = ne_eqb (get_or s i 0) 0x22 q in
      record {
        low = omega arith;
        high = omega arith;
        is = ap (halved false) here-at ∙ half-here (get_or s i 0) (drop j s) z;
        blank =
            ap (λ (w : List ℕ). i + blank_at false w) here-at ∙ ap (λ (n : ℕ). i + n) (blank-here (get_or s i 0) (drop j s) z)
            ∙ further (eqb (get_or s i 0) 0x20) i 1 (blank_at false (drop j s)) ∙ rw e;
      }

-- ---- a test that no quote passes
module _ (p : ℕ → Bool) (q : p 0x22 ≡ false) where
  pub all-halved : (s : List ℕ) → all p (halved false s) ≡ all p s
  unfolding all halved
  all-halved [] = refl
  all-halved (b ∷ s) =
      cases (eqb b 0x22)
      (λ e. let z : p b ≡ false = ap p (eqb-true b 0x22 e) ∙ q in rw (all_cons p b (halved (eqb b 0x22) s), all_cons p b s, z))
      (λ e. rw (all_cons p b (halved (eqb b 0x22) s), all_cons p b s, e, all-halved s))

  pub halved-plain : (s : List ℕ) → all p s ≡ true → halved false s ≡ s
  unfolding halved
  halved-plain [] h = refl
  halved-plain (b ∷ s) h =
      let r = all_first p b s h in
      cases (eqb b 0x22)
      (λ e. never (sym r.0 ∙ ap p (eqb-true b 0x22 e) ∙ q))
      (λ e. rw e (ap (λ (t : List ℕ). b ∷ t) (halved-plain s r.1)))

-- ---- the first blank: a walk to it
module _ (s : List ℕ) (i : ℕ) (inv : blank_at false s ≡ i + blank_at false (drop i s)) where
  pub blank-found : i < length s → get_or s i 0 ≡ 0x20 → i ≡ blank_at false s
  unfolding blank_at
  blank-found h e = let z : blank_at false (drop i s) ≡ 0 = ap (blank_at false) (here 0 s i h) ∙ rw e in omega arith

  pub blank-on : (r : ℕ) → (get_or s i 0 ≡ 0x20 → ⊥) → NextOrBlank s i r → blank_at false s ≡ r + blank_at false (drop r s)
  blank-on r e p = inv ∙ p.blank ∙ rw (ne_eqb (get_or s i 0) 0x20 e)

  pub blank_none : length s ≤ i → i ≡ blank_at false s
  unfolding blank_at
  blank_none h = let z : blank_at false (drop i s) ≡ 0 = ap (blank_at false) (over s i h) in omega arith

pub blank-starts : (s : List ℕ) → blank_at false s ≡ 0 + blank_at false (drop 0 s)
blank-starts s = omega arith

-- ---- names
family-here : (b : ℕ) (s : List ℕ) → eqb b 0x20 ≡ true → family_of (b ∷ s) ≡ []
unfolding family_of
family-here b s e = rw (split-here 0x20 b s e)

family-there : (b : ℕ) (s : List ℕ) → eqb b 0x20 ≡ false → family_of (b ∷ s) ≡ b ∷ family_of s
unfolding family_of onto
family-there b s e = rw (split-there 0x20 b s e, split-cons 0x20 s)

family-nil : family_of [] ≡ []
unfolding family_of
family-nil = rw (split-nil 0x20)

given-here : (b : ℕ) (s : List ℕ) → eqb b 0x20 ≡ true → given_of (b ∷ s) ≡ s
unfolding given_of
given-here b s e = rw (family-here b s e)

given-there : (b : ℕ) (s : List ℕ) → eqb b 0x20 ≡ false → given_of (b ∷ s) ≡ given_of s
unfolding given_of
given-there b s e = rw (family-there b s e)

given-nil : given_of [] ≡ []
unfolding given_of
given-nil = drop-nil (suc (length (family_of [])))

family-is : (t : Bool) (s : List ℕ) → halved t (take (blank_at t s) s) ≡ family_of (halved t s)
unfolding halved blank_at
family-is false [] = sym family-nil
family-is true [] = sym family-nil
family-is false (b ∷ s) =
    cases (eqb b 0x20)
    (λ e. rw (e, blank_at, family-here b (halved (eqb b 0x22) s) e))
    (λ e. rw (e, blank_at, family-there b (halved (eqb b 0x22) s) e) (ap (λ (x : List ℕ). b ∷ x) (family-is (eqb b 0x22) s)))
family-is true (b ∷ s) = family-is false s

given_is : (t : Bool) (s : List ℕ) → halved false (drop (suc (blank_at t s)) s) ≡ given_of (halved t s)
unfolding halved blank_at
given_is false [] = sym given-nil
given_is true [] = sym given-nil
given_is false (b ∷ s) =
    cases (eqb b 0x20)
    (λ e. rw (e, blank_at, given-here b (halved (eqb b 0x22) s) e, eqb-true b 0x20 e))
    (λ e. rw (e, blank_at, given-there b (halved (eqb b 0x22) s) e) (given_is (eqb b 0x22) s))
given_is true (b ∷ s) = given_is false s

-- ---- stretches
-- a stretch of a stretch is one of the whole: so that of an item lies in the file, as the item does
pub stretch-on : (f w x : List ℕ) → LiesIn f w → LiesIn w x → LiesIn f x
stretch-on f w x p q =
    let n : length w ≡ p.size = ap length p.is ∙ length-take-le p.size (drop p.start f) (omega (arith, length-drop p.start f, p.inside)) in
    let m : q.start + (p.size - q.start) ≡ p.size = omega (arith, n, q.inside) in
    record {
      start = p.start + q.start;
      size = q.size;
      inside = omega (arith, n, p.inside, q.inside);
      is =
          q.is
          ∙ ap (λ (s : List ℕ). take q.size (drop q.start s)) p.is
          ∙ ap (λ (k : ℕ). take q.size (drop q.start (take k (drop p.start f)))) (sym m)
          ∙ ap (take q.size) (drop-take q.start (p.size - q.start) (drop p.start f))
          ∙ take-take q.size (p.size - q.start) (drop q.start (drop p.start f)) (omega (arith, n, q.inside))
          ∙ ap (take q.size) (drop-drop q.start p.start f);
    }

all_of : (s : List ℕ) → LiesIn s s
all_of s = record { start = 0; size = length s; inside = omega arith; is = sym (take-length s) }

pub none_of : (s : List ℕ) → LiesIn s []
none_of s = record { start = 0; size = 0; inside = omega arith; is = refl }

first_of : (s : List ℕ) (n : ℕ) → n ≤ length s → LiesIn s (take n s)
first_of s n h = record { start = 0; size = n; inside = omega arith; is = refl }

rest_of : (s : List ℕ) (n : ℕ) → n ≤ length s → LiesIn s (take (length s - n) (drop n s))
rest_of s n h = record { start = n; size = length s - n; inside = omega arith; is = refl }

-- ---- keys
pub as-is-key : (raw : List ℕ) → KeyIs raw (halved false raw) [] raw
unfolding raw_value all
as-is-key raw = record { is = refl; plain = refl; few = omega arith; lies = all_of raw }

pub word-key : (w : List ℕ) → all (λ (b : ℕ). within 0x20 0x7E b) w ≡ true → length w ≤ 15 → KeyIs [] w w []
unfolding raw_value halved
word-key w h n = record { is = append-nil w; plain = h; few = n; lies = none_of [] }

-- a key of a stretch of an item is one of the item
pub key-on : {item w v u lead r : List ℕ} → LiesIn item w → v ≡ u → KeyIs w v lead r → KeyIs item u lead r
key-on {item = item} {w} {r = r} l e k = record { is = k.is ∙ e; plain = k.plain; few = k.few; lies = stretch-on item w r l k.lies }

module _ (raw lead r : List ℕ) (at : ℕ) (e : at ≡ blank_at false raw) where
  pub family-key : at ≤ length raw → KeyIs (take at raw) (halved false (take at raw)) lead r → KeyIs raw (family_of (halved false raw)) lead r
  family-key w k =
      let z : halved false (take at raw) ≡ family_of (halved false raw) = ap (λ (m : ℕ). halved false (take m raw)) e ∙ family-is false raw in
      key-on (first_of raw at w) z k

  given-at : (behind : ℕ) → behind ≡ at + 1 → halved false (drop behind raw) ≡ given_of (halved false raw)
  given-at behind b =
      let g : behind ≡ suc (blank_at false raw) = omega arith in
      ap (λ (m : ℕ). halved false (drop m raw)) g ∙ given_is false raw

  pub given-none : length raw ≤ at → KeyIs [] (halved false []) lead r → KeyIs raw (given_of (halved false raw)) lead r
  given-none w k =
      let o : drop (at + 1) raw ≡ [] = over raw (at + 1) (omega arith) in
      let z : halved false [] ≡ given_of (halved false raw) = ap (halved false) (sym o) ∙ given-at (at + 1) refl in
      key-on (none_of raw) z k

  pub given-key : (behind : ℕ) → at < length raw → behind ≡ at + 1
      → KeyIs (take (length raw - behind) (drop behind raw)) (halved false (take (length raw - behind) (drop behind raw))) lead r
      → KeyIs raw (given_of (halved false raw)) lead r
  given-key behind w b k =
      let z : halved false (take (length raw - behind) (drop behind raw)) ≡ given_of (halved false raw) = ap (halved false) (rest-is raw behind) ∙ given-at behind b in
      key-on (rest_of raw behind (omega arith)) z k

-- ---- fifteen digits
not-fifteen : (v : List ℕ) → all digit v ≡ false → fifteen_of v ≡ v
unfolding fifteen_of
not-fifteen v h = rw (h, and-false (leb (length v) 15), and-false (filled v))

fifteen-not : (raw : List ℕ) → all digit raw ≡ false → fifteen_of (halved false raw) ≡ halved false raw
fifteen-not raw h = not-fifteen (halved false raw) (all-halved digit refl raw ∙ h)

outside : (v : List ℕ) → (eqb (length v) 0 || ltb 15 (length v)) ≡ true → fifteen_of v ≡ v
unfolding fifteen_of
outside v h =
    either (eqb (length v) 0) (ltb 15 (length v)) h
    (λ e. rw (empty-zero v (eqb-true (length v) 0 e)))
    (λ e. rw (lt-leb (length v) 15 (ltb-true 15 (length v) e), and-false (filled v)))

fifteen-outside : (raw : List ℕ) → (eqb (length raw) 0 || ltb 15 (length raw)) ≡ true → fifteen_of (halved false raw) ≡ halved false raw
fifteen-outside raw h =
    cases (all digit raw) (λ d. rw (halved-plain digit refl raw d) (outside raw h)) (λ d. fifteen-not raw d)

fifteen-pads : (raw : List ℕ) → all digit raw ≡ true → (eqb (length raw) 0 || ltb 15 (length raw)) ≡ false
    → fifteen_of (halved false raw) ≡ replicate (15 - length raw) 48 ++ halved false raw
unfolding fifteen_of
fifteen-pads raw d h =
    let n = neither (eqb (length raw) 0) (ltb 15 (length raw)) h in
    rw (halved-plain digit refl raw d, filled-some raw (eqb-false (length raw) 0 n.0), le-leb (length raw) 15 (ltb-false 15 (length raw) n.1), d)

pub at-most : (len : ℕ) → (eqb len 0 || ltb 15 len) ≡ false → len ≤ 15
at-most len h = ltb-false 15 len (neither (eqb len 0) (ltb 15 len) h).1

take-replicate : (n m b : ℕ) → n ≤ m → take n (replicate m b) ≡ replicate n b
take-replicate zero m b h = refl
take-replicate (suc n) zero b h = absurd (omega arith)
take-replicate (suc n) (suc m) b h = ap (λ (r : List ℕ). b ∷ r) (take-replicate n m b (omega arith))

zeros-plain : (n : ℕ) → all (λ (b : ℕ). within 0x20 0x7E b) (replicate n 48) ≡ true
unfolding all
zeros-plain zero = refl
zeros-plain (suc n) = zeros-plain n

module _ (raw : List ℕ) where
  pub fifteen-stays : (lead r : List ℕ) → (eqb (length raw) 0 || ltb 15 (length raw)) ≡ true → KeyIs raw (halved false raw) lead r
      → KeyIs raw (fifteen_of (halved false raw)) lead r
  fifteen-stays lead r e k = rw (fifteen-outside raw e) k

  module _ (t : Bool) (q : t ≡ all digit raw) where
    pub fifteen-other : (lead r : List ℕ) → not t ≡ true → KeyIs raw (halved false raw) lead r → KeyIs raw (fifteen_of (halved false raw)) lead r
    fifteen-other lead r e k = rw (fifteen-not raw (sym q ∙ not-true t e)) k

    pub fifteen-key : (eqb (length raw) 0 || ltb 15 (length raw)) ≡ false → not t ≡ false
        → KeyIs raw (fifteen_of (halved false raw)) (take (15 - length raw) (replicate 15 48)) raw
    unfolding raw_value
    fifteen-key e g =
        let z = take-replicate (15 - length raw) 15 48 (omega arith) in
        record {
          is = ap (λ (x : List ℕ). x ++ halved false raw) z ∙ sym (fifteen-pads raw (sym q ∙ not-false t g) e);
          plain = rw z (zeros-plain (15 - length raw));
          few = omega (arith, ap length z, length-replicate {A = ℕ} (15 - length raw) 48);
          lies = all_of raw;
        }
