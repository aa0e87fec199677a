-- The laws of a segment by its pattern. Assumes nothing.
use mathlib.Core.Path.{◌≡◌, refl, ap, ◌∙◌}
use mathlib.Core.List.{List, [], ◌∷◌}
use Prim.Native.Nat.{ℕ, zero, suc, ◌+◌, ◌*◌, ◌≤◌, ◌<◌}
use Prim.Native.Char.{code}
use native.Mathlib.Omega.{arith}
use borrow.Author.Tests.{ne_eqb, le-leb, lt-leb}
use Rattle.std.specs.Prelude.{fold, sum_by}
use lib.Dec.{eqb}
use lib.ListN.{length, drop, get_or, length-append}
use lib.Seq.{drop-drop}
use denote.Ref.{Bor}
use Rattle.rules.specs.declared.Delims.{Delims}
use Rattle.rules.specs.Escape.{escape}
use Rattle.rules.proofs.Logic.{cases}
use Rattle.rules.proofs.Lists.{here, over}
use Rattle.rules.proofs.Escaped.{escaped-length}
use Rattle.writer.specs.Over.{Wrote, Put, fitted, Fit}
use Rattle.writer.specs.Woven.{delimiter_of, taken, slot_text, first_text, woven, holes, sizes}
use Rattle.writer.proofs.Laws.{Splits, Running, run-start, run_room, run-next, run_end}

-- ---- one byte of the pattern
module _ (b : ℕ) where
  pub takes_text : b ≡ code "$" → taken b ≡ 1
  unfolding taken
  takes_text e = rw e

  pub takes_plain : b ≡ code "#" → taken b ≡ 1
  unfolding taken
  takes_plain e = rw e

  module _ (d : Delims) (t : List ℕ) where
    pub slot_escaped : b ≡ code "$" → slot_text d b t ≡ escape d t
    unfolding slot_text
    slot_escaped e = rw e

    pub slot_plain : b ≡ code "#" → slot_text d b t ≡ t
    unfolding slot_text
    slot_plain e = rw e

    pub slot_itself : (b ≡ code "$" → ⊥) → (b ≡ code "#" → ⊥) → slot_text d b t ≡ delimiter_of d b ∷ []
    unfolding slot_text
    slot_itself n m = rw (ne_eqb b 36 n, ne_eqb b 35 m)

-- the next text is there
pub next_is : (ts : List (Bor (List ℕ))) (q : ℕ) (z : Bor (List ℕ)) → q < length ts → first_text (drop q ts) ≡ (get_or ts q z).now
unfolding first_text
next_is ts q z h = rw (here z ts q h)

pub next_size : (ts : List (Bor (List ℕ))) (q : ℕ) → length (first_text (drop q ts)) ≤ sizes ts
unfolding first_text sizes
next_size [] zero = omega arith
next_size [] (suc q) = omega arith
next_size (t ∷ ts) zero = omega arith
next_size (t ∷ ts) (suc q) = omega (arith, next_size ts q)

-- what stands for it, by the byte, and where its text is the next
pub ruleset slot_laws = (takes_text, takes_plain, slot_escaped, slot_plain, slot_itself, next_is, next_size)

-- ---- no byte takes more than three
sizes-first : (ts : List (Bor (List ℕ))) → sizes ts ≡ length (first_text ts) + sizes (drop 1 ts)
unfolding sizes first_text
sizes-first [] = refl
sizes-first (t ∷ ts) = refl

slot-length : (d : Delims) (b : ℕ) (ts : List (Bor (List ℕ))) → length (slot_text d b (first_text ts)) + 3 * sizes (drop (taken b) ts) ≤ 3 * sizes ts + 1
unfolding slot_text taken
slot-length d b ts =
    cases (eqb b 36)
    (λ e. rw e (omega (arith, sizes-first ts, escaped-length d (first_text ts))))
    (λ e. cases (eqb b 35) (λ f. rw (e, f) (omega (arith, sizes-first ts))) (λ f. rw (e, f) (omega arith)))

pub woven-length : (d : Delims) (p : List ℕ) (ts : List (Bor (List ℕ))) → length (woven d p ts) ≤ 3 * sizes ts + length p
unfolding woven
woven-length d [] ts = omega arith
woven-length d (b ∷ p) ts = simp length-append (omega (arith, slot-length d b ts, woven-length d p (drop (taken b) ts)))

-- ---- the loops
next-slot : (d : Delims) (p : List ℕ) (ts : List (Bor (List ℕ))) (i q k : ℕ) → i < length p → k ≡ taken (get_or p i 0)
    → Splits (woven d (drop i p) (drop q ts)) (slot_text d (get_or p i 0) (first_text (drop q ts))) (woven d (drop (i + 1) p) (drop (q + k) ts))
unfolding woven
next-slot d p ts i q k h e = record { eq = rw (here 0 p i h, e, drop-drop (taken (get_or p i 0)) q ts) }

pub next-hole : (p : List ℕ) (i q n : ℕ) → i < length p → q + holes (drop i p) ≤ n → q + taken (get_or p i 0) + holes (drop (i + 1) p) ≤ n
unfolding holes
next-hole p i q n h f = let e : holes (drop i p) ≡ taken (get_or p i 0) + holes (drop (i + 1) p) = rw (here 0 p i h) in omega arith

pub one-hole : (p : List ℕ) (i q n : ℕ) → i < length p → q + holes (drop i p) ≤ n → q + taken (get_or p i 0) ≤ n
one-hole p i q n h f = omega (arith, next-hole p i q n h f)

pub holes-go : (p : List ℕ) (i q n k : ℕ) → i < length p → q + holes (drop i p) ≤ n → k ≡ taken (get_or p i 0) → (q + k) + holes (drop (i + 1) p) ≤ n
holes-go p i q n k h f e = rw e (next-hole p i q n h f)

pub woven-begins : (d : Delims) (p : List ℕ) (ts : List (Bor (List ℕ))) (out : List ℕ) → length (woven d p ts) ≤ length out
    → Running (woven d p ts) (woven d (drop 0 p) (drop 0 ts)) out out 0
woven-begins d p ts out h = run-start (woven d p ts) out h

module _ (d : Delims) (p : List ℕ) (ts : List (Bor (List ℕ))) (whole out₀ out : List ℕ) (i q at : ℕ)
    (run : Running whole (woven d (drop i p) (drop q ts)) out₀ out at) where
  pub woven-room : i < length p → at + length (slot_text d (get_or p i 0) (first_text (drop q ts))) ≤ length out
  woven-room h = run_room run (next-slot d p ts i q (taken (get_or p i 0)) h refl)

  pub woven-goes : (r : ℕ) (y : List ℕ) (k : ℕ) → i < length p → Put at out (slot_text d (get_or p i 0) (first_text (drop q ts))) r y → k ≡ taken (get_or p i 0)
      → Running whole (woven d (drop (i + 1) p) (drop (q + k) ts)) out₀ y r
  woven-goes r y k h w e = run-next run (next-slot d p ts i q k h e) w

  pub woven-ends : length p ≤ i → Wrote at out whole out₀
  unfolding woven
  woven-ends h = run_end run (rw (over p i h))

module _ (d : Delims) (p : List ℕ) (ts : List (Bor (List ℕ))) (whole : List ℕ) (i q n : ℕ) (sum : n + length (woven d (drop i p) (drop q ts)) ≡ length whole) where
  pub sum_goes : (u k : ℕ) → i < length p → u ≡ length (slot_text d (get_or p i 0) (first_text (drop q ts))) → k ≡ taken (get_or p i 0)
      → (n + u) + length (woven d (drop (i + 1) p) (drop (q + k) ts)) ≡ length whole
  sum_goes u k h e f = omega (arith, simp length-append at (ap length (next-slot d p ts i q k h f).eq))

  pub sum-few : (u : ℕ) → i < length p → u ≡ length (slot_text d (get_or p i 0) (first_text (drop q ts))) → whole ≡ woven d p ts → sizes ts ≤ 1000000 → length p ≤ 100
      → n + u < 18446744073709551616
  sum-few u h e w s l = omega (arith, sum_goes u (taken (get_or p i 0)) h e refl, ap length w, woven-length d p ts)

  pub sum-ends : length p ≤ i → n ≡ length whole
  unfolding woven
  sum-ends h = let e : length (woven d (drop i p) (drop q ts)) ≡ 0 = rw (over p i h) in omega arith

-- ---- the texts added up
added : (n : ℕ) (ts : List (Bor (List ℕ))) → fold (λ a (t : Bor (List ℕ)). a + length t.now) n ts ≡ n + sizes ts
unfolding sizes
added n [] = omega arith
added n (t ∷ ts) = added (n + length t.now) ts ∙ omega arith

pub sizes_sum : (ts : List (Bor (List ℕ))) → sum_by (λ (t : Bor (List ℕ)). length t.now) ts ≡ sizes ts
sizes_sum ts = added 0 ts ∙ omega arith

-- ---- where there is room
module _ (d : Delims) (p : List ℕ) (ts : List (Bor (List ℕ))) where
  pub ample-room : (n : ℕ) (old : List ℕ) → n ≡ sizes ts → 3 * n + length p ≤ length old → length (woven d p ts) ≤ length old
  ample-room n old e h = omega (arith, woven-length d p ts)

  pub length-within : (r : ℕ) → r ≡ length (woven d p ts) → sizes ts ≤ 1000000 → length p ≤ 100 → r ≤ 300000000
  length-within r e s l = omega (arith, woven-length d p ts)

pub measured-room : (n : ℕ) (w old : List ℕ) → n ≡ length w → n ≤ length old → length w ≤ length old
measured-room n w old e h = omega arith

module _ (r : ℕ) (x w old : List ℕ) where
  pub fits_not : r ≡ length w → length old < r → Fit r old w old
  unfolding fitted
  fits_not e h = record { ends = e; is = rw (lt-leb (length w) (length old) (omega arith)) }

  pub fits : length w ≤ length old → Wrote r x w old → Fit r x w old
  unfolding fitted
  fits h p = record { ends = p.ends; is = p.is ∙ rw (le-leb (length w) (length old) h) }
