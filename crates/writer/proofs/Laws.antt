-- The laws of a run of writes: what a store of a copying loop leaves, and how one write after another is one write of both. Assumes nothing.
use mathlib.Core.Path.{◌≡◌, refl, sym, ap, ◌∙◌}
use mathlib.Core.List.{List, [], ◌∷◌, ◌++◌, append_assoc, append-nil}
use Prim.Native.Nat.{ℕ, zero, suc, ◌+◌, ◌-◌, ◌≤◌, ◌<◌}
use native.Mathlib.Nat.{le_of_suc-le-suc, not-suc-le-zero}
use native.Mathlib.Numerals.{add-one}
use native.Mathlib.Omega.{arith}
use lib.ListN.{length, take, drop, get_or, set, length-append, length-drop, drop_of_length-le}
use lib.Seq.{take_at, drop_at, drop-drop, take-length, length-take-le, set_split}
use Rattle.rules.proofs.Lists.{rest-is}
use Rattle.writer.specs.Over.{over_front, over_at, Wrote, Put}

-- a turn's store takes the copy of i bytes to the copy of one more
copied : (s d : List ℕ) (i : ℕ) → i < length s → i < length d → set (take i s ++ drop i d) i (get_or s i 0) ≡ take (suc i) s ++ drop (suc i) d
copied [] d i h k = absurd (not-suc-le-zero h)
copied (x ∷ xs) [] i h k = absurd (not-suc-le-zero k)
copied (x ∷ xs) (y ∷ ys) zero h k = refl
copied (x ∷ xs) (y ∷ ys) (suc i) h k = ap (λ (l : List ℕ). x ∷ l) (copied xs ys i (le_of_suc-le-suc h) (le_of_suc-le-suc k))

pub copy_step : (s d o : List ℕ) (i : ℕ) → o ≡ take i s ++ drop i d → i < length s → i < length d → set o i (get_or s i 0) ≡ take (i + 1) s ++ drop (i + 1) d
copy_step s d o i e h k = rw (e, add-one) (copied s d i h k)

pub copy-end : (s d o : List ℕ) (i : ℕ) → o ≡ take i s ++ drop i d → i ≡ length s → o ≡ over_front s d
unfolding over_front
copy-end s d o i e h = e ∙ rw (h, take-length)

-- one write after another is one write of both
fuse : (a : ℕ) (b c old : List ℕ) → a ≡ length b → over_at a c (over_front b old) ≡ over_front (b ++ c) old
unfolding over_front over_at
fuse a b c old h =
    rw (h, take_at b (drop (length b) old) (length b) refl, drop_at b (drop (length b) old) (length b) refl)
    (rw (drop-drop, length-append, append_assoc))

-- a tail that was lent has nothing behind it
pub tail_none : (a : ℕ) (xs : List ℕ) → drop (length xs - a) (drop a xs) ≡ []
tail_none a xs = drop_of_length-le (drop a xs) {i = length xs - a} (simp length-drop (omega arith))

-- before the first write
pub start : (old : List ℕ) → Wrote 0 old [] old
unfolding over_front
start old = record { ends = refl; is = refl }

-- one more write, by what `put_at` ensures
pub then : {at r : ℕ} {x y w b old : List ℕ} → Wrote at x w old → Put at x b r y → Wrote r y (w ++ b) old
then {at} {r} {x} {y} {w} {b} {old} p e =
    record { ends = simp length-append (omega arith); is = e.is ∙ ap (over_at at b) p.is ∙ fuse at w b old p.ends }

-- the slice once a tail that was lent to a routine is back: a write from that place on
pub back : (at : ℕ) (x : List ℕ) {r : ℕ} {y b : List ℕ} → Wrote r y b (take (length x - at) (drop at x)) → Put at x b (at + r) (take at x ++ (y ++ drop (length x - at) (drop at x)))
unfolding over_at
back at x p = record { ends = omega arith; is = rw (p.is, rest-is, tail_none, append-nil) }

-- a store is a write of one byte
pub stored : (at : ℕ) (x : List ℕ) (b : ℕ) → at < length x → Put at x (b ∷ []) (at + 1) (set x at b)
unfolding over_front over_at
stored at x b h = record { ends = refl; is = set_split x at b h ∙ rw (drop-drop, add-one) }

-- what is left of a text begins with b. (A record, so that a law's caller need not write b and l.)
pub record Splits (left b l : List ℕ) : Type 0 where
  pub eq : left ≡ b ++ l

-- a write with room keeps the length
pub length-put : {at r : ℕ} {x b y : List ℕ} → Put at x b r y → at + length b ≤ length x → length y ≡ length x
unfolding over_front over_at
length-put {at} {r} {x} {b} p h = ap length p.is ∙ simp (length-append, length-take-le at x (omega arith), length-drop) (omega arith)

-- what a loop that writes keeps: what it has written, that `left` completes the whole, and that the whole has room
pub record Running (whole left out₀ out : List ℕ) (at : ℕ) : Type 0 where
  pub done : List ℕ
  pub fits : length whole ≤ length out₀
  pub same : length out ≡ length out₀
  pub wrote : Wrote at out done out₀
  pub rest : whole ≡ done ++ left

pub run-start : (whole out : List ℕ) → length whole ≤ length out → Running whole whole out out 0
run-start whole out h = record { done = []; fits = h; same = refl; wrote = start out; rest = refl }

module _ {whole left out₀ out : List ℕ} {at : ℕ} (p : Running whole left out₀ out at) where
  pub run_room : {b l : List ℕ} → Splits left b l → at + length b ≤ length out
  run_room e = omega (arith, simp length-append at (ap length (p.rest ∙ ap (λ (z : List ℕ). p.done ++ z) e.eq)))

  pub run-next : {b l y : List ℕ} {r : ℕ} → Splits left b l → Put at out b r y → Running whole l out₀ y r
  run-next {b} e q = record {
    done = p.done ++ b;
    fits = p.fits;
    same = length-put q (run_room e) ∙ p.same;
    wrote = then p.wrote q;
    rest = p.rest ∙ rw (e.eq, append_assoc);
  }

  pub run_end : left ≡ [] → Wrote at out whole out₀
  run_end e = rw (p.rest, e, append-nil) p.wrote

-- what was written lies at the front
pub front : {r : ℕ} {x w old : List ℕ} → Wrote r x w old → take r x ≡ w
unfolding over_front
front {r} {x} {w} {old} p = rw p.is (take_at w (drop (length w) old) r (sym p.ends))

pub front-is : (r : ℕ) (x w old : List ℕ) → Wrote r x w old → r ≡ length (take r x)
front-is r x w old p = p.ends ∙ ap length (sym (front p))

pub front-within : (r : ℕ) (x w old : List ℕ) → Wrote r x w old → r ≤ length x
unfolding over_front
front-within r x w old p = omega (arith, p.ends, ap length p.is ∙ length-append w (drop (length w) old))
