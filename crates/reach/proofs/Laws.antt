-- The laws of writing as far as a lent buffer reaches. Assumes nothing.
use mathlib.Core.Path.{◌≡◌, refl, sym, ap, ◌∙◌}
use mathlib.Core.List.{List, [], ◌∷◌, ◌++◌, append_assoc, append-nil}
use Prim.Native.Nat.{ℕ, zero, suc, ◌+◌, ◌-◌, ◌≤◌, ◌<◌, min}
use native.Mathlib.Omega.{arith}
use lib.ListN.{length, take, drop, set, length-append}
use lib.Seq.{set_out}
use Rattle.std.proofs.lemmas.List.{take_min, drop_min}
use Rattle.rules.proofs.Lists.{rest-length}
use Rattle.unescape.specs.Unescaped.{fill}
use Rattle.unescape.proofs.Laws.{fill-take}
use Rattle.writer.specs.Over.{Wrote}
use Rattle.fill.specs.Fill.{fill_at}
use Rattle.fill.proofs.Laws.{fill-nil, length-fill, add_twice, put_fills, prefix_room, back}
use Rattle.reach.specs.Reach.{Adds}

-- ---- the buffer
length-fill_at : (at : ℕ) (b x : List ℕ) → length (fill_at at b x) ≡ length x
unfolding fill_at
length-fill_at zero b x = length-fill b x
length-fill_at (suc at) b [] = ap length (fill-nil b)
length-fill_at (suc at) b (o ∷ x) = ap suc (length-fill_at at b x)

fill_none : (at : ℕ) (x : List ℕ) → fill_at at [] x ≡ x
unfolding fill_at fill
fill_none zero x = refl
fill_none (suc at) [] = refl
fill_none (suc at) (o ∷ x) = ap (λ (l : List ℕ). o ∷ l) (fill_none at x)

fill_one : (at b : ℕ) (x : List ℕ) → fill_at at (b ∷ []) x ≡ set x at b
unfolding fill_at fill
fill_one zero b [] = refl
fill_one zero b (o ∷ x) = refl
fill_one (suc at) b [] = refl
fill_one (suc at) b (o ∷ x) = ap (λ (l : List ℕ). o ∷ l) (fill_one at b x)

-- a place past the end is the end
fill-cut : (n : ℕ) (c x : List ℕ) → fill_at (min n (length x)) c x ≡ fill_at n c x
unfolding fill_at
fill-cut n c x = rw (take_min, drop_min)

adds-is : (at r : ℕ) (x b y : List ℕ) → r ≡ min (at + length b) (length x) → y ≡ fill_at at b x → Adds at x b r y
adds-is at r x b y e q =
    let s : length y ≡ length x = ap length q ∙ length-fill_at at b x in
    record { ends = e; is = q; same = s; inside = omega arith }

-- ---- one write after another
pub adds_none : (at : ℕ) (x : List ℕ) → at ≤ length x → Adds at x [] at x
adds_none at x h = adds-is at at x [] x (omega arith) (sym (fill_none at x))

pub adds_then : {at r k : ℕ} {x y z b c : List ℕ} → Adds at x b r y → Adds r y c k z → Adds at x (b ++ c) k z
adds_then {at} {r} {k} {x} {y} {z} {b} {c} p q =
    let n = at + length b in
    let e : r ≡ min n (length y) = omega (arith, p.ends, p.same) in
    adds-is at k x (b ++ c) z
    (rw length-append (omega (arith, p.ends, p.same, q.ends)))
    (q.is ∙ ap (λ (i : ℕ). fill_at i c y) e ∙ fill-cut n c y ∙ ap (fill_at n c) p.is ∙ add_twice at b c x)

-- ---- what a loop that writes keeps: what it has written, and that `left` completes the whole
pub record Writing (whole left old x : List ℕ) (at k : ℕ) : Type 0 where
  pub done : List ℕ
  pub added : Adds at old done k x
  pub rest : whole ≡ done ++ left

pub starts : (whole old : List ℕ) (at : ℕ) → at ≤ length old → Writing whole whole old old at at
starts whole old at h = record { done = []; added = adds_none at old h; rest = refl }

module _ {whole left old x : List ℕ} {at k : ℕ} (p : Writing whole left old x at k) where
  pub goes : (b l y : List ℕ) (r : ℕ) → left ≡ b ++ l → Adds k x b r y → Writing whole l old y at r
  goes b l y r e q = record { done = p.done ++ b; added = adds_then p.added q; rest = p.rest ∙ rw (e, append_assoc) }

  pub done-when : left ≡ [] → Adds at old whole k x
  done-when e = rw (p.rest, e, append-nil) p.added

-- ---- a text from the front on
module _ {x w y : List ℕ} {r : ℕ} (p : Adds 0 x w r y) where
  front-whole : length w ≤ length x → r ≡ length w
  front-whole h = omega (arith, p.ends)

  pub front_cut : r < length x → length w ≡ r
  front_cut h = omega (arith, p.ends)

  pub front-is : length w ≤ length x → take r y ≡ w
  unfolding fill_at
  front-is h = rw (front-whole h, p.is) (fill-take w x h)

-- ---- one byte
pub byte_in : (at b : ℕ) (x : List ℕ) → at < length x → Adds at x (b ∷ []) (at + 1) (set x at b)
byte_in at b x h = adds-is at (at + 1) x (b ∷ []) (set x at b) (omega arith) (sym (fill_one at b x))

pub byte_out : (at b : ℕ) (x : List ℕ) → at ≤ length x → length x ≤ at → Adds at x (b ∷ []) at x
byte_out at b x k h = adds-is at at x (b ∷ []) x (omega arith) (sym (fill_one at b x ∙ set_out x at b h))

-- ---- bytes as they are, over what is left of the buffer from a place on
module _ (s x : List ℕ) (at n : ℕ) (e : n ≡ min (length s) (length x - at)) where
  in_rest : n ≡ min (length s) (length (take (length x - at) (drop at x)))
  in_rest = omega (arith, rest-length x at)

  pub rest_room : length (take n s) ≤ length (take (length x - at) (drop at x))
  rest_room = prefix_room s (take (length x - at) (drop at x)) n in_rest

  pub put_adds : (y : List ℕ) (k : ℕ) → at ≤ length x → Wrote k y (take n s) (take (length x - at) (drop at x))
      → Adds at x s (at + n) (take at x ++ (y ++ drop (length x - at) (drop at x)))
  put_adds y k i w =
      let f = put_fills s (take (length x - at) (drop at x)) y n k in_rest w in
      let b = back x y s at at (length s) (omega arith) f in
      adds-is at (at + n) x s (take at x ++ (y ++ drop (length x - at) (drop at x))) (omega arith) b.is
