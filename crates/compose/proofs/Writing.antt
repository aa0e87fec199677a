-- A segment and a group written behind the bytes that stand already. Assumes nothing.
use mathlib.Core.Path.{◌≡◌, refl, sym, ap, ◌∙◌}
use mathlib.Core.Bool.{Bool, true, false, not}
use mathlib.Core.List.{List, ◌++◌, append_assoc, append-nil}
use Prim.Native.Nat.{ℕ, ◌+◌, ◌-◌, ◌≤◌, min}
use native.Mathlib.Numerals.{add-one}
use native.Mathlib.Omega.{arith}
use borrow.Author.Tests.{le-leb, leb-true}
use lib.Dec.{leb}
use lib.ListN.{length, take, drop, length-append, length-drop, length-take, take-append-drop}
use lib.Seq.{length-take-le, drop-drop}
use Rattle.rules.specs.declared.Delims.{Delims}
use Rattle.rules.specs.declared.Name.{Name}
use Rattle.rules.specs.declared.Name.TheVariants.{Msh, Pid, Pv1, Spm, Obr, Orc, Obx, Other}
use Rattle.rules.specs.Frame.{is}
use Rattle.rules.specs.Frame as Frame
use Rattle.rules.specs.Message.{Numbers, zeros}
use Rattle.rules.specs.Message as Message
use Rattle.rules.proofs.Logic.{cases, never, not-true, not-false}
use Rattle.rules.proofs.Names.{name-is}
use Rattle.writer.specs.Over.{over_front, over_at, Wrote, Put, fitted, Fit}
use Rattle.writer.proofs.Laws.{back, then}
use Rattle.segments.specs.Segments.{group_segment}
use Rattle.segments.proofs.Texts.{shapes}
use Rattle.numbered.specs.declared.Numbers.{Numbers as Coded}
use Rattle.numbered.specs.Numbered.{numbers_of}
use Rattle.compose.specs.Compose.{group_text, FitAt}

-- ---- a write where there is room, at a place
fitted-length : (w old : List ℕ) → length (fitted w old) ≡ length old
unfolding fitted over_front
fitted-length w old =
    cases (leb (length w) (length old))
    (λ e. rw e (simp (length-append, length-drop) (omega (arith, leb-true (length w) (length old) e))))
    (λ e. rw e)

fit-over : {r : ℕ} {y w x : List ℕ} → Fit r y w x → r ≤ length x → Wrote r y w x
unfolding fitted
fit-over {r} {y} {w} {x} p h = record { ends = p.ends; is = p.is ∙ rw (le-leb (length w) (length x) (omega (arith, p.ends))) }

added : (x text y : List ℕ) (at from k : ℕ) → from ≤ length x → (at ≤ length x → from ≡ at) → Fit k y text (take (length x - from) (drop from x))
    → FitAt at x text (at + k) (take from x ++ (y ++ drop (length x - from) (drop from x)))
added x text y at from k h g p =
    let tail = take (length x - from) (drop from x) in
    let t : length tail ≡ length x - from = simp (length-take, length-drop) (omega arith) in
    let s : length y ≡ length tail = ap length p.is ∙ fitted-length text tail in
    record {
      ends = omega (arith, p.ends);
      same = simp (length-append, length-take-le from x h, s, t, length-drop) (omega arith);
      is = λ w. let f : from ≡ at = g (omega arith) in (back from x (fit-over p (omega arith))).is ∙ ap (λ (q : ℕ). over_at q text x) f;
    }

-- ---- one behind another
front-own : (at : ℕ) (x : List ℕ) → at ≤ length x → Wrote at x (take at x) x
unfolding over_front
front-own at x h =
    let l : length (take at x) ≡ at = length-take-le at x h in
    record { ends = sym l; is = sym (ap (λ (n : ℕ). take at x ++ drop n x) l ∙ take-append-drop at x) }

over-two : (at : ℕ) (x b : List ℕ) → at ≤ length x → over_front (take at x ++ b) x ≡ over_at at b x
unfolding over_front over_at
over-two at x b h =
    let l : length (take at x ++ b) ≡ at + length b = length-append (take at x) b ∙ ap (λ (n : ℕ). n + length b) (length-take-le at x h) in
    rw (l, drop-drop (length b) at x, append_assoc)

both-put : (x y z b c : List ℕ) (at m r : ℕ) → FitAt at x b m y → FitAt m y c r z → FitAt at x (b ++ c) r z
both-put x y z b c at m r p q = record {
  ends = omega (arith, p.ends, q.ends, length-append b c);
  same = q.same ∙ p.same;
  is = λ w.
      let h : at ≤ length x = omega (arith, p.ends, q.ends) in
      let u : Put at x b m y = record { ends = p.ends; is = p.is (omega (arith, q.ends)) } in
      let v : Put m y c r z = record { ends = q.ends; is = q.is (omega (arith, p.same)) } in
      (then (then (front-own at x h) u) v).is ∙ rw (append_assoc (take at x) b c) (over-two at x (b ++ c) h);
}

-- ---- a group's segments
module _ (d : Delims) (n : Numbers) (ts : List (List ℕ)) where
  order-two : group_segment d n Obr 0 ts ++ group_segment d zeros Obr 1 ts ≡ group_text d n Obr ts
  unfolding shapes group_text
  order-two = simp (append_assoc, append-nil)

  one_only : (g : Name) → is g Obr ≡ false → group_segment d n g 0 ts ≡ group_text d n g ts
  unfolding shapes group_text
  one_only Msh h = refl
  one_only Pid h = refl
  one_only Pv1 h = refl
  one_only Spm h = refl
  one_only Obr h = never h
  one_only Orc h = refl
  one_only Obx h = refl
  one_only Other h = refl

  -- the first in what remains of x from the place from on: it has k bytes and leaves y there
  module _ (g : Name) (x y : List ℕ) (at from k : ℕ) (l : from ≡ min at (length x)) (p : Fit k y (group_segment d n g 0 ts) (take (length x - from) (drop from x)))
      (q : Bool) (e : q ≡ is g Obr) where
    abbrev whole : List ℕ
    whole = take from x ++ (y ++ drop (length x - from) (drop from x))

    h : from ≤ length x
    h = omega (arith, l)

    f : at ≤ length x → from ≡ at
    f w = omega (arith, l)

    pub one-put : not q ≡ true → FitAt at x (group_text d n g ts) (at + k) whole
    one-put o = rw (one_only g (sym e ∙ not-true q o)) at (added x (group_segment d n g 0 ts) y at from k h f p)

    pub order-put : not q ≡ false → (z : List ℕ) (behind m : ℕ) → behind ≡ min (at + k) (length whole)
        → Fit m z (group_segment d zeros Obr 1 ts) (take (length whole - behind) (drop behind whole))
        → FitAt at x (group_text d n g ts) (at + k + m) (take behind whole ++ (z ++ drop (length whole - behind) (drop behind whole)))
    order-put o z behind m j r =
        let b : g ≡ Obr = name-is g Obr (sym e ∙ not-false q o) in
        let one : FitAt at x (group_segment d n Obr 0 ts) (at + k) whole = rw b at (added x (group_segment d n g 0 ts) y at from k h f p) in
        rw (b, ← order-two) (both-put x whole _ (group_segment d n Obr 0 ts) (group_segment d zeros Obr 1 ts) at (at + k) (at + k + m) one (added whole (group_segment d zeros Obr 1 ts) z (at + k) behind m (omega (arith, j)) (λ w. omega (arith, j)) r))

-- ---- counting
module _ (x a g : Name) (n : ℕ) (p : Bool) (e : p ≡ is g x) where
  pub count-one : p ≡ true → n + 1 ≡ Frame.counting x a n g
  unfolding Frame.counting
  count-one h = rw (← e, h, add-one n)

  module _ (h : p ≡ false) (q : Bool) (f : q ≡ is g a) where
    pub count-anew : q ≡ true → 0 ≡ Frame.counting x a n g
    unfolding Frame.counting
    count-anew k = rw (← e, h, ← f, k)

    pub count_same : q ≡ false → n ≡ Frame.counting x a n g
    unfolding Frame.counting
    count_same k = rw (← e, h, ← f, k)

pub counted_is : (n : Coded) (g : Name) (i j : ℕ) → i ≡ Frame.counting Spm Msh n.specimen g → j ≡ Frame.counting Obx Obr n.result g
    → record { specimen = i; result = j } ≡ Message.counted (numbers_of n) g
unfolding Message.counted
counted_is n g i j e f = rw (e, f)
