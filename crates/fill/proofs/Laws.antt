-- The laws of writing as far as a lent buffer reaches. Assumes nothing.
use Prim.Native.Nat.{ℕ, zero, suc, ◌+◌, ◌-◌, ◌≤◌, ◌<◌, min}
use native.Mathlib.Nat.{zero-add, suc-add}
use native.Mathlib.Omega.{arith}
use mathlib.Core.Path.{◌≡◌, refl, sym, ap, subst, ◌∙◌}
use mathlib.Core.List.{List, [], ◌∷◌, ◌++◌, map, append-nil}
use mathlib.Core.Option.{none}
use mathlib.Core.Bool.{Bool, true, ◌&&◌}
use borrow.Author.Tests.{eqb-true}
use lib.Dec.{eqb}
use lib.ListN.{length, take, drop, length-append}
use lib.Seq.{take_all, length-take-le}
use Rattle.std.proofs.lemmas.List.{take_min, drop_min}
use Rattle.rules.specs.declared.Delims.{Delims}
use Rattle.rules.specs.Lists.{ended, or_empty}
use Rattle.rules.specs.Shift.{met, byte_of}
use Rattle.rules.specs.Escape.{unescape}
use Rattle.rules.specs.Judge.{plain_of}
use Rattle.rules.proofs.Logic.{option_cases, both}
use Rattle.rules.proofs.Lists.{rest-is}
use Rattle.rules.proofs.Split.{ended-append}
use Rattle.rules.proofs.Modes.{length-met}
use Rattle.plain_bytes.specs.Bytes.{until}
use Rattle.scan.specs.Scan.{ends, plain_text, CutOf}
use Rattle.scan.proofs.Laws.{take-until}
use Rattle.judge.proofs.Laws.{clean_at}
use Rattle.unescape.proofs.Laws.{value-short}
use Rattle.unescape.specs.Unescaped.{fill, Whole, Longer, Fits}
use Rattle.std.specs.declared.result.Result.{Result}
use Rattle.std.specs.declared.result.Result.TheVariants.{Ok, Err}
use Rattle.unescape.specs.declared.NotHeld.{NotHeld}
use Rattle.unescape.specs.declared.NotHeld.TheVariants.{Faulty, Over}
use Rattle.writer.specs.Over.{Wrote}
use Rattle.writer.specs.Over as W
use Rattle.writer.proofs.Laws.{tail_none}
use Rattle.fill.specs.declared.Lines.{Lines}
use Rattle.fill.specs.Fill.{Filled, fill_at, FilledAt, Lined, longest}
use Rattle.fill.specs.Lines.{Same, Continued}

-- ---- bytes as they are
fill-over : (s old : List ℕ) (n : ℕ) → n ≡ min (length s) (length old) → take n s ++ drop n old ≡ fill s old
unfolding fill
fill-over [] old zero e = refl
fill-over [] old (suc n) e = absurd (omega arith)
fill-over (x ∷ s) [] zero e = refl
fill-over (x ∷ s) [] (suc n) e = absurd (omega arith)
fill-over (x ∷ s) (o ∷ old) zero e = absurd (omega arith)
fill-over (x ∷ s) (o ∷ old) (suc n) e = ap (λ (l : List ℕ). x ∷ l) (fill-over s old n (omega arith))

pub put_fills : (s old x : List ℕ) (n k : ℕ) → n ≡ min (length s) (length old) → Wrote k x (take n s) old → Filled (length s) x s old
unfolding W.over_front
put_fills s old x n k e w = record { ends = refl; is = w.is ∙ rw (length-take-le n s (omega arith)) (fill-over s old n e) }

pub prefix_room : (s old : List ℕ) (n : ℕ) → n ≡ min (length s) (length old) → length (take n s) ≤ length old
prefix_room s old n e = omega (arith, length-take-le n s (omega arith))

-- ---- a value is no longer than its component
module _ (d : Delims) (raw : List ℕ) where
  plain-short : length (plain_of d (met raw)) ≤ length raw
  unfolding or_empty
  plain-short = option_cases (unescape d (met raw)) (λ v e. rw e (value-short d raw v e)) (λ e. rw e (omega arith))

  -- a component that is the whole text and has no escapes is its own value
  module _ (n : ℕ) (q : Bool) (c : CutOf d raw n q) (h : (q && eqb n (length raw)) ≡ true) where
    clean-long : n ≡ length raw
    clean-long = eqb-true n (length raw) (both q (eqb n (length raw)) h).1

    pub clean-whole : until (ends d) (met raw) ≡ met raw
    clean-whole = sym (take-until (ends d) (met raw)) ∙ take_all (length (until (ends d) (met raw))) (met raw) (omega (arith, c.long, clean-long, length-met raw))

    pub clean-plain : plain_of d (met raw) ≡ raw
    unfolding or_empty unescape
    clean-plain =
        let a : plain_text d (met raw) ≡ true = ap (plain_text d) (sym clean-whole) ∙ sym c.plain ∙ (both q (eqb n (length raw)) h).0 in
        let v : map byte_of (met raw) ≡ raw = ap (map byte_of) (sym clean-whole) ∙ c.raw ∙ take_all n raw (omega (arith, clean-long)) in
        rw (clean_at d (met raw) a, v)

  module _ (out x : List ℕ) (r : ℕ) where
    value-within : Filled r x (plain_of d (met raw)) out → r ≤ length raw
    value-within f = omega (arith, f.ends, plain-short)

    pub value-clean : (n : ℕ) (q : Bool) → CutOf d raw n q → (q && eqb n (length raw)) ≡ true → Filled r x raw out → Filled r x (plain_of d (met raw)) out
    value-clean n q c h f = rw (clean-plain n q c h) f

    pub value-got : (u : Result ℕ NotHeld) (n : ℕ) (buf : List ℕ) → u ≡ Ok n → Fits u (unescape d (met raw)) buf → Filled r x (take n buf) out → Filled r x (plain_of d (met raw)) out
    unfolding or_empty
    value-got u n buf e h f = let w : Whole n (unescape d (met raw)) buf = subst (λ (z : Result ℕ NotHeld). Fits z (unescape d (met raw)) buf) e h in rw w.is f

  pub got-short : (out x : List ℕ) (r : ℕ) (u : Result ℕ NotHeld) (n : ℕ) (buf : List ℕ) → u ≡ Ok n → Fits u (unescape d (met raw)) buf → Filled r x (take n buf) out → r ≤ length raw
  got-short out x r u n buf e h f = value-within out x r (value-got out x r u n buf e h f)

  -- a component that the buffer doesn't hold has a bad escape, for 4096 bytes hold each text
  pub value-none : (out : List ℕ) (u : Result ℕ NotHeld) (f : NotHeld) (buf : List ℕ) → u ≡ Err f → Fits u (unescape d (met raw)) buf → length buf ≡ 4096 → length raw ≤ 4096
      → Filled 0 out (plain_of d (met raw)) out
  unfolding or_empty fill
  value-none out u Faulty buf e h l k =
      let w : unescape d (met raw) ≡ none = subst (λ (z : Result ℕ NotHeld). Fits z (unescape d (met raw)) buf) e h in rw w (record { ends = refl; is = refl })
  value-none out u (Over n) buf e h l k =
      let w : Longer n (unescape d (met raw)) buf = subst (λ (z : Result ℕ NotHeld). Fits z (unescape d (met raw)) buf) e h in
      absurd (omega (arith, w.long, w.over, value-short d raw w.text w.is))

-- one text after another, where what is left of the buffer was lent for the second
pub fill-nil : (b : List ℕ) → fill b [] ≡ []
unfolding fill
fill-nil [] = refl
fill-nil (x ∷ b) = refl

pub length-fill : (w old : List ℕ) → length (fill w old) ≡ length old
unfolding fill
length-fill [] old = refl
length-fill (x ∷ w) [] = refl
length-fill (x ∷ w) (o ∷ old) = ap suc (length-fill w old)

fill_more : (w b old : List ℕ) → take (length w) (fill w old) ++ fill b (drop (length w) (fill w old)) ≡ fill (w ++ b) old
unfolding fill
fill_more [] b old = refl
fill_more (x ∷ w) b [] = fill-nil b
fill_more (x ∷ w) b (o ∷ old) = ap (λ (l : List ℕ). x ∷ l) (fill_more w b old)

-- the buffer once what is left of it from a place on, which was lent to a routine, is back
pub back : (x y b : List ℕ) (at f r : ℕ) → f ≡ min at (length x) → Filled r y b (take (length x - f) (drop f x))
    → FilledAt at x b (at + r) (take f x ++ (y ++ drop (length x - f) (drop f x)))
unfolding fill_at
back x y b at f r e q = record { ends = omega (arith, q.ends); is = rw (q.is, rest-is, tail_none, append-nil, e, take_min, drop_min) }

pub add_twice : (at : ℕ) (b c x : List ℕ) → fill_at (at + length b) c (fill_at at b x) ≡ fill_at at (b ++ c) x
unfolding fill_at
add_twice zero b c x = rw zero-add (fill_more b c x)
add_twice (suc at) b c [] = rw (fill-nil b, suc-add) (rw (fill-nil c, fill-nil (b ++ c)))
add_twice (suc at) b c (o ∷ x) = rw suc-add (ap (λ (l : List ℕ). o ∷ l) (add_twice at b c x))

add-then : {at r k : ℕ} {x y z b c : List ℕ} → FilledAt at x b r y → FilledAt r y c k z → FilledAt at x (b ++ c) k z
add-then {at} {r} {k} {x} {y} {z} {b} {c} p q = record {
  ends = rw length-append (omega (arith, p.ends, q.ends));
  is = q.is ∙ rw (p.ends, p.is) (add_twice at b c x);
}

pub lined_then : {at r k : ℕ} {x y z : List ℕ} {ls ms : List (List ℕ)} → Lined at x ls r y → Lined r y ms k z → Lined at x (ls ++ ms) k z
lined_then {ls = ls} {ms} p q = record { filled = rw (ended-append 0x0A ls ms) (add-then p.filled q.filled) }

-- ---- lines where they are written
pub same_then : {l m n : Lines} → Same l m → Same m n → Same l n
same_then p q = record { out = q.out ∙ p.out; delims = q.delims ∙ p.delims }

-- a key, a value and 0A are a line
pub line_is : {l m n o : Lines} (k e : List ℕ) (v : Delims → List ℕ) → Same l m → Same m n → Same n o → FilledAt l.at l.out.now k m.at m.out.now
    → FilledAt m.at m.out.now (v m.delims) n.at n.out.now → FilledAt n.at n.out.now e o.at o.out.now → e ≡ 0x0A ∷ [] → o.at ≤ l.at + longest 1
    → Continued 1 l o (λ d. (k ++ v d) ∷ [])
unfolding ended
line_is k e v s t u p q r i w = record {
  same = same_then s (same_then t u);
  lined = record { filled = rw (s.delims, i) at (add-then (add-then p q) r) };
  within = w;
}

-- lines behind lines
pub then : {a b : ℕ} {l m n : Lines} {f g : Delims → List (List ℕ)} → Continued a l m f → Continued b m n g → Continued (a + b) l n (λ d. f d ++ g d)
then {g = g} p q = record {
  same = same_then p.same q.same;
  lined = lined_then p.lined (rw p.same.delims at q.lined);
  within = omega (arith, p.within, q.within);
}

-- lines by their texts
pub lines_as : {n : ℕ} {l m : Lines} {f g : Delims → List (List ℕ)} → Continued n l m f → f l.delims ≡ g l.delims → Continued n l m g
lines_as p e = record { same = p.same; lined = rw e at p.lined; within = p.within }
