-- The laws of the walk through a segment. Assumes nothing.
use Prim.Native.Nat.{ℕ, zero, suc, ◌-◌, ◌≤◌}
use native.Mathlib.Omega.{arith}
use mathlib.Core.Path.{◌≡◌, refl, sym, ap, ◌∙◌}
use mathlib.Core.List.{List, [], ◌∷◌}
use mathlib.Core.Bool.{Bool, false, ◌||◌}
use borrow.Author.Tests.{eqb-true}
use lib.Dec.{eqb}
use lib.ListN.{length, take, drop}
use Rattle.rules.specs.declared.Delims.{Delims}
use Rattle.rules.specs.declared.Mode.TheVariants.{One}
use Rattle.rules.specs.Shift.{marks, met}
use Rattle.rules.specs.Proper.{Proper}
use Rattle.rules.proofs.Logic.{cases, neither}
use Rattle.rules.proofs.Lists.{part_length, rest-is}
use Rattle.rules.proofs.Modes.{length-met}
use Rattle.rules.proofs.Header.{delim-small}
use Rattle.plain_bytes.specs.Bytes.{until, is_byte}
use Rattle.scan.specs.Scan.{ends, after_sep, onward, next_from, next, CutOf}
use Rattle.scan.proofs.Laws.{Far, far-is, ends-far, from-met, piece-met}
use Rattle.components.proofs.Pieces.{onward-within}
use Rattle.components.proofs.Laws.{head-met, next-within}
use Rattle.sources.specs.Sources.{Leads}

-- ---- walking
pub field-within : (sep n : ℕ) (t r : List ℕ) → met r ≡ onward sep n (met t) → length r ≤ length t
field-within sep n t r e = omega (arith, length-met r, length-met t, ap length e, onward-within sep n (met t))

pub component-within : (t : List ℕ) (n : ℕ) → n ≤ length t → length (take n t) ≤ length t
component-within t n h = omega (arith, part_length n t h)

-- the piece before the next separator
pub piece_is : (t : List ℕ) (n sep : ℕ) → n ≡ length (until (is_byte sep) (marks 0x0D One t)) → met (take n t) ≡ until (is_byte sep) (met t)
unfolding met
piece_is t n sep e = ap (λ k. met (take k t)) e ∙ piece-met (is_byte sep) t

pub piece-long : (p : ℕ → Bool) (t a : List ℕ) → met a ≡ until p (met t) → length a ≡ length (until p (met t))
piece-long p t a e = sym (length-met a) ∙ ap length e

until-within : (p : ℕ → Bool) (m : List ℕ) → length (until p m) ≤ length m
unfolding until
until-within p [] = omega arith
until-within p (x ∷ m) = cases (p x) (λ e. rw (e, length) (omega arith)) (λ e. rw (e, length) (omega (arith, until-within p m)))

pub component-long : (d : Delims) (t a : List ℕ) → met a ≡ until (ends d) (met t) → (length a ≡ length (until (ends d) (met t))) × (length a ≤ length t)
component-long d t a e =
    let l : length a ≡ length (until (ends d) (met t)) = piece-long (ends d) t a e in
    (l, omega (arith, l, until-within (ends d) (met t), length-met t))

-- ---- from behind a component, or a field, the next field is the same
after-until : (sep : ℕ) (p : ℕ → Bool) → ((b : ℕ) → p b ≡ false → eqb b sep ≡ false) → (m : List ℕ) → after_sep sep (drop (length (until p m)) m) ≡ after_sep sep m
unfolding until after_sep
after-until sep p w [] = refl
after-until sep p w (x ∷ m) = cases (p x) (λ e. cc) (λ e. cc (w x e, after-until sep p w m))

leads : (d : Delims) (p : ℕ → Bool) → Far p → ((b : ℕ) → p b ≡ false → eqb b d.field ≡ false) → (t a : List ℕ) → met a ≡ until p (met t) → length a ≤ length t → Leads d (length a) t
leads d p far w t a e h =
    record { inside = h; on = ap (λ n. after_sep d.field (met (drop n t))) (piece-long p t a e) ∙ ap (after_sep d.field) (sym (from-met p far t)) ∙ after-until d.field p w (met t) }

ends-field : (d : Delims) (b : ℕ) → ends d b ≡ false → eqb b d.field ≡ false
unfolding ends
ends-field d b e = (neither (eqb b d.field) (eqb b d.repetition) (neither (eqb b d.field || eqb b d.repetition) (eqb b d.component) e).0).0

pub component-leads : (d : Delims) (t : List ℕ) (n : ℕ) (clean : Bool) → Proper d → CutOf d t n clean → n ≤ length t → Leads d (length (take n t)) t
component-leads d t n clean q c h = leads d (ends d) (ends-far d q) (ends-field d) t (take n t) (head-met d t n clean c) (component-within t n h)

pub field-leads : (d : Delims) (t f : List ℕ) → Proper d → met f ≡ until (is_byte d.field) (met t) → length f ≤ length t → Leads d (length f) t
field-leads d t f q = leads d (is_byte d.field) (far-is d.field (delim-small d.field q.field)) (λ b e. e) t f

-- later fields are, where the next is
onward-from : (sep k : ℕ) (m l : List ℕ) → 1 ≤ k → after_sep sep m ≡ after_sep sep l → onward sep k m ≡ onward sep k l
unfolding onward
onward-from sep zero m l h e = absurd (omega arith)
onward-from sep (suc k) m l h e = ap (onward sep k) e

module _ (d : Delims) (t r : List ℕ) (n k : ℕ) (l : Leads d n t) (h : 1 ≤ k) (e : met r ≡ onward d.field k (met (take (length t - n) (drop n t)))) where
  pub behind-is : met r ≡ onward d.field k (met t)
  behind-is = e ∙ ap (λ m. onward d.field k (met m)) (rest-is t n) ∙ onward-from d.field k (met (drop n t)) (met t) h l.on

  pub behind-within : length r ≤ length t
  behind-within = field-within d.field k t r behind-is

-- from the next component on, too
after-from : (d : Delims) → Proper d → (m : List ℕ) → after_sep d.field (next_from d m) ≡ after_sep d.field m
unfolding after_sep next_from
after-from d q [] = refl
after-from d q (x ∷ m) =
    cases (eqb x d.component)
    (λ e. let f : eqb x d.field ≡ false = rw (eqb-true x d.component e) q.component-field in cc)
    (λ e. cc)

pub next-onward : (d : Delims) → Proper d → (k : ℕ) (m : List ℕ) → 1 ≤ k → onward d.field k (next d m) ≡ onward d.field k m
unfolding next
next-onward d q k m h =
    onward-from d.field k (next d m) m h (after-from d q (drop (length (until (ends d) m)) m) ∙ after-until d.field (ends d) (ends-field d) m)

-- what the check of a walk cites
pub ruleset walking = (part_length, field-within, component-within, piece_is, head-met, component-leads, behind-is, behind-within, next-within)
