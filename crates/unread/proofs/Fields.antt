-- An unread field altered, fields put at the end: the segments differ in unread places alone. Assumes nothing.
use mathlib.Core.Path.{◌≡◌, refl, sym, ap, ◌∙◌}
use mathlib.Core.Bool.{Bool, true, false, ◌||◌, false≢true}
use mathlib.Core.List.{List, [], ◌∷◌, ◌++◌}
use Prim.Native.Nat.{ℕ, zero, suc, ◌+◌, ◌<◌}
use native.Mathlib.Omega.{arith}
use borrow.Author.Tests.{eqb-false, ne_eqb}
use lib.Dec.{eqb}
use lib.ListN.{length}
use Rattle.rules.specs.declared.Delims.{Delims}
use Rattle.rules.specs.declared.Name.{Name}
use Rattle.rules.specs.declared.Name.TheVariants.{Msh, Other}
use Rattle.rules.specs.Lists.{empty, nth, any, has, split, all_but_last, front, later, before, since}
use Rattle.rules.specs.Shift.{keeps, met}
use Rattle.rules.specs.Frame.{name_of, is, Known}
use Rattle.rules.specs.Places.{Field, reads, closed, field_no, places, is_closed, unread_field, components_read, unread_component}
use Rattle.rules.specs.View.{piece_of, field_of, first_repetition, component_of}
use Rattle.rules.proofs.Logic.{cases, both, never, not-false}
use Rattle.rules.proofs.Lists.{empty-is, any-cons, has-nil, nth-other, nth-more}
use Rattle.rules.proofs.Split.{split-added, pieces-length, split-three}
use Rattle.rules.proofs.Modes.{met-append, met-three}
use Rattle.rules.proofs.Names.{name-stays}
use Rattle.unread.specs.Differs.{SegmentDiffers}
use Rattle.unread.specs.Edits.{numbered, unread_from}
use Rattle.unread.proofs.Segments.{as_known, Alike}

-- ---- the table: a field that is closed, or of which a component is read, is read
closed-read : (n : Name) (f : ℕ) → is_closed n f ≡ true → unread_field n f ≡ false
unfolding unread_field
closed-read n f h = rw h

listed : (f c : ℕ) (fs : List Field) → has c (components_read fs f) ≡ true → any (λ (x : Field). eqb (field_no x) f) fs ≡ true
unfolding components_read
listed f c [] h = never (sym h ∙ has-nil c)
listed f c (reads n ps ∷ fs) h =
    any-cons (λ (x : Field). eqb (field_no x) f) (reads n ps) fs
    ∙ cases (eqb n f) (λ e. rw e) (λ e. rw e (listed f c fs (rw e at h)))
listed f c (closed n k ∷ fs) h =
    any-cons (λ (x : Field). eqb (field_no x) f) (closed n k) fs
    ∙ cases (eqb n f) (λ e. rw e) (λ e. rw e (listed f c fs h))

component-read : (n : Name) (f c : ℕ) → unread_component n f c ≡ false → unread_field n f ≡ false
unfolding unread_component
component-read n f c h =
    cases (is_closed n f)
    (λ e. closed-read n f e)
    (λ e. let o = listed f c (places n) (not-false (has c (components_read (places n) f)) (rw e at h)) in unfold unread_field in (rw (e, o)))

-- ---- two segments whose read fields are equal
from_fields : (d : Delims) (k l : Known) → k.name ≡ l.name → ((g : ℕ) → unread_field k.name g ≡ false → field_of d k g ≡ field_of d l g) → SegmentDiffers d k l
from_fields d k l n e =
    record {
      name = n;
      closed = λ f h. e f (closed-read k.name f h);
      repeated = λ f h. ap (λ (t : List ℕ). length (split d.repetition t)) (e f h);
      components = λ f c h. ap (λ (t : List ℕ). component_of d (first_repetition d t) c) (e f (component-read k.name f c h));
    }

-- ---- an unread field altered
-- every piece but the one in which v and w stand is the same
pub pieces-other : (sep : ℕ) (a v w r : List ℕ) (j : ℕ) → has sep v ≡ false → has sep w ≡ false → (j ≡ before sep a → ⊥)
    → nth (split sep (a ++ (v ++ r))) j ≡ nth (split sep (a ++ (w ++ r))) j
unfolding before
pieces-other sep a v w r j hv hw n =
    rw (split-three sep a v r hv, split-three sep a w r hw)
    (nth-other (all_but_last (split sep a)) (since sep a ++ (v ++ front sep r)) (since sep a ++ (w ++ front sep r)) (later sep r) j n)

-- the field's number and its piece
piece-other : (n : Name) (g k : ℕ) → (is n Msh ≡ true → 0 < k) → eqb g (numbered n k) ≡ false → piece_of n g ≡ k → ⊥
unfolding numbered piece_of
piece-other n g k h e p =
    cases (is n Msh)
    (λ t. let a = rw t at e in let b = rw t at p in absurd (eqb-false g (suc k) a (omega (arith, h t))))
    (λ t. let a = rw t at e in let b = rw t at p in absurd (eqb-false g k a b))

module _ (d : Delims) (s v w r : List ℕ) (hs : keeps 0x0D s ≡ true) (hv : keeps 0x0D v ≡ true) (hw : keeps 0x0D w ≡ true)
    (i : is (name_of s) Other ≡ false) (fv : has d.field (met v) ≡ false) (fw : has d.field (met w) ≡ false)
    (p : is (name_of s) Msh ≡ true → 0 < before d.field (met s)) where
  abbrev f : ℕ
  f = numbered (name_of s) (before d.field (met s))

  pub fields-other : (g : ℕ) → eqb g f ≡ false → field_of d (as_known (s ++ (v ++ r))) g ≡ field_of d (as_known (s ++ (w ++ r))) g
  unfolding field_of as_known
  fields-other g e =
      rw (name-stays s (v ++ r) i, name-stays s (w ++ r) i, met-three s v r hs hv, met-three s w r hs hw)
      (pieces-other d.field (met s) (met v) (met w) (met r) (piece_of (name_of s) g) fv fw (piece-other (name_of s) g (before d.field (met s)) p e))

  pub field-altered : unread_field (name_of s) f ≡ true → Alike d (s ++ (v ++ r)) (s ++ (w ++ r))
  unfolding as_known
  field-altered u =
      from_fields d (as_known (s ++ (v ++ r))) (as_known (s ++ (w ++ r))) (name-stays s (v ++ r) i ∙ sym (name-stays s (w ++ r) i))
      (λ g h. fields-other g (apart g (rw (name-stays s (v ++ r) i) at h)))
    where
      apart : (g : ℕ) → unread_field (name_of s) g ≡ false → eqb g f ≡ false
      apart g a = ne_eqb g f (λ e. false≢true (sym a ∙ rw e u))

-- ---- fields put at the end
pub blank-from : (un : ℕ → Bool) (f : ℕ) (xs : List (List ℕ)) (i : ℕ) → unread_from un f xs ≡ true → un (f + i) ≡ false → nth xs i ≡ []
blank-from un f [] i h u = refl
blank-from un f (x ∷ xs) zero h u =
    let a = both (un f || empty x) (unread_from un (suc f) xs) (unfold unread_from in h) in
    let z : f + 0 ≡ f = omega arith in
    empty-is x (rw (rw z at u) at a.0)
blank-from un f (x ∷ xs) (suc i) h u =
    let a = both (un f || empty x) (unread_from un (suc f) xs) (unfold unread_from in h) in
    let z : f + suc i ≡ suc f + i = omega arith in
    blank-from un (suc f) xs i a.1 (rw z at u)

number_of : (n : Name) (g k i : ℕ) → piece_of n g ≡ suc k + i → suc (numbered n k) + i ≡ g
unfolding piece_of numbered
number_of n g k i e =
    cases (is n Msh)
    (λ t. let a = rw t at e in rw t (omega arith))
    (λ t. let a = rw t at e in rw t (omega arith))

-- fields v, each after its separator, that may be put after s
pub record NewFields (d : Delims) (s v : List ℕ) : Type 0 where
  pub leads : front d.field (met v) ≡ []
  pub unreads : unread_from (unread_field (name_of s)) (suc (numbered (name_of s) (before d.field (met s)))) (later d.field (met v)) ≡ true

module _ (d : Delims) (s : List ℕ) (hs : keeps 0x0D s ≡ true) (i : is (name_of s) Other ≡ false) where
  field-stays : (v : List ℕ) → NewFields d s v → (g : ℕ) → unread_field (name_of s) g ≡ false → field_of d (as_known (s ++ v)) g ≡ field_of d (as_known s) g
  unfolding field_of as_known
  field-stays v a g e =
      rw (name-stays s v i, met-append s v hs, split-added d.field (met s) (met v) a.leads)
      (nth-more (split d.field (met s)) (later d.field (met v)) (piece_of (name_of s) g)
      (λ j q. let k = before d.field (met s) in
      let z : piece_of (name_of s) g ≡ suc k + j = unfold before in (q ∙ ap (λ (t : ℕ). t + j) (pieces-length d.field (met s))) in
      blank-from (unread_field (name_of s)) (suc (numbered (name_of s) k)) (later d.field (met v)) j a.unreads (rw (number_of (name_of s) g k j z) e)))

  pub fields-put : (v w : List ℕ) → NewFields d s v → NewFields d s w → Alike d (s ++ v) (s ++ w)
  unfolding as_known
  fields-put v w a b =
      from_fields d (as_known (s ++ v)) (as_known (s ++ w)) (name-stays s v i ∙ sym (name-stays s w i))
      (λ g h. let e = rw (name-stays s v i) at h in field-stays v a g e ∙ sym (field-stays w b g e))
