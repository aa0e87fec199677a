-- An unread component altered, components put at the end: the segments differ in unread places alone. Assumes nothing.
use mathlib.Core.Path.{◌≡◌, refl, sym, ap, ◌∙◌}
use mathlib.Core.Bool.{Bool, true, false, not, false≢true}
use mathlib.Core.List.{List, [], ◌∷◌, ◌++◌, map, append-nil}
use Prim.Native.Nat.{ℕ, zero, suc, ◌+◌, ◌-◌, ◌<◌}
use native.Mathlib.Omega.{arith}
use borrow.Author.Tests.{eqb-true, ne_eqb}
use lib.Dec.{eqb}
use lib.ListN.{length, length-append}
use Rattle.rules.specs.declared.Delims.{Delims}
use Rattle.rules.specs.declared.Name.{Name}
use Rattle.rules.specs.declared.Name.TheVariants.{Msh, Other}
use Rattle.rules.specs.Lists.{all, any, has, split, all_but_last, front, later, before, since}
use Rattle.rules.specs.Shift.{keeps, met}
use Rattle.rules.specs.Frame.{name_of, is}
use Rattle.rules.specs.Places.{Place, Field, reads, closed, places, is_closed, components_read, unread_component}
use Rattle.rules.specs.View.{piece_of, field_of, first_repetition, component_of}
use Rattle.rules.proofs.Logic.{cases, never, not-true}
use Rattle.rules.proofs.Lists.{all_first, has-nil, nth-more, nth-at, nth-zero, nth-first}
use Rattle.rules.proofs.Split.{split-glue, split-added, pieces-length, split-three}
use Rattle.rules.proofs.Modes.{met-three}
use Rattle.rules.proofs.Names.{in_names, name-stays}
use Rattle.unread.specs.Edits.{numbered, unread_from}
use Rattle.unread.proofs.Segments.{as_known, Alike}
use Rattle.unread.proofs.Fields.{pieces-other, blank-from, fields-other}

-- ---- the table: components count from 1
unfoldable counted : Field → Bool
counted (reads n ps) = not (has 0 (map (λ (p : Place). p.component) ps))
counted (closed n k) = true

table : (n : Name) → all counted (places n) ≡ true
unfolding counted places all has any
table = in_names (λ n. all counted (places n) ≡ true) refl refl refl refl refl refl refl refl

no_zero : (f : ℕ) (fs : List Field) → all counted fs ≡ true → has 0 (components_read fs f) ≡ false
unfolding counted components_read
no_zero f [] h = has-nil 0
no_zero f (reads n ps ∷ fs) h =
    let a = all_first counted (reads n ps) fs h in
    cases (eqb n f) (λ e. rw e (not-true (has 0 (map (λ (p : Place). p.component) ps)) a.0)) (λ e. rw e (no_zero f fs a.1))
no_zero f (closed n k ∷ fs) h = no_zero f fs (all_first counted (closed n k) fs h).1

from_one : (n : Name) (f c : ℕ) → is_closed n f ≡ false → unread_component n f c ≡ false → 0 < c
unfolding unread_component
from_one n f zero o h = never (rw (o, no_zero f (places n) (table n)) at h)
from_one n f (suc c) o h = omega arith

-- ---- one field, altered after g and before r
-- in a later repetition: the first is the same
first-later : (d : Delims) (g v w r : List ℕ) → 0 < before d.repetition g → first_repetition d (g ++ (v ++ r)) ≡ first_repetition d (g ++ (w ++ r))
unfolding first_repetition before
first-later d g v w r h =
    rw (split-glue d.repetition g (v ++ r), split-glue d.repetition g (w ++ r))
    (nth-first (all_but_last (split d.repetition g)) _ _ _ _ h)

-- in the first
first-here : (d : Delims) (g v r : List ℕ) → before d.repetition g ≡ 0 → has d.repetition v ≡ false
    → first_repetition d (g ++ (v ++ r)) ≡ since d.repetition g ++ (v ++ front d.repetition r)
unfolding first_repetition before
first-here d g v r h hv =
    rw (split-three d.repetition g v r hv)
    (nth-zero (all_but_last (split d.repetition g)) (since d.repetition g ++ (v ++ front d.repetition r)) (later d.repetition r) h)

-- the field of the segment s v r in which v stands
field_at : (d : Delims) (s v r : List ℕ) → keeps 0x0D s ≡ true → keeps 0x0D v ≡ true → is (name_of s) Other ≡ false → has d.field (met v) ≡ false
    → field_of d (as_known (s ++ (v ++ r))) (numbered (name_of s) (before d.field (met s)))
    ≡ since d.field (met s) ++ (met v ++ front d.field (met r))
unfolding field_of as_known
field_at d s v r hs hv known fv =
    rw (name-stays s (v ++ r) known, met-three s v r hs hv, piece (name_of s) (before d.field (met s)), split-three d.field (met s) (met v) (met r) fv)
    (unfold before in nth-at (all_but_last (split d.field (met s))) (since d.field (met s) ++ (met v ++ front d.field (met r))) (later d.field (met r)))
  where
    piece : (n : Name) (k : ℕ) → piece_of n (numbered n k) ≡ k
    piece n k = unfold piece_of numbered in (cases (is n Msh) (λ t. rw t (omega arith)) (λ t. rw t))

-- not MSH-1: a field that isn't closed has a piece of its own
pub past-name : (n : Name) (k : ℕ) → is_closed n (numbered n k) ≡ false → is n Msh ≡ true → 0 < k
unfolding is_closed numbered
past-name n zero h t = absurd (false≢true (sym (rw t at h)))
past-name n (suc k) h t = omega arith

name-known : (s x : List ℕ) → is (name_of s) Other ≡ false → (as_known (s ++ x)).name ≡ name_of s
unfolding as_known
name-known s x i = name-stays s x i

-- ---- within a field that isn't closed
module _ (d : Delims) (s v w r : List ℕ) (hs : keeps 0x0D s ≡ true) (hv : keeps 0x0D v ≡ true) (hw : keeps 0x0D w ≡ true)
    (i : is (name_of s) Other ≡ false) (fv : has d.field (met v) ≡ false) (fw : has d.field (met w) ≡ false)
    (rv : has d.repetition (met v) ≡ false) (rw' : has d.repetition (met w) ≡ false)
    (o : is_closed (name_of s) (numbered (name_of s) (before d.field (met s))) ≡ false) where
  abbrev n : Name
  n = name_of s

  abbrev f : ℕ
  f = numbered (name_of s) (before d.field (met s))

  abbrev g : List ℕ
  g = since d.field (met s)

  abbrev rest : List ℕ
  rest = front d.field (met r)

  other-field : (h : ℕ) → eqb h f ≡ false → field_of d (as_known (s ++ (v ++ r))) h ≡ field_of d (as_known (s ++ (w ++ r))) h
  other-field h e = fields-other d s v w r hs hv hw i fv fw (past-name n (before d.field (met s)) o) h e

  as_many : length (split d.repetition (g ++ (met v ++ rest))) ≡ length (split d.repetition (g ++ (met w ++ rest)))
  as_many = rw (split-three d.repetition g (met v) rest rv, split-three d.repetition g (met w) rest rw', length-append, length-append)

  within-field : ((c : ℕ) → unread_component n f c ≡ false
      → component_of d (first_repetition d (g ++ (met v ++ rest))) c ≡ component_of d (first_repetition d (g ++ (met w ++ rest))) c)
      → Alike d (s ++ (v ++ r)) (s ++ (w ++ r))
  within-field e =
      let a = field_at d s v r hs hv i fv in
      let b = field_at d s w r hs hw i fw in
      let k = name-known s (v ++ r) i in
      record {
        name = k ∙ sym (name-known s (w ++ r) i);
        closed = λ h c.
            other-field h (ne_eqb h f (λ t. false≢true (sym o ∙ rw (← t) (rw k at c))));
        repeated = λ h c.
            cases (eqb h f)
            (λ t. rw (eqb-true h f t, a, b) as_many)
            (λ t. ap (λ (x : List ℕ). length (split d.repetition x)) (other-field h t));
        components = λ h c u.
            cases (eqb h f)
            (λ t. rw (eqb-true h f t, a, b) (e c (rw (eqb-true h f t, k) at u)))
            (λ t. ap (λ (x : List ℕ). component_of d (first_repetition d x) c) (other-field h t));
      }

  -- in a repetition after the first
  pub later-altered : 0 < before d.repetition g → Alike d (s ++ (v ++ r)) (s ++ (w ++ r))
  later-altered b = within-field (λ c u. rw (first-later d g (met v) (met w) rest b))

  -- in the first
  module _ (b : before d.repetition g ≡ 0) where
    abbrev h : List ℕ
    h = since d.repetition g

    pub component-altered : has d.component (met v) ≡ false → has d.component (met w) ≡ false
        → unread_component n f (suc (before d.component h)) ≡ true → Alike d (s ++ (v ++ r)) (s ++ (w ++ r))
    component-altered cv cw u =
        within-field (λ c k. unfold component_of in
        (rw (first-here d g (met v) rest b rv, first-here d g (met w) rest b rw')
        (pieces-other d.component h (met v) (met w) (front d.repetition rest) (c - 1) cv cw (apart c k))))
      where
        apart : (c : ℕ) → unread_component n f c ≡ false → c - 1 ≡ before d.component h → ⊥
        apart c k e =
            let z = from_one n f c o k in
            let q : c ≡ suc (before d.component h) = omega arith in
            false≢true (sym k ∙ rw q u)

    -- components put at the end, each unread by a test that holds of no component that is read
    module _ (un : ℕ → Bool) (xu : (c : ℕ) → un c ≡ unread_component n f c) (q : front d.repetition rest ≡ []) where
      abbrev Added : List ℕ → Type 0
      Added v = (front d.component (met v) ≡ []) × (unread_from un (suc (suc (before d.component h))) (later d.component (met v)) ≡ true)

      component-stays : (v : List ℕ) → Added v → (c : ℕ) → unread_component n f c ≡ false → component_of d (h ++ met v) c ≡ component_of d h c
      unfolding component_of
      component-stays v a c u =
          rw (split-added d.component h (met v) a.0)
          (nth-more (split d.component h) (later d.component (met v)) (c - 1)
          (λ j e.
          let k = before d.component h in
          let y : c - 1 ≡ suc k + j = unfold before in (e ∙ ap (λ (t : ℕ). t + j) (pieces-length d.component h)) in
          let z = from_one n f c o u in
          let t : suc (suc k) + j ≡ c = omega arith in
          blank-from un (suc (suc k)) (later d.component (met v)) j a.1 (rw t (xu c ∙ u))))

      pub components-put : Added v → Added w → Alike d (s ++ (v ++ r)) (s ++ (w ++ r))
      components-put a e =
          within-field (λ c u.
          rw (first-here d g (met v) rest b rv, first-here d g (met w) rest b rw', q, append-nil (met v), append-nil (met w))
          (component-stays v a c u ∙ sym (component-stays w e c u)))
