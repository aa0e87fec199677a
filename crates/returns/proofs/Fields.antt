-- Components, fields and segments as they are written, and what is seen of them. Assumes nothing.
use mathlib.Core.Path.{◌≡◌, refl, ◌∙◌}
use mathlib.Core.Bool.{Bool, true, false}
use mathlib.Core.List.{List, [], ◌∷◌, ◌++◌, map}
use mathlib.Core.Option.{some}
use Prim.Native.Nat.{ℕ, zero, suc, ◌-◌}
use lib.Dec.{eqb}
use Rattle.rules.specs.declared.Delims.{Delims}
use Rattle.rules.specs.declared.Name.{Name}
use Rattle.rules.specs.Lists.{bytes, empty, or_empty, same, has, all, split, join, nth}
use Rattle.rules.specs.Shift.{met}
use Rattle.rules.specs.Proper.{Delim, Proper}
use Rattle.rules.specs.Escape.{unescape, escape}
use Rattle.rules.specs.Value.{Rule, fault}
use Rattle.rules.specs.View.{piece_of, field_of, component_of, first_repetition}
use Rattle.rules.specs.Judge.{plain_of, fault_or23, judge}
use Rattle.rules.specs.Message.{composed, blanks}
use Rattle.rules.proofs.Lists.{has_there}
use Rattle.rules.proofs.Split.{frees, split-none, split-join, has_join}
use Rattle.rules.proofs.Header.{delim-one}
use Rattle.rules.proofs.Clean.{Clean, Cleans, clean-cons, clean-join, met-cons, met-join, nth-met}
use Rattle.rules.proofs.Escaped.{Separator, by_field, by-component, by-repetition, plain_byte, word, escaped-clean, escaped-back, escaped-free, escaped-empty, escaped-null}

-- ---- a component as it is written, and what it says
pub record Comp (d : Delims) (c v : List ℕ) : Type 0 where
  pub clean : Clean c
  pub free : (x : ℕ) → Separator d x → has x (met c) ≡ false
  pub back : unescape d (met c) ≡ some v
  pub blank : empty (met c) ≡ empty v
  pub null : same v (bytes "\"\"") ≡ false → same (met c) (bytes "\"\"") ≡ false

pub data Comps (d : Delims) : List (List ℕ) → List (List ℕ) → Type 0 where
  end : Comps d [] []
  also : {c v : List ℕ} {cs vs : List (List ℕ)} → Comp d c v → Comps d cs vs → Comps d (c ∷ cs) (v ∷ vs)

-- a field's text: it keeps the shift rule and holds no field separator
pub record Ok (d : Delims) (f : List ℕ) : Type 0 where
  pub clean : Clean f
  pub free : has d.field (met f) ≡ false

pub data Oks (d : Delims) : List (List ℕ) → Type 0 where
  last : Oks d []
  next : {f : List ℕ} {fs : List (List ℕ)} → Ok d f → Oks d fs → Oks d (f ∷ fs)

-- a field of some components: none repeats, and it is cut into them
pub record FieldIs (d : Delims) (f : List ℕ) (cs vs : List (List ℕ)) : Type 0 where
  pub ok : Ok d f
  pub once : has d.repetition (met f) ≡ false
  pub says : Comps d cs vs
  pub cut : split d.component (met f) ≡ map met cs

module _ (d : Delims) (p : Proper d) where
  pub escaped : (v : List ℕ) → Clean v → Comp d (escape d v) v
  escaped v h =
      record {
        clean = escaped-clean d p v h;
        free = escaped-free d p v h;
        back = escaped-back d p v h;
        blank = escaped-empty d p v h;
        null = escaped-null d p v h;
      }

  pub plain : (w : List ℕ) → all plain_byte w ≡ true → Comp d w w
  plain w h = let q = word d p w h in rw q.0 at (escaped w q.1)

  pub nothing : Comp d [] []
  nothing = plain [] (unfold all in refl)

  comps-clean : {cs vs : List (List ℕ)} → Comps d cs vs → Cleans cs
  comps-clean end = tt
  comps-clean (also x y) = (x.clean, comps-clean y)

  comps-free : (s : ℕ) → Separator d s → {cs vs : List (List ℕ)} → Comps d cs vs → frees s (map met cs) ≡ true
  unfolding frees
  comps-free s z end = refl
  comps-free s z (also x y) = cc (x.free s z, comps-free s z y)

  pub comp-ok : {c v : List ℕ} → Comp d c v → Ok d c
  comp-ok x = record { clean = x.clean; free = x.free d.field (by_field d p) }

  -- a field of one component, of several
  pub single : {c v : List ℕ} → Comp d c v → FieldIs d c (c ∷ []) (v ∷ [])
  single {c} x =
      record {
        ok = comp-ok x;
        once = x.free d.repetition (by-repetition d p);
        says = also x end;
        cut = split-none d.component (met c) (x.free d.component (by-component d p));
      }

  pub several : {c v : List ℕ} {cs vs : List (List ℕ)} → Comp d c v → Comps d cs vs → FieldIs d (composed d (c ∷ cs)) (c ∷ cs) (v ∷ vs)
  unfolding composed
  several {c} {v} {cs} {vs} x y =
      let z = also x y in
      let o = delim-one d.component p.component in
      let m = met-join d.component o (c ∷ cs) (comps-clean z) in
      record {
        ok = record {
          clean = clean-join d.component o (c ∷ cs) (comps-clean z);
          free = rw m (has_join d.field d.component p.component-field (map met (c ∷ cs)) (comps-free d.field (by_field d p) z));
        };
        once = rw m (has_join d.repetition d.component p.component-repetition (map met (c ∷ cs)) (comps-free d.repetition (by-repetition d p) z));
        says = z;
        cut = rw m (split-join d.component (met c) (map met cs) (comps-free d.component (by-component d p) z));
      }

  comp-nth : {cs vs : List (List ℕ)} → Comps d cs vs → (i : ℕ) → Comp d (nth cs i) (nth vs i)
  comp-nth end i = nothing
  comp-nth (also x y) zero = x
  comp-nth (also x y) (suc i) = comp-nth y i

  -- ---- what is seen of a component of a field
  module _ (f : List ℕ) (cs vs : List (List ℕ)) (x : FieldIs d f cs vs) where
    first-whole : first_repetition d (met f) ≡ met f
    unfolding first_repetition
    first-whole = rw (split-none d.repetition (met f) x.once)

    pub component-is : (c : ℕ) → component_of d (met f) c ≡ met (nth cs (c - 1))
    unfolding component_of
    component-is c = rw x.cut (nth-met cs (c - 1))

    pub value_in : (c : ℕ) → plain_of d (component_of d (met f) c) ≡ nth vs (c - 1)
    unfolding or_empty
    value_in c = rw (component-is c, (comp-nth x.says (c - 1)).back)

    pub judge-in : (q : Bool) (r : Rule) (c : ℕ) → same (nth vs (c - 1)) (bytes "\"\"") ≡ false → judge d q r (component_of d (met f) c) ≡ fault q r (nth vs (c - 1))
    unfolding judge fault_or23
    judge-in q r c n =
        let z = comp-nth x.says (c - 1) in
        rw (component-is c, z.null n, z.back)

    -- in its first repetition, as the check looks
    pub value-at : (c : ℕ) → plain_of d (component_of d (first_repetition d (met f)) c) ≡ nth vs (c - 1)
    value-at c = rw first-whole (value_in c)

    pub judge-at : (q : Bool) (r : Rule) (c : ℕ) → same (nth vs (c - 1)) (bytes "\"\"") ≡ false
        → judge d q r (component_of d (first_repetition d (met f)) c) ≡ fault q r (nth vs (c - 1))
    judge-at q r c n = rw first-whole (judge-in q r c n)

  -- ---- a segment of some fields
  oks-clean : {fs : List (List ℕ)} → Oks d fs → Cleans fs
  oks-clean last = tt
  oks-clean (next x y) = (x.clean, oks-clean y)

  oks-free : {fs : List (List ℕ)} → Oks d fs → frees d.field (map met fs) ≡ true
  unfolding frees
  oks-free last = refl
  oks-free (next x y) = cc (x.free, oks-free y)

  pub segment-clean : {fs : List (List ℕ)} → Oks d fs → Clean (join d.field fs)
  segment-clean {fs} x = clean-join d.field (delim-one d.field p.field) fs (oks-clean x)

  segment-cut : {f : List ℕ} {fs : List (List ℕ)} → Oks d (f ∷ fs) → split d.field (met (join d.field (f ∷ fs))) ≡ map met (f ∷ fs)
  segment-cut {f} {fs} x =
      rw (met-join d.field (delim-one d.field p.field) (f ∷ fs) (oks-clean x)) (split-join d.field (met f) (map met fs) (oks-free x))

  pub field_at : {f : List ℕ} {fs : List (List ℕ)} → Oks d (f ∷ fs) → (n : Name) (at i : ℕ)
      → field_of d (record { name = n; start = at; body = met (join d.field (f ∷ fs)) }) i ≡ nth (map met (f ∷ fs)) (piece_of n i)
  unfolding field_of
  field_at x n at i = rw (segment-cut x)

  pub oks-blanks : (n : ℕ) {fs : List (List ℕ)} → Oks d fs → Oks d (blanks n ++ fs)
  unfolding blanks
  oks-blanks zero x = x
  oks-blanks (suc n) x = next (comp-ok nothing) (oks-blanks n x)

  -- a delimiter other than the field separator before a field's text
  pub ok-cons : (x : ℕ) (f : List ℕ) → Delim x → eqb x d.field ≡ false → Ok d f → Ok d (x ∷ f) × (met (x ∷ f) ≡ x ∷ met f)
  ok-cons x f i n o =
      let e = met-cons x (delim-one x i) f in
      (record { clean = clean-cons x (delim-one x i) f o.clean; free = rw e (has_there d.field x (met f) n ∙ o.free) }, e)
