-- Laws of a read field, and of the way from one to the next. Assumes nothing.
use Prim.Native.Nat.{ℕ, zero, suc, ◌+◌, ◌-◌, ◌≤◌, ◌<◌}
use native.Mathlib.Omega.{arith}
use mathlib.Core.Path.{◌≡◌, refl, sym, ap, ◌∙◌}
use mathlib.Core.List.{List, [], ◌∷◌, map}
use mathlib.Core.Bool.{Bool, true, false, not, ◌&&◌}
use lib.ListN.{length, take, drop}
use lib.Seq.{drop-drop}
use Rattle.rules.specs.declared.Delims.{Delims}
use Rattle.std.specs.declared.result.Result.{Result}
use Rattle.rules.specs.declared.Kind.{Kind}
use Rattle.rules.specs.declared.Kind.TheVariants.{Repeated}
use Rattle.std.specs.declared.result.Result.TheVariants.{Ok, Err}
use Rattle.std.specs.Result.{IsErrAnd}
use Rattle.std.proofs.lemmas.Result.{err_from_is_err_and}
use Rattle.rules.specs.Told.{◌then◌, ◌when◌, number}
use Rattle.rules.specs.Shift.{met, byte_of}
use Rattle.rules.specs.Proper.{Proper}
use Rattle.rules.specs.Judge.{judge, judge_all, names_fault}
use Rattle.rules.specs.View.{component_of, first_repetition, seen_in}
use Rattle.rules.proofs.Lists.{rest-is, rest-length}
use Rattle.rules.proofs.Header.{delim-small}
use Rattle.plain_bytes.specs.Bytes.{until, is_byte}
use Rattle.scan.specs.Scan.{ends, after_sep, next, onward}
use Rattle.scan.proofs.Laws.{from-met, far-is, after-field, onward-add}
use Rattle.value.specs.Rules.{rule_of, fault_no}
use Rattle.value.specs.declared.Place.{Place}
use Rattle.value.specs.declared.Place.TheVariants.{Unread, Must, May}
use Rattle.components.specs.Components.{forward, place_fault, Smalls, components_fault, ComponentsOf}
use Rattle.components.proofs.Pieces.{piece-at, repetition-is, component-at, forward-next}
use Rattle.closed.specs.Closed.{charset_fault, ClosedOf}
use Rattle.fields.specs.declared.Form.{Form}
use Rattle.fields.specs.declared.Form.TheVariants.{One, Three, Charset, Names}
use Rattle.fields.specs.declared.Walk.{Walk}
use Rattle.fields.specs.declared.FieldFault.{FieldFault}
use Rattle.fields.specs.Fields.{entries_from, entries_fault, form_fault, form_head, SmallForm, ReadOf, ahead, Passed, Broken}

-- ---- what is broken
pub repeated-yes : (q : Bool) (f : ℕ) → q ≡ true → number Repeated ≡ (22 when q then f)
repeated-yes q f h = rw h

pub repeated-no : (q : Bool) (f g : ℕ) → q ≡ false → g ≡ f → g ≡ (22 when q then f)
repeated-no q f g h e = rw h e

-- as `?` hands it on
pub handed-on : {A B : Type 0} (a : Result A Kind) (k : Kind) (r : Result B Kind) → a ≡ Err k → IsErrAnd r (λ e. e ≡ k) → fault_no r ≡ fault_no a
unfolding fault_no
handed-on a k r e h = let p = err_from_is_err_and r h in rw (p.1, p.2, e)

pub broken-is : {A : Type 0} (a : Result A Kind) (k : Kind) → a ≡ Err k → number k ≡ fault_no a
unfolding fault_no
broken-is a k e = rw e

pub nothing-broken : {A : Type 0} (a : Result A Kind) (x : A) → a ≡ Ok x → 0 ≡ fault_no a
unfolding fault_no
nothing-broken a x e = rw e

-- ---- the components of a field as the table lists them
pub component-is : (d : Delims) → Proper d → (n : ℕ) (m : List ℕ)
    → component_of d (first_repetition d (until (is_byte d.field) m)) (suc n) ≡ until (ends d) (forward d n m)
unfolding component_of first_repetition onward
component-is d p n m =
    let z : suc n - 1 ≡ n = omega arith in
    rw (z, piece-at d.repetition 0 (until (is_byte d.field) m), repetition-is d m) (component-at d p n m)

entries-are : (d : Delims) → Proper d → (m : List ℕ) (k : ℕ) (ps : List Place)
    → components_fault d ps (forward d k m) ≡ judge_all d (map (seen_in d (first_repetition d (until (is_byte d.field) m))) (entries_from (suc k) ps))
unfolding components_fault entries_from judge_all seen_in place_fault
entries-are d p m k [] = refl
entries-are d p m k (q ∷ ps) =
    let e = ap (components_fault d ps) (sym (forward-next d k m)) ∙ entries-are d p m (suc k) ps in
    placed q e
  where
    placed : (q : Place) → components_fault d ps (next d (forward d k m)) ≡ judge_all d (map (seen_in d (first_repetition d (until (is_byte d.field) m))) (entries_from (suc (suc k)) ps))
        → components_fault d (q ∷ ps) (forward d k m) ≡ judge_all d (map (seen_in d (first_repetition d (until (is_byte d.field) m))) (entries_from (suc k) (q ∷ ps)))
    placed Unread e = e
    placed (Must r) e = rw (component-is d p k m) (ap (λ n. judge d true (rule_of r) (until (ends d) (forward d k m)) then n) e)
    placed (May r) e = rw (component-is d p k m) (ap (λ n. judge d false (rule_of r) (until (ends d) (forward d k m)) then n) e)

divided-told : (d : Delims) → Proper d → (ps : List Place) (t : List ℕ) (more : Bool) (f g h l : ℕ) → ComponentsOf d ps t more f h l → g ≡ (22 when more then f)
    → g ≡ entries_fault d (entries_from 1 ps) (until (is_byte d.field) (met t))
unfolding entries_fault forward
divided-told d p ps t more f g h l c e = e ∙ cc (c.more, c.told, entries-are d p (met t) 0 ps)

module _ (d : Delims) (p : Proper d) (form : Form) (t : List ℕ) (more : Bool) (f g h l : ℕ) where
  pub told_one : (a : Place) → form ≡ One a → ComponentsOf d (a ∷ []) t more f h l → g ≡ (22 when more then f) → g ≡ form_fault d form (until (is_byte d.field) (met t))
  unfolding form_fault
  told_one a q c e = rw q (divided-told d p (a ∷ []) t more f g h l c e)

  pub told-three : (x y z : Place) → form ≡ Three x y z → ComponentsOf d (x ∷ y ∷ z ∷ []) t more f h l → g ≡ (22 when more then f) → g ≡ form_fault d form (until (is_byte d.field) (met t))
  unfolding form_fault
  told-three x y z q c e = rw q (divided-told d p (x ∷ y ∷ z ∷ []) t more f g h l c e)

module _ (d : Delims) (form : Form) (t : List ℕ) (f g l : ℕ) (e : g ≡ f) where
  pub told-charset : form ≡ Charset → ClosedOf (charset_fault d) (until (is_byte d.field) (met t)) f l → g ≡ form_fault d form (until (is_byte d.field) (met t))
  unfolding form_fault
  told-charset q c = rw q (e ∙ c.told)

  pub told_names : form ≡ Names → ClosedOf (names_fault d) (until (is_byte d.field) (met t)) f l → g ≡ form_fault d form (until (is_byte d.field) (met t))
  unfolding form_fault
  told_names q c = rw q (e ∙ c.told)

-- how far it is read
module _ (d : Delims) (form : Form) (t : List ℕ) (more : Bool) (f h k l j : ℕ) (e : (k ≡ h) × (j ≡ l)) where
  pub read_one : (a : Place) → form ≡ One a → ComponentsOf d (a ∷ []) t more f h l → ReadOf d (form_head d form) t k j
  unfolding form_head
  read_one a q c = rw (q, e.0, e.1) (record { raw = c.raw; long = c.long })

  pub read-three : (x y z : Place) → form ≡ Three x y z → ComponentsOf d (x ∷ y ∷ z ∷ []) t more f h l → ReadOf d (form_head d form) t k j
  unfolding form_head
  read-three x y z q c = rw (q, e.0, e.1) (record { raw = c.raw; long = c.long })

module _ (d : Delims) (form : Form) (t : List ℕ) (f h k l : ℕ) (e : (h ≡ 0) × (k ≡ l)) where
  pub read-charset : form ≡ Charset → ClosedOf (charset_fault d) (until (is_byte d.field) (met t)) f l → ReadOf d (form_head d form) t h k
  unfolding form_head
  read-charset q c = rw (q, e.0, e.1) (record { raw = refl; long = c.long })

  pub read_names : form ≡ Names → ClosedOf (names_fault d) (until (is_byte d.field) (met t)) f l → ReadOf d (form_head d form) t h k
  unfolding form_head
  read_names q c = rw (q, e.0, e.1) (record { raw = refl; long = c.long })

pub small_one : (form : Form) (a : Place) → form ≡ One a → SmallForm form → Smalls a
unfolding SmallForm
small_one form a e h = rw e at h

module _ (form : Form) (a b c : Place) (e : form ≡ Three a b c) (h : SmallForm form) where
  smalls : Smalls a × Smalls b × Smalls c
  unfolding SmallForm
  smalls = rw e at h

  pub small-first : Smalls a
  small-first = smalls.0

  pub small-second : Smalls b
  small-second = smalls.1

  pub small-third : Smalls c
  small-third = smalls.2

-- the code's part from its start to its end
pub head-is : (s : List ℕ) (a n : ℕ) → take (a + n - a) (drop a s) ≡ take n (drop a s)
head-is s a n = let z : a + n - a ≡ n = omega arith in rw z

-- ---- on to a field
onward-one : (sep n : ℕ) (m : List ℕ) → after_sep sep (onward sep n m) ≡ onward sep (n + 1) m
unfolding onward
onward-one sep n m = onward-add sep n 1 m

pub past-none : (sep low : ℕ) (m : List ℕ) → m ≡ onward sep (low - low) m
unfolding onward
past-none sep low m = let z : low - low ≡ 0 = omega arith in rw z

module _ (s m : List ℕ) (sep low i to : ℕ) (inv : met (drop to s) ≡ onward sep (i - low) m) where
  pub past-on : (r : ℕ) → low ≤ i → met (drop r (take (length s - to) (drop to s))) ≡ after_sep sep (met (take (length s - to) (drop to s)))
      → met (drop (to + r) s) ≡ onward sep (i + 1 - low) m
  past-on r l e =
      let j : i + 1 - low ≡ i - low + 1 = omega arith in
      let q : met (drop (to + r) s) ≡ after_sep sep (met (drop to s)) = rw (rest-is s to, drop-drop) at e in
      q ∙ ap (after_sep sep) inv ∙ onward-one sep (i - low) m ∙ ap (λ n. onward sep n m) (sym j)

  pub past_end : (n : ℕ) → i ≤ n → n ≤ i → met (drop to s) ≡ onward sep (n - low) m
  past_end n a b = let e : i ≡ n = omega arith in inv ∙ ap (λ k. onward sep (k - low) m) e

module _ (d : Delims) (s : List ℕ) (n : ℕ) (own : List ℕ → ℕ) (first : List ℕ → List ℕ) (w : Walk) (u : ℕ) (g : met (drop u s) ≡ ahead d s n w) where
  own-there : own (until (is_byte d.field) (met (take (length s - u) (drop u s)))) ≡ own (until (is_byte d.field) (ahead d s n w))
  own-there = ap (λ t. own (until (is_byte d.field) (met t))) (rest-is s u) ∙ ap (λ l. own (until (is_byte d.field) l)) g

  pub is-passed : (r : Walk) (k : ℕ) → Proper d → 0 ≡ own (until (is_byte d.field) (met (take (length s - u) (drop u s)))) → u ≤ length s
      → ReadOf d first (take (length s - u) (drop u s)) r.head k → (k ≤ length (take (length s - u) (drop u s))) × (r.head ≤ length (take (length s - u) (drop u s)))
      → r.field ≡ n → r.start ≡ u → r.at ≡ u + k → Passed d s n own first w r
  is-passed r k p h v c z a b f =
      let t : List ℕ = drop u s in
      let x : ReadOf d first t r.head k = rw (rest-is s u) at c in
      let m : drop r.at s ≡ drop (length (until (is_byte d.field) (met t))) t = rw f (sym (drop-drop k u s) ∙ ap (λ i. drop i t) x.long) in
      record {
        told = sym own-there ∙ sym h;
        numbered = a;
        raw = sym (ap (λ l. map byte_of (first l)) g) ∙ x.raw ∙ ap (λ i. take r.head (drop i s)) (sym b);
        rest = ap (λ l. after_sep d.field (met l)) m ∙ ap (after_sep d.field) (sym (from-met (is_byte d.field) (far-is d.field (delim-small d.field p.field)) t)) ∙ after-field d.field (met t) ∙ ap (after_sep d.field) g;
        part = omega (arith, rest-length s u, z.1);
        low = omega (arith, rest-length s u, z.0);
      }

  pub is-broken : (e : FieldFault) → number e.kind ≡ own (until (is_byte d.field) (met (take (length s - u) (drop u s)))) → e.field ≡ n → Broken d s n own w e
  is-broken e h a = record { told = h ∙ own-there; numbered = a }
