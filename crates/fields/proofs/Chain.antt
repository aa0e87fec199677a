-- A segment, field by field: what the table tells of it, from one read field to the next. Assumes nothing.
use Prim.Native.Nat.{ℕ, zero, suc, ◌+◌, ◌-◌, ◌<◌}
use native.Mathlib.Omega.{arith}
use native.Mathlib.Numerals.{add-one}
use mathlib.Core.Path.{◌≡◌, refl, sym, ap, subst, ◌∙◌}
use mathlib.Core.List.{List, [], ◌∷◌, map}
use mathlib.Core.Bool.{true, false}
use lib.ListN.{take, drop}
use Rattle.rules.specs.declared.Delims.{Delims}
use Rattle.rules.specs.declared.Name.{Name}
use Rattle.std.specs.declared.result.Result.{Result}
use Rattle.std.specs.declared.result.Result.TheVariants.{Ok, Err}
use Rattle.std.specs.Result.{IsErrAnd}
use Rattle.std.proofs.lemmas.Result.{err_from_is_err_and}
use Rattle.rules.specs.declared.Kind.{Kind}
use Rattle.rules.specs.Told.{Told, ◌>>◌, ◌then◌, ◌when◌, number}
use Rattle.rules.specs.Lists.{has}
use Rattle.rules.specs.Shift.{met, byte_of}
use Rattle.rules.specs.Proper.{Proper}
use Rattle.rules.specs.Places.{Field, places}
use Rattle.rules.specs.View.{piece_of, field_of, component_of, first_repetition, seen_in, part_of, segment_of}
use Rattle.rules.specs.Judge.{plain_of, judge, judge_all}
use Rattle.rules.specs.Check.{Context, part_no, own_fault, later_fault, part_fault, fault_told, parts_told}
use Rattle.rules.proofs.Logic.{then-zero, then-none}
use Rattle.plain_bytes.specs.Bytes.{until, is_byte}
use Rattle.scan.specs.Scan.{ends, after_sep, onward}
use Rattle.value.specs.Rules.{rule_of}
use Rattle.value.specs.declared.Rule.{Rule}
use Rattle.components.specs.Components.{forward}
use Rattle.components.proofs.Pieces.{piece-at}
use Rattle.closed.specs.Closed.{charset_fault}
use Rattle.value.specs.declared.Place.TheVariants.{Must}
use Rattle.fields.specs.declared.Walk.{Walk}
use Rattle.fields.specs.declared.FieldFault.{FieldFault}
use Rattle.fields.specs.declared.Form.{Form}
use Rattle.fields.specs.declared.Form.TheVariants.{One, Three, Charset, Names}
use Rattle.fields.specs.Fields.{entry_for, entries_from, entries_fault, form_fault, form_head, Begins, ahead, Passed, Broken, To}
use Rattle.fields.specs.Segment.{as_known, segment, Walked, FoundIn}
use Rattle.scan.proofs.Laws.{onward-add}
use Rattle.fields.proofs.Plain.{letters_only, raw-value}
use Rattle.value.proofs.Laws.{number-some}
use Rattle.fields.proofs.Laws.{component-is}

pub begins : {n : Name} {d : Delims} {ctx : Context} {s : List ℕ} {k : ℕ} {w : Walk} → ((f : ℕ) → piece_of n f ≡ f - k) → Begins k w → Walked n d ctx s (places n) w
unfolding segment_of onward
begins {n} {d} {ctx} {s} {k} {w} e b = record {
  told = λ i. refl;
  lead = λ f h. rw (e f, e w.field, b.field) (let z : w.field ≡ k = b.field in omega arith);
  rest = rw (b.at, e w.field, b.field) (let z : k - k ≡ 0 = omega arith in rw z);
}

-- each field but those of MSH stands where its number says
pub whole-piece : (f : ℕ) → f ≡ f - 0
whole-piece f = omega arith

pub found : {A : Type 0} {a : A} {n : Name} {d : Delims} {ctx : Context} {s : List ℕ} {w : Walk} → Walked n d ctx s [] w → FoundIn {A = A} n d ctx (met s) (Ok a)
unfolding parts_told fault_told
found x = record { told = λ i. sym (x.told i) }

-- as `?` hands it on
pub handed-found : {A B : Type 0} {n : Name} {d : Delims} {body : List ℕ} {e : FieldFault} {r : Result B FieldFault} → ((x : Context) → FoundIn {A = A} n d x body (Err e))
    → IsErrAnd r (λ y. y ≡ e) → (x : Context) → FoundIn n d x body r
handed-found {r = r} f h x = let p = err_from_is_err_and r h in rw (p.1, p.2) (record { told = (f x).told })

-- what is broken is the answer, whatever follows
stops : (k : Kind) (i f l : ℕ) (t : Told (Unit {0})) → (fault_told i f (number k then l) >> t) ≡ fault_told i f (number k)
unfolding fault_told
stops k i f l t = rw (number-some k)

onward-suc : (sep n : ℕ) (m : List ℕ) → after_sep sep (onward sep n m) ≡ onward sep (suc n) m
unfolding onward
onward-suc sep n m = rw add-one at (onward-add sep n 1 m)

-- ---- one field on
module _ {n : Name} {d : Delims} {ctx : Context} {s : List ℕ} {F : Field} {left : List Field} {w : Walk} {f : ℕ} (x : Walked n d ctx s (F ∷ left) w) (l : w.field < f) where
  from : ahead d s f w ≡ onward d.field (piece_of n f) (met s)
  unfolding onward
  from =
      let a : f - w.field ≡ suc (f - w.field - 1) = omega arith in
      let b : suc (piece_of n w.field) + (f - w.field - 1) ≡ piece_of n f = omega (arith, x.lead f (omega arith)) in
      ap (λ k. onward d.field k (met (drop w.at s))) a ∙ ap (onward d.field (f - w.field - 1)) x.rest
      ∙ onward-add d.field (suc (piece_of n w.field)) (f - w.field - 1) (met s) ∙ ap (λ k. onward d.field k (met s)) b

  pub field-from : until (is_byte d.field) (ahead d s f w) ≡ field_of d (as_known n (met s)) f
  unfolding field_of
  field-from = ap (until (is_byte d.field)) from ∙ sym (piece-at d.field (piece_of n f) (met s))

  module _ (own : List ℕ → ℕ) (e : part_no (part_of d (as_known n (met s)) F) ≡ f) (o : own_fault d (segment n d s) (part_of d (as_known n (met s)) F) ≡ own (field_of d (as_known n (met s)) f)) where
    step-told : (i : ℕ) → parts_told d ctx i (segment n d s) (segment n d s).parts
        ≡ (fault_told i f (own (until (is_byte d.field) (ahead d s f w)) then later_fault d ctx (segment n d s) f) >> parts_told d ctx i (segment n d s) (map (part_of d (as_known n (met s))) left))
    unfolding parts_told part_fault
    step-told i = let q : own (field_of d (as_known n (met s)) f) ≡ own (until (is_byte d.field) (ahead d s f w)) = ap own (sym field-from) in x.told i ∙ rw (e, o, q)

    pub stop-by : {A : Type 0} {q : FieldFault} → Broken d s f own w q → FoundIn {A = A} n d ctx (met s) (Err q)
    stop-by {A} {q} b = record {
      told = λ i. sym (step-told i ∙ rw (← b.told, b.numbered) (stops q.kind i f (later_fault d ctx (segment n d s) f) (parts_told d ctx i (segment n d s) (map (part_of d (as_known n (met s))) left))));
    }

    module _ {first : List ℕ → List ℕ} {r : Walk} (g : Passed d s f own first w r) where
      pub step : later_fault d ctx (segment n d s) f ≡ 0 → Walked n d ctx s left r
      unfolding fault_told
      step z = record {
        told = λ i. step-told i ∙ rw (g.told, z);
        lead = λ k q. let j : r.field ≡ f = g.numbered in rw j (omega (arith, x.lead k (omega arith), x.lead f (omega arith)));
        rest = g.rest ∙ ap (after_sep d.field) from ∙ onward-suc d.field (piece_of n f) (met s) ∙ rw g.numbered;
      }

      pub late-by : {A : Type 0} (k : Kind) → later_fault d ctx (segment n d s) f ≡ number k → FoundIn {A = A} n d ctx (met s) (Err (record { kind = k; field = r.field }))
      late-by k z = record {
        told = λ i. sym (step-told i ∙ rw (g.told, z, g.numbered) (ap (λ a. fault_told i f a >> parts_told d ctx i (segment n d s) (map (part_of d (as_known n (met s))) left)) (sym (then-zero (number k))) ∙ stops k i f 0 (parts_told d ctx i (segment n d s) (map (part_of d (as_known n (met s))) left))));
      }

-- ---- a field by its form
own_is : (n : Name) (d : Delims) (s : List ℕ) (f : ℕ) (form : Form)
    → own_fault d (segment n d s) (part_of d (as_known n (met s)) (entry_for f form)) ≡ form_fault d form (field_of d (as_known n (met s)) f)
unfolding own_fault part_of entry_for form_fault entries_fault charset_fault
own_is n d s f (One a) = refl
own_is n d s f (Three a b c) = refl
own_is n d s f Charset = refl
own_is n d s f Names = refl

number_is_lem : (n : Name) (d : Delims) (s : List ℕ) (f : ℕ) (form : Form) → part_no (part_of d (as_known n (met s)) (entry_for f form)) ≡ f
unfolding part_no part_of entry_for
number_is_lem n d s f (One a) = refl
number_is_lem n d s f (Three a b c) = refl
number_is_lem n d s f Charset = refl
number_is_lem n d s f Names = refl

module _ {n : Name} {d : Delims} {ctx : Context} {s : List ℕ} {left : List Field} {w : Walk} {f : ℕ} (form : Form) (x : Walked n d ctx s (entry_for f form ∷ left) w) (l : w.field < f) where
  -- as `?` hands it on
  pub stop : {A : Type 0} {q : FieldFault} {r : Result A FieldFault} → To d s f form w (Err q) → IsErrAnd r (λ y. y ≡ q) → FoundIn n d ctx (met s) r
  stop {r = r} b h = let e = err_from_is_err_and r h in rw (e.1, e.2) (stop-by x l (form_fault d form) (number_is_lem n d s f form) (own_is n d s f form) b)

  pub go : {r : Walk} → To d s f form w (Ok r) → later_fault d ctx (segment n d s) f ≡ 0 → Walked n d ctx s left r
  go g z = step x l (form_fault d form) (number_is_lem n d s f form) (own_is n d s f form) g z

  -- 26 or 27, after that field
  pub late : {A : Type 0} {r : Walk} (k : Kind) → To d s f form w (Ok r) → later_fault d ctx (segment n d s) f ≡ number k → FoundIn {A = A} n d ctx (met s) (Err (record { kind = k; field = r.field }))
  late k g z = late-by x l (form_fault d form) (number_is_lem n d s f form) (own_is n d s f form) g k z

-- ---- what was read
-- a required value of letters and digits, by its place in the segment
module _ {n : Name} {d : Delims} {ctx : Context} {s : List ℕ} {left : List Field} {w r : Walk} {f : ℕ} (rule : Rule) (p : Proper d)
    (x : Walked n d ctx s (entry_for f (One (Must rule)) ∷ left) w) (l : w.field < f) (g : To d s f (One (Must rule)) w (Ok r)) where
  pub value_read : letters_only (rule_of rule) ≡ true
      → take r.head (drop r.start s) ≡ plain_of d (component_of d (first_repetition d (field_of d (as_known n (met s)) f)) 1)
  unfolding form_fault form_head entries_fault entries_from judge_all seen_in field_of forward
  value_read o =
      let m : List ℕ = ahead d s f w in
      let c : List ℕ = component_of d (first_repetition d (until (is_byte d.field) m)) 1 in
      let e : c ≡ until (ends d) m = component-is d p 0 m in
      let a : (22 when has d.repetition (until (is_byte d.field) m) then (judge d true (rule_of rule) c then 0)) ≡ 0 = g.told in
      let b : judge d true (rule_of rule) c ≡ 0 = (then-none (judge d true (rule_of rule) c) 0 (then-none (22 when has d.repetition (until (is_byte d.field) m)) (judge d true (rule_of rule) c then 0) a).1).0 in
      sym g.raw ∙ ap (map byte_of) (sym e) ∙ sym (raw-value d p (rule_of rule) c o b)
      ∙ ap (λ t. plain_of d (component_of d (first_repetition d t) 1)) (field-from x l)
