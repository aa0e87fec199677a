-- Laws of SPM, OBR and ORC: each the chain of its fields, as the table has them. Assumes nothing.
use Prim.Native.Nat.{ℕ}
use native.Mathlib.Omega.{arith}
use mathlib.Core.Path.{◌≡◌, refl, ◌∙◌}
use mathlib.Core.Bool.{Bool, true, false, not}
use mathlib.Core.List.{List}
use lib.ListN.{take, drop}
use Rattle.std.specs.declared.result.Result.{Result}
use Rattle.std.specs.declared.result.Result.TheVariants.{Ok, Err}
use Rattle.std.specs.Result.{IsErrAnd}
use Rattle.rules.specs.declared.Delims.{Delims}
use Rattle.rules.specs.declared.Kind.TheVariants.{Differs}
use Rattle.rules.specs.declared.Name.TheVariants.{Spm, Obr, Orc}
use Rattle.rules.specs.Told.{◌when◌}
use Rattle.rules.specs.Lists.{same}
use Rattle.rules.specs.Shift.{met}
use Rattle.rules.specs.Proper.{Proper}
use Rattle.rules.specs.Places.{places}
use Rattle.rules.specs.View.{piece_of, part_of, seen_in, segment_of, part_at, seen_at}
use Rattle.rules.specs.Check.{Context, unsaid, value_at, later_fault}
use Rattle.value.specs.Rules.{rule_of, text_of}
use Rattle.value.specs.declared.Words.TheVariants.{Jc10, Group, Re}
use Rattle.value.specs.declared.Rule.TheVariants.{Time, Digits, Capitals, OneOf}
use Rattle.value.specs.declared.Place.TheVariants.{Unread, Must}
use Rattle.fields.specs.declared.Form.TheVariants.{One, Three}
use Rattle.fields.specs.declared.Walk.{Walk}
use Rattle.fields.specs.declared.FieldFault.{FieldFault}
use Rattle.fields.specs.Fields.{entry_for, entries_from, Begins, To}
use Rattle.fields.specs.Segment.{segment, said, Walked, FoundIn}
use Rattle.fields.proofs.Plain.{letters_only}
use Rattle.fields.proofs.Chain.{whole-piece, begins, go, stop, late, found, value_read}
use Rattle.specimen.specs.Specimen.{order_number}

-- ---- SPM
module _ {d : Delims} {s : List ℕ} {w₀ : Walk} (b : Begins 0 w₀) where
  spm₀ : (x : Context) → Walked Spm d x s (places Spm) w₀
  unfolding places entry_for entries_from rule_of text_of piece_of segment_of later_fault
  spm₀ x = begins whole-piece b

  pub spm-4 : {e : FieldFault} {r : Result (Unit {0}) FieldFault} → To d s 4 (Three (Must (Digits 3)) Unread (Must (OneOf Jc10))) w₀ (Err e) → IsErrAnd r (λ y. y ≡ e) → (x : Context) → FoundIn Spm d x (met s) r
  unfolding places entry_for entries_from rule_of text_of piece_of segment_of later_fault
  spm-4 q h x = stop (Three (Must (Digits 3)) Unread (Must (OneOf Jc10))) (spm₀ x) (omega (arith, b.field)) q h

  module _ {w₁ : Walk} (t₁ : To d s 4 (Three (Must (Digits 3)) Unread (Must (OneOf Jc10))) w₀ (Ok w₁)) where
    spm₁ : (x : Context) → Walked Spm d x s (drop 1 (places Spm)) w₁
    unfolding places entry_for entries_from rule_of text_of piece_of segment_of later_fault
    spm₁ x = go (Three (Must (Digits 3)) Unread (Must (OneOf Jc10))) (spm₀ x) (omega (arith, b.field)) t₁ refl

    pub spm-17 : {e : FieldFault} {r : Result (Unit {0}) FieldFault} → To d s 17 (One (Must Time)) w₁ (Err e) → IsErrAnd r (λ y. y ≡ e) → (x : Context) → FoundIn Spm d x (met s) r
    unfolding places entry_for entries_from rule_of text_of piece_of segment_of later_fault
    spm-17 q h x = stop (One (Must Time)) (spm₁ x) (omega (arith, t₁.numbered)) q h

    module _ {w₂ : Walk} (t₂ : To d s 17 (One (Must Time)) w₁ (Ok w₂)) where
      spm₂ : (x : Context) → Walked Spm d x s (drop 2 (places Spm)) w₂
      unfolding places entry_for entries_from rule_of text_of piece_of segment_of later_fault
      spm₂ x = go (One (Must Time)) (spm₁ x) (omega (arith, t₁.numbered)) t₂ refl

      pub spm-end : (x : Context) → FoundIn {A = Unit {0}} Spm d x (met s) (Ok tt)
      unfolding places entry_for entries_from rule_of text_of piece_of segment_of later_fault
      spm-end x = found (spm₂ x)

-- ---- OBR
module _ {d : Delims} {s : List ℕ} {w₀ : Walk} (b : Begins 0 w₀) where
  obr₀ : (x : Context) → Walked Obr d x s (places Obr) w₀
  unfolding places entry_for entries_from rule_of text_of piece_of segment_of later_fault
  obr₀ x = begins whole-piece b

  pub obr-2 : {A : Type 0} {e : FieldFault} {r : Result A FieldFault} → To d s 2 (One (Must (Digits 15))) w₀ (Err e) → IsErrAnd r (λ y. y ≡ e) → (x : Context) → FoundIn Obr d x (met s) r
  unfolding places entry_for entries_from rule_of text_of piece_of segment_of later_fault
  obr-2 q h x = stop (One (Must (Digits 15))) (obr₀ x) (omega (arith, b.field)) q h

  module _ {w₁ : Walk} (t₁ : To d s 2 (One (Must (Digits 15))) w₀ (Ok w₁)) where
    obr₁ : (x : Context) → Walked Obr d x s (drop 1 (places Obr)) w₁
    unfolding places entry_for entries_from rule_of text_of piece_of segment_of later_fault
    obr₁ x = go (One (Must (Digits 15))) (obr₀ x) (omega (arith, b.field)) t₁ refl

    pub obr-4 : {A : Type 0} {e : FieldFault} {r : Result A FieldFault} → To d s 4 (Three (Must (Capitals 8)) Unread (Must (OneOf Group))) w₁ (Err e) → IsErrAnd r (λ y. y ≡ e) → (x : Context) → FoundIn Obr d x (met s) r
    unfolding places entry_for entries_from rule_of text_of piece_of segment_of later_fault
    obr-4 q h x = stop (Three (Must (Capitals 8)) Unread (Must (OneOf Group))) (obr₁ x) (omega (arith, t₁.numbered)) q h

    module _ {w₂ : Walk} (t₂ : To d s 4 (Three (Must (Capitals 8)) Unread (Must (OneOf Group))) w₁ (Ok w₂)) where
      obr₂ : (x : Context) → Walked Obr d x s (drop 2 (places Obr)) w₂
      unfolding places entry_for entries_from rule_of text_of piece_of segment_of later_fault
      obr₂ x = go (Three (Must (Capitals 8)) Unread (Must (OneOf Group))) (obr₁ x) (omega (arith, t₁.numbered)) t₂ refl

      pub obr-end : {A : Type 0} (a : A) (x : Context) → FoundIn {A = A} Obr d x (met s) (Ok a)
      unfolding places entry_for entries_from rule_of text_of piece_of segment_of later_fault
      obr-end a x = found (obr₂ x)

module _ {d : Delims} {s : List ℕ} {w₀ w₁ : Walk} (b : Begins 0 w₀) (t₁ : To d s 2 (One (Must (Digits 15))) w₀ (Ok w₁)) where
  pub obr-order : Proper d → take w₁.head (drop w₁.start s) ≡ order_number d s
  unfolding places entry_for entries_from rule_of text_of piece_of segment_of part_of part_at seen_in seen_at letters_only
  obr-order p = value_read (Digits 15) p (obr₀ b unsaid) (omega (arith, b.field)) t₁ refl

-- ---- ORC
module _ {d : Delims} {s : List ℕ} {w₀ : Walk} (b : Begins 0 w₀) where
  orc₀ : (x : Context) → Walked Orc d x s (places Orc) w₀
  unfolding places entry_for entries_from rule_of text_of piece_of segment_of later_fault
  orc₀ x = begins whole-piece b

  pub orc-1 : {e : FieldFault} {r : Result (Unit {0}) FieldFault} → To d s 1 (One (Must (OneOf Re))) w₀ (Err e) → IsErrAnd r (λ y. y ≡ e) → (x : Context) → FoundIn Orc d x (met s) r
  unfolding places entry_for entries_from rule_of text_of piece_of segment_of later_fault
  orc-1 q h x = stop (One (Must (OneOf Re))) (orc₀ x) (omega (arith, b.field)) q h

  module _ {w₁ : Walk} (t₁ : To d s 1 (One (Must (OneOf Re))) w₀ (Ok w₁)) where
    orc₁ : (x : Context) → Walked Orc d x s (drop 1 (places Orc)) w₁
    unfolding places entry_for entries_from rule_of text_of piece_of segment_of later_fault
    orc₁ x = go (One (Must (OneOf Re))) (orc₀ x) (omega (arith, b.field)) t₁ refl

    pub orc-2 : {e : FieldFault} {r : Result (Unit {0}) FieldFault} → To d s 2 (One (Must (Digits 15))) w₁ (Err e) → IsErrAnd r (λ y. y ≡ e) → (x : Context) → FoundIn Orc d x (met s) r
    unfolding places entry_for entries_from rule_of text_of piece_of segment_of later_fault
    orc-2 q h x = stop (One (Must (Digits 15))) (orc₁ x) (omega (arith, t₁.numbered)) q h

    module _ {w₂ : Walk} (t₂ : To d s 2 (One (Must (Digits 15))) w₁ (Ok w₂)) where
      module _ (p : Proper d) (order number : List ℕ) (q : Bool) (g : q ≡ same number order) (f : number ≡ take w₂.head (drop w₂.start s)) where
        differs : later_fault d (said order) (segment Orc d s) 2 ≡ (27 when not q)
        unfolding places entry_for entries_from rule_of text_of piece_of segment_of part_of part_at seen_in seen_at letters_only later_fault
        differs = let r : number ≡ value_at d (segment Orc d s) 2 1 = f ∙ value_read (Digits 15) p (orc₁ (said order)) (omega (arith, t₁.numbered)) t₂ refl in rw (g, r)

        pub orc-differs : q ≡ false → FoundIn {A = Unit {0}} Orc d (said order) (met s) (Err (record { kind = Differs; field = w₂.field }))
        unfolding places entry_for entries_from rule_of text_of
        orc-differs h = late (One (Must (Digits 15))) (orc₁ (said order)) (omega (arith, t₁.numbered)) Differs t₂ (differs ∙ rw h)

        pub orc-end : q ≡ true → FoundIn {A = Unit {0}} Orc d (said order) (met s) (Ok tt)
        unfolding places entry_for entries_from rule_of text_of
        orc-end h = found (go (One (Must (Digits 15))) (orc₁ (said order)) (omega (arith, t₁.numbered)) t₂ (differs ∙ rw h))
