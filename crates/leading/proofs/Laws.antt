-- Laws of the leading segments: each the chain of its fields, as the table has them. Assumes nothing.
use Prim.Native.Nat.{ℕ}
use native.Mathlib.Omega.{arith}
use mathlib.Core.Path.{◌≡◌, refl}
use mathlib.Core.List.{List}
use lib.ListN.{drop}
use Rattle.std.specs.declared.result.Result.{Result}
use Rattle.std.specs.declared.result.Result.TheVariants.{Ok, Err}
use Rattle.std.specs.Result.{IsErrAnd}
use Rattle.rules.specs.declared.Delims.{Delims}
use Rattle.rules.specs.declared.Name.TheVariants.{Msh, Pid, Pv1}
use Rattle.rules.specs.Shift.{met}
use Rattle.rules.specs.Places.{places}
use Rattle.rules.specs.View.{piece_of, segment_of}
use Rattle.rules.specs.Check.{Context, later_fault}
use Rattle.value.specs.Rules.{rule_of, text_of}
use Rattle.value.specs.declared.Words.TheVariants.{Oul, R22, OulR22, Modes, Version, Sexes, Classes}
use Rattle.value.specs.declared.Rule.TheVariants.{Time, Date, Text, OneOf}
use Rattle.value.specs.declared.Place.TheVariants.{Must, May}
use Rattle.fields.specs.declared.Form.TheVariants.{One, Three, Charset, Names}
use Rattle.fields.specs.declared.Walk.{Walk}
use Rattle.fields.specs.declared.FieldFault.{FieldFault}
use Rattle.fields.specs.Fields.{entry_for, entries_from, Begins, To}
use Rattle.fields.specs.Segment.{Walked, FoundIn}
use Rattle.fields.proofs.Chain.{whole-piece, begins, go, stop, found}

-- ---- MSH
module _ {d : Delims} {s : List ℕ} {w₀ : Walk} (b : Begins 1 w₀) where
  msh₀ : (x : Context) → Walked Msh d x s (places Msh) w₀
  unfolding places entry_for entries_from rule_of text_of piece_of segment_of later_fault
  msh₀ x = begins (λ f. refl) b

  pub msh-7 : {e : FieldFault} {r : Result (Unit {0}) FieldFault} → To d s 7 (One (Must Time)) w₀ (Err e) → IsErrAnd r (λ y. y ≡ e) → (x : Context) → FoundIn Msh d x (met s) r
  unfolding places entry_for entries_from rule_of text_of piece_of segment_of later_fault
  msh-7 q h x = stop (One (Must Time)) (msh₀ x) (omega (arith, b.field)) q h

  module _ {w₁ : Walk} (t₁ : To d s 7 (One (Must Time)) w₀ (Ok w₁)) where
    msh₁ : (x : Context) → Walked Msh d x s (drop 1 (places Msh)) w₁
    unfolding places entry_for entries_from rule_of text_of piece_of segment_of later_fault
    msh₁ x = go (One (Must Time)) (msh₀ x) (omega (arith, b.field)) t₁ refl

    pub msh-9 : {e : FieldFault} {r : Result (Unit {0}) FieldFault} → To d s 9 (Three (Must (OneOf Oul)) (Must (OneOf R22)) (Must (OneOf OulR22))) w₁ (Err e) → IsErrAnd r (λ y. y ≡ e) → (x : Context) → FoundIn Msh d x (met s) r
    unfolding places entry_for entries_from rule_of text_of piece_of segment_of later_fault
    msh-9 q h x = stop (Three (Must (OneOf Oul)) (Must (OneOf R22)) (Must (OneOf OulR22))) (msh₁ x) (omega (arith, t₁.numbered)) q h

    module _ {w₂ : Walk} (t₂ : To d s 9 (Three (Must (OneOf Oul)) (Must (OneOf R22)) (Must (OneOf OulR22))) w₁ (Ok w₂)) where
      msh₂ : (x : Context) → Walked Msh d x s (drop 2 (places Msh)) w₂
      unfolding places entry_for entries_from rule_of text_of piece_of segment_of later_fault
      msh₂ x = go (Three (Must (OneOf Oul)) (Must (OneOf R22)) (Must (OneOf OulR22))) (msh₁ x) (omega (arith, t₁.numbered)) t₂ refl

      pub msh-10 : {e : FieldFault} {r : Result (Unit {0}) FieldFault} → To d s 10 (One (Must (Text 20))) w₂ (Err e) → IsErrAnd r (λ y. y ≡ e) → (x : Context) → FoundIn Msh d x (met s) r
      unfolding places entry_for entries_from rule_of text_of piece_of segment_of later_fault
      msh-10 q h x = stop (One (Must (Text 20))) (msh₂ x) (omega (arith, t₂.numbered)) q h

      module _ {w₃ : Walk} (t₃ : To d s 10 (One (Must (Text 20))) w₂ (Ok w₃)) where
        msh₃ : (x : Context) → Walked Msh d x s (drop 3 (places Msh)) w₃
        unfolding places entry_for entries_from rule_of text_of piece_of segment_of later_fault
        msh₃ x = go (One (Must (Text 20))) (msh₂ x) (omega (arith, t₂.numbered)) t₃ refl

        pub msh-11 : {e : FieldFault} {r : Result (Unit {0}) FieldFault} → To d s 11 (One (Must (OneOf Modes))) w₃ (Err e) → IsErrAnd r (λ y. y ≡ e) → (x : Context) → FoundIn Msh d x (met s) r
        unfolding places entry_for entries_from rule_of text_of piece_of segment_of later_fault
        msh-11 q h x = stop (One (Must (OneOf Modes))) (msh₃ x) (omega (arith, t₃.numbered)) q h

        module _ {w₄ : Walk} (t₄ : To d s 11 (One (Must (OneOf Modes))) w₃ (Ok w₄)) where
          msh₄ : (x : Context) → Walked Msh d x s (drop 4 (places Msh)) w₄
          unfolding places entry_for entries_from rule_of text_of piece_of segment_of later_fault
          msh₄ x = go (One (Must (OneOf Modes))) (msh₃ x) (omega (arith, t₃.numbered)) t₄ refl

          pub msh-12 : {e : FieldFault} {r : Result (Unit {0}) FieldFault} → To d s 12 (One (Must (OneOf Version))) w₄ (Err e) → IsErrAnd r (λ y. y ≡ e) → (x : Context) → FoundIn Msh d x (met s) r
          unfolding places entry_for entries_from rule_of text_of piece_of segment_of later_fault
          msh-12 q h x = stop (One (Must (OneOf Version))) (msh₄ x) (omega (arith, t₄.numbered)) q h

          module _ {w₅ : Walk} (t₅ : To d s 12 (One (Must (OneOf Version))) w₄ (Ok w₅)) where
            msh₅ : (x : Context) → Walked Msh d x s (drop 5 (places Msh)) w₅
            unfolding places entry_for entries_from rule_of text_of piece_of segment_of later_fault
            msh₅ x = go (One (Must (OneOf Version))) (msh₄ x) (omega (arith, t₄.numbered)) t₅ refl

            pub msh-18 : {e : FieldFault} {r : Result (Unit {0}) FieldFault} → To d s 18 Charset w₅ (Err e) → IsErrAnd r (λ y. y ≡ e) → (x : Context) → FoundIn Msh d x (met s) r
            unfolding places entry_for entries_from rule_of text_of piece_of segment_of later_fault
            msh-18 q h x = stop Charset (msh₅ x) (omega (arith, t₅.numbered)) q h

            module _ {w₆ : Walk} (t₆ : To d s 18 Charset w₅ (Ok w₆)) where
              msh₆ : (x : Context) → Walked Msh d x s (drop 6 (places Msh)) w₆
              unfolding places entry_for entries_from rule_of text_of piece_of segment_of later_fault
              msh₆ x = go Charset (msh₅ x) (omega (arith, t₅.numbered)) t₆ refl

              pub msh-end : (x : Context) → FoundIn {A = Unit {0}} Msh d x (met s) (Ok tt)
              unfolding places entry_for entries_from rule_of text_of piece_of segment_of later_fault
              msh-end x = found (msh₆ x)

-- ---- PID
module _ {d : Delims} {s : List ℕ} {w₀ : Walk} (b : Begins 0 w₀) where
  pid₀ : (x : Context) → Walked Pid d x s (places Pid) w₀
  unfolding places entry_for entries_from rule_of text_of piece_of segment_of later_fault
  pid₀ x = begins whole-piece b

  pub pid-3 : {e : FieldFault} {r : Result (Unit {0}) FieldFault} → To d s 3 (One (Must (Text 20))) w₀ (Err e) → IsErrAnd r (λ y. y ≡ e) → (x : Context) → FoundIn Pid d x (met s) r
  unfolding places entry_for entries_from rule_of text_of piece_of segment_of later_fault
  pid-3 q h x = stop (One (Must (Text 20))) (pid₀ x) (omega (arith, b.field)) q h

  module _ {w₁ : Walk} (t₁ : To d s 3 (One (Must (Text 20))) w₀ (Ok w₁)) where
    pid₁ : (x : Context) → Walked Pid d x s (drop 1 (places Pid)) w₁
    unfolding places entry_for entries_from rule_of text_of piece_of segment_of later_fault
    pid₁ x = go (One (Must (Text 20))) (pid₀ x) (omega (arith, b.field)) t₁ refl

    pub pid-5 : {e : FieldFault} {r : Result (Unit {0}) FieldFault} → To d s 5 Names w₁ (Err e) → IsErrAnd r (λ y. y ≡ e) → (x : Context) → FoundIn Pid d x (met s) r
    unfolding places entry_for entries_from rule_of text_of piece_of segment_of later_fault
    pid-5 q h x = stop Names (pid₁ x) (omega (arith, t₁.numbered)) q h

    module _ {w₂ : Walk} (t₂ : To d s 5 Names w₁ (Ok w₂)) where
      pid₂ : (x : Context) → Walked Pid d x s (drop 2 (places Pid)) w₂
      unfolding places entry_for entries_from rule_of text_of piece_of segment_of later_fault
      pid₂ x = go Names (pid₁ x) (omega (arith, t₁.numbered)) t₂ refl

      pub pid-7 : {e : FieldFault} {r : Result (Unit {0}) FieldFault} → To d s 7 (One (May Date)) w₂ (Err e) → IsErrAnd r (λ y. y ≡ e) → (x : Context) → FoundIn Pid d x (met s) r
      unfolding places entry_for entries_from rule_of text_of piece_of segment_of later_fault
      pid-7 q h x = stop (One (May Date)) (pid₂ x) (omega (arith, t₂.numbered)) q h

      module _ {w₃ : Walk} (t₃ : To d s 7 (One (May Date)) w₂ (Ok w₃)) where
        pid₃ : (x : Context) → Walked Pid d x s (drop 3 (places Pid)) w₃
        unfolding places entry_for entries_from rule_of text_of piece_of segment_of later_fault
        pid₃ x = go (One (May Date)) (pid₂ x) (omega (arith, t₂.numbered)) t₃ refl

        pub pid-8 : {e : FieldFault} {r : Result (Unit {0}) FieldFault} → To d s 8 (One (Must (OneOf Sexes))) w₃ (Err e) → IsErrAnd r (λ y. y ≡ e) → (x : Context) → FoundIn Pid d x (met s) r
        unfolding places entry_for entries_from rule_of text_of piece_of segment_of later_fault
        pid-8 q h x = stop (One (Must (OneOf Sexes))) (pid₃ x) (omega (arith, t₃.numbered)) q h

        module _ {w₄ : Walk} (t₄ : To d s 8 (One (Must (OneOf Sexes))) w₃ (Ok w₄)) where
          pid₄ : (x : Context) → Walked Pid d x s (drop 4 (places Pid)) w₄
          unfolding places entry_for entries_from rule_of text_of piece_of segment_of later_fault
          pid₄ x = go (One (Must (OneOf Sexes))) (pid₃ x) (omega (arith, t₃.numbered)) t₄ refl

          pub pid-end : (x : Context) → FoundIn {A = Unit {0}} Pid d x (met s) (Ok tt)
          unfolding places entry_for entries_from rule_of text_of piece_of segment_of later_fault
          pid-end x = found (pid₄ x)

-- ---- PV1
module _ {d : Delims} {s : List ℕ} {w₀ : Walk} (b : Begins 0 w₀) where
  pv1₀ : (x : Context) → Walked Pv1 d x s (places Pv1) w₀
  unfolding places entry_for entries_from rule_of text_of piece_of segment_of later_fault
  pv1₀ x = begins whole-piece b

  pub pv1-2 : {e : FieldFault} {r : Result (Unit {0}) FieldFault} → To d s 2 (One (Must (OneOf Classes))) w₀ (Err e) → IsErrAnd r (λ y. y ≡ e) → (x : Context) → FoundIn Pv1 d x (met s) r
  unfolding places entry_for entries_from rule_of text_of piece_of segment_of later_fault
  pv1-2 q h x = stop (One (Must (OneOf Classes))) (pv1₀ x) (omega (arith, b.field)) q h

  module _ {w₁ : Walk} (t₁ : To d s 2 (One (Must (OneOf Classes))) w₀ (Ok w₁)) where
    pv1₁ : (x : Context) → Walked Pv1 d x s (drop 1 (places Pv1)) w₁
    unfolding places entry_for entries_from rule_of text_of piece_of segment_of later_fault
    pv1₁ x = go (One (Must (OneOf Classes))) (pv1₀ x) (omega (arith, b.field)) t₁ refl

    pub pv1-end : (x : Context) → FoundIn {A = Unit {0}} Pv1 d x (met s) (Ok tt)
    unfolding places entry_for entries_from rule_of text_of piece_of segment_of later_fault
    pv1-end x = found (pv1₁ x)
