-- Laws of an OBX: the chain of its fields, as the table has them. Assumes nothing.
use Prim.Native.Nat.{ℕ, ◌+◌, ◌-◌, ◌≤◌}
use native.Mathlib.Omega.{arith}
use mathlib.Core.Path.{◌≡◌, refl, sym, ap, ◌∙◌}
use mathlib.Core.Bool.{Bool, true, false, not}
use mathlib.Core.List.{List, []}
use lib.ListN.{length, take, drop}
use Rattle.std.specs.declared.result.Result.{Result}
use Rattle.std.specs.declared.result.Result.TheVariants.{Ok, Err}
use Rattle.std.specs.Result.{IsErrAnd, MatchResult}
use Rattle.std.proofs.lemmas.Result.{err_from_is_err_and}
use Rattle.rules.specs.declared.Delims.{Delims}
use Rattle.rules.specs.declared.Kind.TheVariants.{Status}
use Rattle.rules.specs.declared.Name.TheVariants.{Obx}
use Rattle.rules.specs.Told.{◌when◌, number}
use Rattle.rules.specs.Lists.{bytes, all, onto, split}
use Rattle.rules.specs.Lists as L
use Rattle.rules.specs.Shift.{met}
use Rattle.rules.specs.Proper.{Proper}
use Rattle.rules.specs.Places.{Four, places}
use Rattle.rules.specs.View.{piece_of, field_of, part_of, seen_in, segment_of, part_at, seen_at}
use Rattle.rules.specs.Check.{Context, unsaid, value_at, raw_four_of, part_no, own_fault, later_fault}
use Rattle.rules.specs.Judge.{raw_four, beside, value_fault, agrees}
use Rattle.rules.proofs.Lists.{rest-is}
use Rattle.plain_bytes.specs.Bytes.{until, is_byte}
use Rattle.value.specs.Rules.{rule_of, text_of}
use Rattle.value.specs.declared.Words.TheVariants.{Jc10, Types, Flags, Statuses}
use Rattle.value.specs.declared.Rule.TheVariants.{Text, Capitals, OneOf}
use Rattle.value.specs.declared.Place.TheVariants.{Must, May}
use Rattle.obx_value.specs.Value.{ValueOf}
use Rattle.fields.specs.declared.Form.TheVariants.{One, Three}
use Rattle.fields.specs.declared.Walk.{Walk}
use Rattle.fields.specs.declared.FieldFault.{FieldFault}
use Rattle.fields.specs.Fields.{entry_for, entries_from, Begins, ahead, Broken, To}
use Rattle.fields.specs.Segment.{as_known, segment, Walked, FoundIn}
use Rattle.fields.proofs.Laws.{is-passed, is-broken}
use Rattle.fields.proofs.Plain.{letters_only}
use Rattle.fields.proofs.Chain.{whole-piece, begins, step, stop-by, stop, go, late, found, field-from, value_read}
use Rattle.obx.specs.Obx.{value_field, value_after, ValueTo, ValuedAt, StopsIn}

-- as `?` hands on what is broken
pub handed-match : {T E : Type 0} (r : Result T E) (P : T → Type 0) (Q : E → Type 0) (e : E) → Q e → IsErrAnd r (λ y. y ≡ e) → MatchResult r P Q
handed-match r P Q e q h = let p = err_from_is_err_and r h in rw (p.1, p.2) q

-- ---- OBX-5
module _ (d : Delims) (s type : List ℕ) (w : Walk) (fault u k : ℕ) (y z : Bool) (g : met (drop u s) ≡ ahead d s value_field w)
    (c : ValueOf d type (until (is_byte d.field) (met (take (length s - u) (drop u s)))) fault k y z) where
  pub value-passed : (r : Walk) → Proper d → 0 ≡ fault → u ≤ length s → k ≤ length (take (length s - u) (drop u s))
      → r.field ≡ 5 → r.start ≡ u → r.head ≡ 0 → r.at ≡ u + k → ValueTo d s type w r y z
  value-passed r p n v l a x i f =
      let m : met (take (length s - u) (drop u s)) ≡ ahead d s value_field w = ap met (rest-is s u) ∙ g in
      record {
        passed = is-passed d s value_field (value_fault d type) (λ m. []) w u g r k p (n ∙ c.told) v (record { raw = rw i; long = c.long }) (l, omega arith) a x f;
        filled = c.filled (sym n) ∙ ap (λ t. L.filled (raw_four d type (until (is_byte d.field) t)).value) m;
        beside = c.beside (sym n) ∙ ap (λ t. beside (raw_four d type (until (is_byte d.field) t))) m;
      }

  pub value-broken : (e : FieldFault) → number e.kind ≡ fault → e.field ≡ 5 → Broken d s value_field (value_fault d type) w e
  value-broken e n a = is-broken d s value_field (value_fault d type) (λ m. []) w u g e (n ∙ c.told) a

-- ---- up to OBX-5
module _ {d : Delims} {s : List ℕ} {w₀ : Walk} (b : Begins 0 w₀) where
  obx₀ : (x : Context) → Walked Obx d x s (places Obx) w₀
  unfolding places entry_for entries_from rule_of text_of piece_of segment_of later_fault
  obx₀ x = begins whole-piece b

  pub obx-2 : {e : FieldFault} → To d s 2 (One (Must (OneOf Types))) w₀ (Err e) → StopsIn d s e
  unfolding places entry_for entries_from rule_of text_of piece_of segment_of later_fault
  obx-2 q x = stop (One (Must (OneOf Types))) (obx₀ x) (omega (arith, b.field)) q refl

  module _ {w₁ : Walk} (t₁ : To d s 2 (One (Must (OneOf Types))) w₀ (Ok w₁)) where
    obx₁ : (x : Context) → Walked Obx d x s (drop 1 (places Obx)) w₁
    unfolding places entry_for entries_from rule_of text_of piece_of segment_of later_fault
    obx₁ x = go (One (Must (OneOf Types))) (obx₀ x) (omega (arith, b.field)) t₁ refl

    type-read : Proper d → take w₁.head (drop w₁.start s) ≡ value_at d (segment Obx d s) 2 1
    unfolding places entry_for entries_from rule_of text_of piece_of segment_of part_of part_at seen_in seen_at letters_only all split onto bytes
    type-read p = value_read (OneOf Types) p (obx₀ unsaid) (omega (arith, b.field)) t₁ refl

    pub obx-3 : {e : FieldFault} → To d s 3 (Three (Must (Capitals 17)) (May (Text 48)) (Must (OneOf Jc10))) w₁ (Err e) → StopsIn d s e
    unfolding places entry_for entries_from rule_of text_of piece_of segment_of later_fault
    obx-3 q x = stop (Three (Must (Capitals 17)) (May (Text 48)) (Must (OneOf Jc10))) (obx₁ x) (omega (arith, t₁.numbered)) q refl

    module _ {w₂ : Walk} (t₂ : To d s 3 (Three (Must (Capitals 17)) (May (Text 48)) (Must (OneOf Jc10))) w₁ (Ok w₂)) where
      obx₂ : (x : Context) → Walked Obx d x s (drop 2 (places Obx)) w₂
      unfolding places entry_for entries_from rule_of text_of piece_of segment_of later_fault
      obx₂ x = go (Three (Must (Capitals 17)) (May (Text 48)) (Must (OneOf Jc10))) (obx₁ x) (omega (arith, t₁.numbered)) t₂ refl

      module _ (p : Proper d) (word : List ℕ) (e : word ≡ take w₁.head (drop w₁.start s)) where
        type-is : word ≡ value_at d (segment Obx d s) 2 1
        type-is = e ∙ type-read p

        pub obx-5 : (q : FieldFault) → Broken d s value_field (value_fault d word) w₂ q → StopsIn d s q
        unfolding places own_fault part_no part_of segment_of
        obx-5 q g x =
            stop-by (obx₂ x) (omega (arith, t₂.numbered)) (value_fault d word) refl (ap (λ t. value_fault d t (field_of d (as_known Obx (met s)) value_field)) (sym type-is)) g

        four_is : raw_four d word (value_after d s w₂) ≡ raw_four_of d (segment Obx d s)
        unfolding places segment_of part_of part_at
        four_is = rw (type-is, field-from {f = value_field} (obx₂ unsaid) (omega (arith, t₂.numbered)))

        valued : (w : Walk) (number parts : Bool) → ValueTo d s word w₂ w number parts → (x : Context) → Walked Obx d x s (drop 3 (places Obx)) w
        unfolding places own_fault part_no part_of segment_of later_fault
        valued w number parts v x =
            step (obx₂ x) (omega (arith, t₂.numbered)) (value_fault d word) refl (ap (λ t. value_fault d t (field_of d (as_known Obx (met s)) value_field)) (sym type-is)) v.passed refl

        pub obx-valued : (w : Walk) (number parts : Bool) → ValueTo d s word w₂ w number parts → ValuedAt d s w number parts
        obx-valued w number parts v = record {
          walked = valued w number parts v;
          filled = v.filled ∙ ap (λ c. L.filled c.value) four_is;
          beside = v.beside ∙ ap beside four_is;
          numbered = v.passed.numbered;
          part = v.passed.part;
          low = v.passed.low;
        }

-- ---- to its end
module _ {d : Delims} {s : List ℕ} {w₃ : Walk} {number parts : Bool} (v : ValuedAt d s w₃ number parts) where
  pub obx-6 : {e : FieldFault} {r : Result (Unit {0}) FieldFault} → To d s 6 (One (May (Text 20))) w₃ (Err e) → IsErrAnd r (λ y. y ≡ e) → (x : Context) → FoundIn Obx d x (met s) r
  unfolding places entry_for entries_from rule_of text_of piece_of segment_of later_fault
  obx-6 q h x = stop (One (May (Text 20))) (v.walked x) (omega (arith, v.numbered)) q h

  module _ {w₄ : Walk} (t₄ : To d s 6 (One (May (Text 20))) w₃ (Ok w₄)) where
    obx₄ : (x : Context) → Walked Obx d x s (drop 4 (places Obx)) w₄
    unfolding places entry_for entries_from rule_of text_of piece_of segment_of later_fault
    obx₄ x = go (One (May (Text 20))) (v.walked x) (omega (arith, v.numbered)) t₄ refl

    pub obx-8 : {e : FieldFault} {r : Result (Unit {0}) FieldFault} → To d s 8 (One (May (OneOf Flags))) w₄ (Err e) → IsErrAnd r (λ y. y ≡ e) → (x : Context) → FoundIn Obx d x (met s) r
    unfolding places entry_for entries_from rule_of text_of piece_of segment_of later_fault
    obx-8 q h x = stop (One (May (OneOf Flags))) (obx₄ x) (omega (arith, t₄.numbered)) q h

    module _ {w₅ : Walk} (t₅ : To d s 8 (One (May (OneOf Flags))) w₄ (Ok w₅)) where
      obx₅ : (x : Context) → Walked Obx d x s (drop 5 (places Obx)) w₅
      unfolding places entry_for entries_from rule_of text_of piece_of segment_of later_fault
      obx₅ x = go (One (May (OneOf Flags))) (obx₄ x) (omega (arith, t₄.numbered)) t₅ refl

      pub obx-11 : {e : FieldFault} {r : Result (Unit {0}) FieldFault} → To d s 11 (One (Must (OneOf Statuses))) w₅ (Err e) → IsErrAnd r (λ y. y ≡ e) → (x : Context) → FoundIn Obx d x (met s) r
      unfolding places entry_for entries_from rule_of text_of piece_of segment_of later_fault
      obx-11 q h x = stop (One (Must (OneOf Statuses))) (obx₅ x) (omega (arith, t₅.numbered)) q h

      module _ {w₆ : Walk} (t₆ : To d s 11 (One (Must (OneOf Statuses))) w₅ (Ok w₆)) (p : Proper d) (status : List ℕ) (q : Bool) (f : status ≡ take w₆.head (drop w₆.start s))
          (a : (c : Four (List ℕ)) → number ≡ L.filled c.value → parts ≡ beside c → q ≡ agrees status c) where
        status-is : status ≡ value_at d (segment Obx d s) 11 1
        unfolding places entry_for entries_from rule_of text_of segment_of part_of part_at seen_in seen_at letters_only all split onto bytes
        status-is = f ∙ value_read (OneOf Statuses) p (obx₅ unsaid) (omega (arith, t₅.numbered)) t₆ refl

        agreed : agrees (value_at d (segment Obx d s) 11 1) (raw_four_of d (segment Obx d s)) ≡ q
        agreed =
            let four : Four (List ℕ) = raw_four_of d (segment Obx d s) in
            sym (a four v.filled v.beside ∙ ap (λ t. agrees t four) status-is)

        pub obx-status : q ≡ false → (x : Context) → FoundIn {A = Unit {0}} Obx d x (met s) (Err (record { kind = Status; field = w₆.field }))
        unfolding places entry_for entries_from rule_of text_of later_fault segment_of
        obx-status h x = late (One (Must (OneOf Statuses))) (obx₅ x) (omega (arith, t₅.numbered)) Status t₆ (rw (agreed, h))

        pub obx-end : q ≡ true → (x : Context) → FoundIn {A = Unit {0}} Obx d x (met s) (Ok tt)
        unfolding places entry_for entries_from rule_of text_of later_fault segment_of
        obx-end h x = found (go (One (Must (OneOf Statuses))) (obx₅ x) (omega (arith, t₅.numbered)) t₆ (rw (agreed, h)))
