-- Laws of the closed fields. Assumes nothing.
use Prim.Native.Nat.{ℕ, zero, suc, ◌+◌, ◌-◌, ◌≤◌, ◌<◌}
use native.Mathlib.Omega.{arith}
use native.Mathlib.Numerals.{add-one}
use mathlib.Core.Path.{◌≡◌, refl, sym, ap, ◌∙◌}
use mathlib.Core.Bool.{Bool, true, false, cond, ◌&&◌}
use mathlib.Core.List.{List, [], ◌∷◌}
use mathlib.Core.Option.{Option, none, some}
use lib.Dec.{eqb}
use lib.ListN.{length, get_or, take, drop, length-drop}
use lib.Seq.{drop-drop}
use Rattle.rules.specs.declared.Delims.{Delims}
use Rattle.rules.specs.declared.Mode.TheVariants.{One}
use Rattle.rules.specs.declared.Kind.TheVariants.{Value}
use Rattle.rules.specs.Told.{◌then◌, number}
use Rattle.rules.specs.Lists.{bytes, empty, or_empty, same, all, has, split}
use Rattle.rules.specs.Shift.{is_one, mark, marks, met, within}
use Rattle.rules.specs.Proper.{Proper}
use Rattle.rules.specs.Value as Val
use Rattle.rules.specs.Escape.{unescape, unescape_at}
use Rattle.rules.specs.View.{component_of}
use Rattle.rules.specs.Judge.{judge, fault_or23, first_marked, kanji, kana, name_fault, marked_fault, names_fault}
use Rattle.rules.proofs.Logic.{cases, then-zero}
use Rattle.rules.proofs.Lists.{here, over, rest-is, rest-shorter, empty-zero, filled-some, all_cons}
use Rattle.rules.proofs.Split.{split-nil, split-none}
use Rattle.rules.proofs.Modes.{length-marks}
use Rattle.rules.proofs.Clean.{same_met}
use Rattle.rules.proofs.Header.{delim-within}
use Rattle.plain_bytes.specs.Bytes.{until, is_byte}
use Rattle.scan.specs.Scan.{ends, after_sep, next, CutOf, TailOf}
use Rattle.scan.proofs.Laws.{piece-met}
use Rattle.value.specs.Rules.{fault_no, rule_of}
use Rattle.value.specs.declared.Rule.TheVariants.{Text}
use Rattle.value.specs.declared.Place.TheVariants.{Must, May}
use Rattle.components.specs.Components.{ends_repetition, field_at, repetition_at, forward, place_fault, JudgedOf}
use Rattle.components.proofs.Laws.{head-met}
use Rattle.closed.specs.Closed.{ClosedOf, charset_fault, MarkedOf}
use Rattle.components.proofs.Pieces.{after_free, after_none, after-short, component-at, forward-next, repetition-is, split_after, until-free, until_none}

-- ---- general
same-one : (s : List ℕ) (b : ℕ) → same (met s) (b ∷ []) ≡ same s (b ∷ [])
unfolding met marks same mark is_one
same-one [] b = refl
same-one (a ∷ []) b = refl
same-one (a ∷ c ∷ s) b = cases (eqb a b) (λ e. cc) (λ e. cc)

-- ---- the field at the start of t, by itself
module _ (t : List ℕ) (d : Delims) (n : ℕ) (more : Bool) (e : TailOf d (met t) n more) where
  field-met : met (take n t) ≡ field_at d t
  field-met = ap (λ k. met (take k t)) e.long ∙ piece-met (is_byte d.field) t

  pub field-free : has d.field (met (take n t)) ≡ false
  field-free = ap (has d.field) field-met ∙ until-free d.field (met t)

-- ---- components
pub step-on : (d : Delims) (n : ℕ) (m r q : List ℕ) → r ≡ forward d n m → q ≡ next d r → q ≡ forward d (n + 1) m
step-on d n m r q h e = e ∙ ap (next d) h ∙ sym (forward-next d n m) ∙ ap (λ k. forward d k m) (sym (add-one n))

pub all-steps : (d : Delims) (n k : ℕ) (m r : List ℕ) → r ≡ forward d k m → k ≤ n → n ≤ k → r ≡ forward d n m
all-steps d n k m r h a b = let e : k ≡ n = omega arith in h ∙ ap (λ i. forward d i m) e

pub led-none : (s : List ℕ) (b : ℕ) (w : List ℕ) → length s ≡ 0 → false ≡ same s (b ∷ w)
unfolding same
led-none [] b w h = refl
led-none (a ∷ s) b w h = absurd (omega arith)

pub led-some : (s : List ℕ) (b : ℕ) (w : List ℕ) (y : Bool) → (length s ≡ 0 → ⊥) → y ≡ same (take (length s - 1) (drop 1 s)) w → (eqb (get_or s 0 0) b && y) ≡ same s (b ∷ w)
unfolding same
led-some [] b w y h e = absurd (h refl)
led-some (a ∷ s) b w y h e = let q = rest-is (a ∷ s) 1 in cases (eqb a b) (λ f. cc) (λ f. cc)

-- ---- MSH-18
abbrev iso_ir87 : List ℕ
iso_ir87 = 73 ∷ 83 ∷ 79 ∷ 32 ∷ 73 ∷ 82 ∷ 56 ∷ 55 ∷ []

module _ (t : List ℕ) (d : Delims) (n : ℕ) (more y : Bool) (p : Proper d) (e : TailOf d (met t) n more) (g : y ≡ same (take n t) (d.repetition ∷ iso_ir87)) where
  charset-same : same (field_at d t) (d.repetition ∷ bytes "ISO IR87") ≡ y
  unfolding bytes all
  charset-same =
      ap (λ l. same l (d.repetition ∷ iso_ir87)) (sym (field-met t d n more e))
      ∙ same_met (take n t) (d.repetition ∷ iso_ir87) (all_cons (within 0x20 0x7E) d.repetition iso_ir87 ∙ rw (delim-within d.repetition p.repetition))
      ∙ sym g

  pub charset-right : y ≡ true → ClosedOf (charset_fault d) (field_at d t) 0 n
  unfolding charset_fault
  charset-right h = record { told = cc (charset-same); long = e.long }

  pub charset-wrong : y ≡ false → ClosedOf (charset_fault d) (field_at d t) (number Value) n
  unfolding charset_fault
  charset-wrong h = record { told = cc (charset-same); long = e.long }

-- ---- PID-5
pub marked-is : (t u : List ℕ) (d : Delims) (mark n : ℕ) (clean y : Bool) → Proper d → met u ≡ forward d 7 (met t) → CutOf d u n clean
    → y ≡ same (take n u) (mark ∷ []) → y ≡ same (component_of d (repetition_at d t) 8) (mark ∷ [])
unfolding component_of
marked-is t u d mark n clean y p e c h =
    h ∙ sym (same-one (take n u) mark) ∙ ap (λ l. same l (mark ∷ [])) (head-met d u n clean c ∙ ap (until (ends d)) e ∙ sym (component-at d p 7 (met t)))

-- a marked repetition is never empty: component 8 is its mark
marked-filled : (d : Delims) (mark : ℕ) (r : List ℕ) → same (component_of d r 8) (mark ∷ []) ≡ true → empty r ≡ false
unfolding component_of split same empty
marked-filled d mark [] h = cc
marked-filled d mark (b ∷ r) h = refl

-- the first is marked, or the first of the others is looked for
first_step : (d : Delims) (w r : List ℕ) (rs : List (List ℕ)) → first_marked d w (r ∷ rs) ≡ cond (same (component_of d r 8) w) (some r) (first_marked d w rs)
unfolding first_marked
first_step d w r rs = cases (same (component_of d r 8) w) (λ e. rw (e, first_marked)) (λ e. rw (e, first_marked))

-- so an empty text tells that none is marked
pub marked-or-none : (d : Delims) (mark : ℕ) (rs : List (List ℕ))
    → first_marked d (mark ∷ []) rs
    ≡ cond (empty (or_empty (first_marked d (mark ∷ []) rs))) none (some (or_empty (first_marked d (mark ∷ []) rs)))
unfolding or_empty empty
marked-or-none d mark [] = unfold first_marked in refl
marked-or-none d mark (r ∷ rs) =
    cases (same (component_of d r 8) (mark ∷ []))
    (λ e. rw (first_step d (mark ∷ []) r rs, e, marked-filled d mark r e))
    (λ e. rw (first_step d (mark ∷ []) r rs, e) (marked-or-none d mark rs))

none-marked : (d : Delims) (mark : ℕ) → first_marked d (mark ∷ []) ([] ∷ []) ≡ none
unfolding first_marked component_of split same
none-marked d mark = refl

-- the first repetition of a text, or the first of the others
first-marked : (d : Delims) (mark : ℕ) (m : List ℕ) → first_marked d (mark ∷ []) (split d.repetition m)
    ≡ cond (same (component_of d (until (is_byte d.repetition) m) 8) (mark ∷ [])) (some (until (is_byte d.repetition) m))
    (first_marked d (mark ∷ []) (split d.repetition (after_sep d.repetition m)))
unfolding first_marked
first-marked d mark m =
    cases (has d.repetition m)
    (λ h. rw (split_after d.repetition m h) (first_step d (mark ∷ []) (until (is_byte d.repetition) m) (split d.repetition (after_sep d.repetition m))))
    (λ h. rw (split-none d.repetition m h, until_none d.repetition m h, after_none d.repetition m h, split-nil d.repetition, none-marked d mark) (first_step d (mark ∷ []) m []))

-- in a text without field separators a repetition ends at a repetition separator alone
repetition-only : (d : Delims) (m : List ℕ) → has d.field m ≡ false → until (ends_repetition d) m ≡ until (is_byte d.repetition) m
repetition-only d m h = sym (repetition-is d m) ∙ ap (until (is_byte d.repetition)) (until_none d.field m h)

abbrev pub Looking : Delims → ℕ → List ℕ → ℕ → Type 0
Looking d mark f at =
    (has d.field (met (drop at f)) ≡ false)
    × (first_marked d (mark ∷ []) (split d.repetition (met f)) ≡ first_marked d (mark ∷ []) (split d.repetition (met (drop at f))))

pub looking-starts : (d : Delims) (mark : ℕ) (f : List ℕ) → has d.field (met f) ≡ false → Looking d mark f 0
looking-starts d mark f h = (h, refl)

module _ (d : Delims) (mark : ℕ) (f : List ℕ) (at : ℕ) (look : Looking d mark f at) where
  module _ (y : Bool) (h : at < length f) (e : y ≡ same (component_of d (repetition_at d (take (length f - at) (drop at f))) 8) (mark ∷ [])) where
    marked-here : y ≡ same (component_of d (until (is_byte d.repetition) (met (drop at f))) 8) (mark ∷ [])
    marked-here = e ∙ ap (λ l. same (component_of d l 8) (mark ∷ [])) (ap (repetition_at d) (rest-is f at) ∙ repetition-only d (met (drop at f)) look.0)

    pub looking-finds : y ≡ true → MarkedOf d mark (met f) (take (length f - at) (drop at f))
    unfolding empty or_empty
    looking-finds g = record {
      told = ap (repetition_at d) (rest-is f at) ∙ repetition-only d (met (drop at f)) look.0
          ∙ sym (ap or_empty (look.1 ∙ first-marked d mark (met (drop at f))) ∙ rw (sym marked-here ∙ g));
      found = marked-filled d mark (repetition_at d (take (length f - at) (drop at f))) (sym e ∙ g) ∙ sym (rw (rest-is f at, here 0 f at h));
    }

    pub looking-on : (k : ℕ) → y ≡ false → met (drop k (take (length f - at) (drop at f))) ≡ after_sep d.repetition (met (take (length f - at) (drop at f))) → Looking d mark f (at + k)
    looking-on k g q =
        let z : met (drop (at + k) f) ≡ after_sep d.repetition (met (drop at f)) = rw (rest-is f at, drop-drop) at q in (
          ap (has d.field) z ∙ after_free d.repetition d.field (met (drop at f)) look.0,
          look.1 ∙ first-marked d mark (met (drop at f)) ∙ rw (sym marked-here ∙ g, z),
        )

  pub looking-ends : length f ≤ at → MarkedOf d mark (met f) (take (length f - at) (drop at f))
  unfolding until met marks empty or_empty
  looking-ends h =
      let q : take (length f - at) (drop at f) ≡ [] = rest-is f at ∙ over f at h in
      let z : first_marked d (mark ∷ []) (split d.repetition (met f)) ≡ none
      = look.1 ∙ rw (over f at h, split-nil d.repetition) (none-marked d mark) in
      rw q (record { told = sym (ap or_empty z); found = refl })

-- the search goes on, within the field
module _ (d : Delims) (f : List ℕ) (at k : ℕ) where
  pub past-less : at < length f → met (drop k (take (length f - at) (drop at f))) ≡ after_sep d.repetition (met (take (length f - at) (drop at f))) → length f - (at + k) < length f - at
  unfolding met
  past-less h e =
      let r : List ℕ = take (length f - at) (drop at f) in
      let l : length r ≡ length f - at = ap length (rest-is f at) ∙ length-drop at f in
      let m : length (met r) ≡ length r = length-marks 0x0D One r in
      let w : length (met (drop k r)) ≡ length r - k = length-marks 0x0D One (drop k r) ∙ length-drop k r in
      omega (arith, l, m, w, ap length e, after-short d.repetition (met r) (omega arith))

pub rest-fits : (f : List ℕ) (at : ℕ) → length (take (length f - at) (drop at f)) ≤ length f
rest-fits f at = rest-shorter f at (length f) (omega arith)

pub name-is : (t rest : List ℕ) (d : Delims) (f g r n k : ℕ) → Proper d → JudgedOf d (Must (Text 48)) t f n → met rest ≡ next d (met t)
    → JudgedOf d (May (Text 48)) rest g k → r ≡ (f then g) → r ≡ name_fault d (repetition_at d t)
unfolding name_fault component_of rule_of forward place_fault
name-is t rest d f g r n k p a e b er = cc (a.told, b.told, component-at d p 0 (met t), component-at d p 1 (met t))

-- the kanji name: where none is marked, 20, as an empty repetition gives it
kanji-or : (d : Delims) (o : Option (List ℕ)) → marked_fault d 20 o ≡ name_fault d (or_empty o)
unfolding marked_fault or_empty name_fault judge same bytes unescape unescape_at fault_or23 Val.fault empty component_of split
kanji-or d none = refl
kanji-or d (some r) = refl

-- the kana name: nothing where none is marked
kana-or : (d : Delims) (mark : ℕ) (rs : List (List ℕ))
    → marked_fault d 0 (first_marked d (mark ∷ []) rs) ≡ cond (empty (or_empty (first_marked d (mark ∷ []) rs))) 0 (name_fault d (or_empty (first_marked d (mark ∷ []) rs)))
unfolding marked_fault
kana-or d mark rs =
    ap (marked_fault d 0) (marked-or-none d mark rs)
    ∙ cases (empty (or_empty (first_marked d (mark ∷ []) rs))) (λ e. rw e) (λ e. rw e)

module _ (f first second : List ℕ) (d : Delims) (a : ℕ) (m : MarkedOf d 73 (met f) first) (e : a ≡ name_fault d (repetition_at d first)) (w : MarkedOf d 80 (met f) second) where
  kanji-is : marked_fault d 20 (kanji d (met f)) ≡ a
  unfolding bytes
  kanji-is = kanji-or d (kanji d (met f)) ∙ ap (name_fault d) (sym m.told) ∙ sym e

  kana-is : marked_fault d 0 (kana d (met f)) ≡ cond (empty second) 0 (name_fault d (repetition_at d second))
  unfolding bytes
  kana-is = kana-or d 80 (split d.repetition (met f)) ∙ rw (← w.told, w.found)

  pub kanji-alone : length second ≡ 0 → a ≡ names_fault d (met f)
  unfolding names_fault
  kanji-alone h = cc (kanji-is, kana-is, empty-zero second h, then-zero a)

  pub kanji-kana : (b r : ℕ) → (length second ≡ 0 → ⊥) → b ≡ name_fault d (repetition_at d second) → r ≡ (a then b) → r ≡ names_fault d (met f)
  unfolding names_fault
  kanji-kana b r h eb er = cc (kanji-is, kana-is, filled-some second h)

pub names-are : (t : List ℕ) (d : Delims) (n : ℕ) (more : Bool) (f : ℕ) → TailOf d (met t) n more → f ≡ names_fault d (met (take n t)) → ClosedOf (names_fault d) (field_at d t) f n
names-are t d n more f e h = record { told = h ∙ ap (names_fault d) (field-met t d n more e); long = e.long }
