-- The laws of codes and of a value's type, over items as they lie in the file. Assumes nothing.
use mathlib.Core.Path.{◌≡◌, refl, sym, ap, ◌∙◌}
use mathlib.Core.Bool.{Bool, true, false, not, ◌&&◌, ◌||◌}
use mathlib.Core.List.{List, [], ◌∷◌}
use Prim.Native.Nat.{ℕ, zero, suc, ◌+◌, ◌≤◌, ◌<◌}
use native.Mathlib.Omega.{arith}
use borrow.Author.Tests.{ne_eqb, leb-true}
use lib.Dec.{eqb, leb}
use lib.ListN.{length, get_or, drop}
use Rattle.std.specs.Borrow.{Bor}
use Rattle.rules.specs.Lists.{bytes, empty, nth, same, all}
use Rattle.rules.specs.Shift.{within}
use Rattle.rules.specs.Value.{numeric, fault, fits}
use Rattle.rules.proofs.Logic.{cases, both, never}
use Rattle.rules.proofs.Lists.{here, over, all_first, same-eq}
use Rattle.std.specs.Prelude.{is_ok}
use Rattle.std.specs.declared.result.Result.{Result}
use Rattle.rules.specs.declared.Kind.{Kind}
use Rattle.value.specs.declared.Rule.TheVariants.{Number}
use Rattle.value.specs.Rules.{fault_no, rule_of}
use Rattle.value.proofs.Laws.{fine-zero, fault-some}
use Rattle.csv_rules.specs.Written.{halved}
use Rattle.csv_rules.specs.Columns.{type_of}
use Rattle.csv_rules.proofs.Raw.{spelling, not-number}
use Rattle.csv_rows.specs.declared.RowItems.{RowItems}
use Rattle.csv_rows.specs.Rows.{raw_items, items_of}
use Rattle.csv_rows.proofs.Laws.{item-half}
use Rattle.csv_keys.specs.Keys.{KeyIs}
use Rattle.csv_keys.specs.Ways.{meaning_in, unquoted, is_plain}
use Rattle.csv_keys.proofs.Items.{all-halved, halved-plain, none_of, key-on}

-- ---- a word without a quote is the same in the file and read
pub same_word : (raw k : List ℕ) → all unquoted k ≡ true → same (halved false raw) k ≡ same raw k
same_word raw k h =
    cases (all unquoted raw) (λ e. ap (λ (x : List ℕ). same x k) (halved-plain unquoted refl raw e))
    (λ e. other (halved false raw) (all-halved unquoted refl raw ∙ e) ∙ sym (other raw e))
  where
    other : (x : List ℕ) → all unquoted x ≡ false → same x k ≡ false
    other x e = cases (same x k) (λ g. never (sym h ∙ ap (all unquoted) (sym (same-eq x k g)) ∙ e)) (λ g. g)

-- ---- a walk over a table of codes
module _ {A : Type 0} (p : A → Bool) where
  at-each : (cs : List A) (i : ℕ) (d : A) → all p cs ≡ true → i < length cs → p (get_or cs i d) ≡ true
  at-each [] i d h l = absurd (omega arith)
  at-each (c ∷ cs) zero d h l = (all_first p c cs h).0
  at-each (c ∷ cs) (suc i) d h l = at-each cs i d (all_first p c cs h).1 (omega arith)

module _ (cs : List (Bor (List ℕ) × Bor (List ℕ))) (raw lead r : List ℕ) (i : ℕ)
    (inv : meaning_in cs (halved false raw) ≡ meaning_in (drop i cs) (halved false raw)) where
  pub code-none : length cs ≤ i → KeyIs raw (halved false raw) lead r → KeyIs raw (meaning_in cs (halved false raw)) lead r
  unfolding meaning_in
  code-none h k =
      let z : halved false raw ≡ meaning_in cs (halved false raw) =
      sym (inv ∙ ap (λ (x : List (Bor (List ℕ) × Bor (List ℕ))). meaning_in x (halved false raw)) (over cs i h)) in
      rw z at k

  module _ (d : Bor (List ℕ) × Bor (List ℕ)) (fits : all is_plain cs ≡ true) (h : i < length cs) where
    -- the code is without a quote; the meaning is plain, and short
    fit : (all unquoted (get_or cs i d).0.now ≡ true) × ((all (λ (b : ℕ). within 0x20 0x7E b) (get_or cs i d).1.now ≡ true) × (leb (length (get_or cs i d).1.now) 15 ≡ true))
    fit =
        let p =
        both (all unquoted (get_or cs i d).0.now) (all (λ (b : ℕ). within 0x20 0x7E b) (get_or cs i d).1.now && leb (length (get_or cs i d).1.now) 15)
        (at-each is_plain cs i d fits h) in
        (p.0, both (all (λ (b : ℕ). within 0x20 0x7E b) (get_or cs i d).1.now) (leb (length (get_or cs i d).1.now) 15) p.1)

    pub code-plain : all (λ (b : ℕ). within 0x20 0x7E b) (get_or cs i d).1.now ≡ true
    code-plain = fit.1.0

    pub code-few : length (get_or cs i d).1.now ≤ 15
    code-few = leb-true (length (get_or cs i d).1.now) 15 fit.1.1

    module _ (t : Bool) (e : t ≡ same raw (get_or cs i d).0.now) where
      compared : same (halved false raw) (get_or cs i d).0.now ≡ t
      compared = same_word raw (get_or cs i d).0.now fit.0 ∙ sym e

      opened : meaning_in cs (halved false raw) ≡ meaning_in (get_or cs i d ∷ drop (i + 1) cs) (halved false raw)
      opened = inv ∙ ap (λ (x : List (Bor (List ℕ) × Bor (List ℕ))). meaning_in x (halved false raw)) (here d cs i h)

      pub code-met : t ≡ true → KeyIs [] (get_or cs i d).1.now lead r → KeyIs raw (meaning_in cs (halved false raw)) lead r
      unfolding meaning_in
      code-met g k =
          let z : (get_or cs i d).1.now ≡ meaning_in cs (halved false raw) = sym (opened ∙ rw (compared ∙ g, meaning_in)) in
          key-on (none_of raw) z k

      pub code-other : t ≡ false → meaning_in cs (halved false raw) ≡ meaning_in (drop (i + 1) cs) (halved false raw)
      unfolding meaning_in
      code-other g = opened ∙ rw (compared ∙ g, meaning_in)

-- ---- the type
empty-halved : (raw : List ℕ) → empty (halved false raw) ≡ eqb (length raw) 0
unfolding empty halved
empty-halved [] = refl
empty-halved (b ∷ s) = sym (ne_eqb (length (b ∷ s)) 0 (omega arith))

-- a text with a quote is no number, in the file and read
number-halved : (raw : List ℕ) → fits true numeric (halved false raw) ≡ fits true numeric raw
number-halved raw =
    cases (all spelling raw) (λ e. ap (fits true numeric) (halved-plain spelling refl raw e))
    (λ e. not-number (halved false raw) (all-halved spelling refl raw ∙ e) ∙ sym (not-number raw e))

module _ (row : RowItems) (form lead r : List ℕ) (b : Bool) (e : b ≡ same form (66 ∷ [])) where
  without : (empty (halved false form) || same (halved false form) (bytes "B")) ≡ not (not (eqb (length form) 0) && not b)
  unfolding bytes all
  without =
      rw (empty-halved form, same_word form (66 ∷ []) refl, ← e)
      (cases (eqb (length form) 0) (λ t. rw t) (λ t. rw t (cases b (λ u. rw u) (λ u. rw u))))

  pub kind-sn : (not (eqb (length form) 0) && not b) ≡ true → KeyIs [] (83 ∷ 78 ∷ []) lead r → KeyIs form (type_of (nth (items_of row) 34) (halved false form)) lead r
  unfolding type_of bytes
  kind-sn t k =
      let z : type_of (nth (items_of row) 34) (halved false form) ≡ 83 ∷ 78 ∷ [] = rw (without, t) in
      key-on (none_of form) (sym z) k

  module _ (t : (not (eqb (length form) 0) && not b) ≡ false) (raw : List ℕ) (o : raw ≡ nth (raw_items row) 34) {A : Type 0} (x : Result A Kind) (q : fault_no x ≡ fault true (rule_of Number) raw)
      (u : Bool) (g : u ≡ is_ok x) where
    number_is_lem : fits true numeric (nth (items_of row) 34) ≡ eqb (fault_no x) 0
    unfolding rule_of
    number_is_lem = ap (fits true numeric) (item-half row 34) ∙ number-halved (nth (raw_items row) 34) ∙ ap (fits true numeric) (sym o) ∙ ap (λ (k : ℕ). eqb k 0) (sym q)

    pub kind-nm : u ≡ true → KeyIs [] (78 ∷ 77 ∷ []) lead r → KeyIs form (type_of (nth (items_of row) 34) (halved false form)) lead r
    unfolding type_of bytes
    kind-nm v k =
        let z : type_of (nth (items_of row) 34) (halved false form) ≡ 78 ∷ 77 ∷ [] = rw (without, t, number_is_lem, fine-zero x (sym g ∙ v)) in
        key-on (none_of form) (sym z) k

    pub kind-st : u ≡ false → KeyIs [] (83 ∷ 84 ∷ []) lead r → KeyIs form (type_of (nth (items_of row) 34) (halved false form)) lead r
    unfolding type_of bytes
    kind-st v k =
        let d : eqb (fault_no x) 0 ≡ false = ne_eqb (fault_no x) 0 (omega (arith, fault-some x (sym g ∙ v))) in
        let z : type_of (nth (items_of row) 34) (halved false form) ≡ 83 ∷ 84 ∷ [] = rw (without, t, number_is_lem, d) in
        key-on (none_of form) (sym z) k
