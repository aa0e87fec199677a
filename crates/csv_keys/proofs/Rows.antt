-- The laws of a row's keys. Assumes nothing.
use mathlib.Core.Path.{◌≡◌, refl, sym, ap, ◌∙◌}
use mathlib.Core.Bool.{Bool, true, false, ◌&&◌}
use mathlib.Core.List.{List}
use Prim.Native.Nat.{ℕ, ◌-◌}
use Rattle.rules.specs.declared.Name.TheVariants.{Pid, Pv1, Spm, Obr}
use Rattle.rules.specs.Lists.{nth, same}
use Rattle.rules.proofs.Logic.{never, and-true}
use Rattle.rules.proofs.Lists.{same-eq, same_self}
use Rattle.csv_rules.specs.Written.{halved}
use Rattle.csv_rules.specs.Quote.{Items}
use Rattle.csv_rules.specs.Columns as Columns
use Rattle.csv_rules.specs.Columns.{family_of, given_of, fifteen_of, meaning_of, type_of, sexes, classes, forms, columns, number_of}
use Rattle.csv_rules.specs.Sheets.{same_texts}
use Rattle.csv_rules.specs.Raw.{raw_by, raw_keys, raw_agree}
use Rattle.csv_rows.specs.declared.RowItems.{RowItems}
use Rattle.csv_rows.specs.Rows.{raw_items, items_of}
use Rattle.csv_rows.proofs.Laws.{item-half}
use Rattle.csv_keys.specs.declared.How.{How}
use Rattle.csv_keys.specs.declared.How.TheVariants.{Text, UpToBlank, PastBlank, Fifteen, Sex, Class, Form, ValueType}
use Rattle.csv_keys.specs.Keys.{how_of, raw_value, KeyIs}
use Rattle.csv_keys.specs.Ways.{by_column}

-- ---- a column's key
module _ (row : RowItems) (lead r raw : List ℕ) (column : ℕ) (e : raw ≡ nth (raw_items row) (column - 1)) where
  read : nth (items_of row) (column - 1) ≡ halved false raw
  read = item-half row (column - 1) ∙ ap (halved false) (sym e)

  module _ (how : How) where
    pub text_at_lem : how ≡ Text → KeyIs raw (halved false raw) lead r → KeyIs (nth (raw_items row) (column - 1)) (raw_by (how_of how) (items_of row) column) lead r
    unfolding raw_by how_of
    text_at_lem h k = rw (h, read, ← e) k

    pub family-at : how ≡ UpToBlank → KeyIs raw (family_of (halved false raw)) lead r → KeyIs (nth (raw_items row) (column - 1)) (raw_by (how_of how) (items_of row) column) lead r
    unfolding raw_by how_of
    family-at h k = rw (h, read, ← e) k

    pub given-at : how ≡ PastBlank → KeyIs raw (given_of (halved false raw)) lead r → KeyIs (nth (raw_items row) (column - 1)) (raw_by (how_of how) (items_of row) column) lead r
    unfolding raw_by how_of
    given-at h k = rw (h, read, ← e) k

    pub fifteen-at : how ≡ Fifteen → KeyIs raw (fifteen_of (halved false raw)) lead r → KeyIs (nth (raw_items row) (column - 1)) (raw_by (how_of how) (items_of row) column) lead r
    unfolding raw_by how_of
    fifteen-at h k = rw (h, read, ← e) k

    pub sex-at : how ≡ Sex → KeyIs raw (meaning_of sexes (halved false raw)) lead r → KeyIs (nth (raw_items row) (column - 1)) (raw_by (how_of how) (items_of row) column) lead r
    unfolding raw_by how_of
    sex-at h k = rw (h, read, ← e) k

    pub class-at : how ≡ Class → KeyIs raw (meaning_of classes (halved false raw)) lead r → KeyIs (nth (raw_items row) (column - 1)) (raw_by (how_of how) (items_of row) column) lead r
    unfolding raw_by how_of
    class-at h k = rw (h, read, ← e) k

    pub form-at : how ≡ Form → KeyIs raw (meaning_of forms (halved false raw)) lead r → KeyIs (nth (raw_items row) (column - 1)) (raw_by (how_of how) (items_of row) column) lead r
    unfolding raw_by how_of
    form-at h k = rw (h, read, ← e) k

    pub kind_at : how ≡ ValueType → KeyIs raw (type_of (nth (items_of row) 34) (halved false raw)) lead r → KeyIs (nth (raw_items row) (column - 1)) (raw_by (how_of how) (items_of row) column) lead r
    unfolding raw_by how_of
    kind_at h k = rw (h, read, ← e) k

-- ---- two rows
-- a key that its column alone feeds
one-column : (how : How) (r q : Items) (column : ℕ) → by_column how ≡ true → nth r (column - 1) ≡ nth q (column - 1) → raw_by (how_of how) r column ≡ raw_by (how_of how) q column
unfolding raw_by how_of
one-column Text r q column h e = e
one-column UpToBlank r q column h e = ap family_of e
one-column PastBlank r q column h e = ap given_of e
one-column Fifteen r q column h e = ap fifteen_of e
one-column Sex r q column h e = ap (meaning_of sexes) e
one-column Class r q column h e = ap (meaning_of classes) e
one-column Form r q column h e = ap (meaning_of forms) e
one-column ValueType r q column h e = never (sym h)

module _ (a b : RowItems) (how : How) (column : ℕ) where
  pub same-items : (x y : List ℕ) (t : Bool) → by_column how ≡ true → x ≡ nth (raw_items a) (column - 1) → y ≡ nth (raw_items b) (column - 1)
      → t ≡ same x y → t ≡ true
      → true ≡ same (raw_by (how_of how) (items_of a) column) (raw_by (how_of how) (items_of b) column)
  same-items x y t h ex ey e g =
      let z : nth (items_of a) (column - 1) ≡ nth (items_of b) (column - 1) =
      item-half a (column - 1) ∙ ap (halved false) (sym ex ∙ same-eq x y (sym e ∙ g) ∙ ey) ∙ sym (item-half b (column - 1)) in
      sym (ap (λ (w : List ℕ). same w (raw_by (how_of how) (items_of b) column)) (one-column how (items_of a) (items_of b) column h z)
      ∙ same_self (raw_by (how_of how) (items_of b) column))

pub same_keys_lem : (x y v w la ra lb rb : List ℕ) (t : Bool) → KeyIs x v la ra → KeyIs y w lb rb → t ≡ same (raw_value la ra) (raw_value lb rb) → t ≡ same v w
same_keys_lem x y v w la ra lb rb t p q e = rw (← p.is, ← q.is) e

-- ---- the columns of each group
-- what the code finds of a column is whether its keys are the same
module _ (r q : Items) where
  pub number_is_lem : (t : Bool) → t ≡ same (raw_by (how_of Text) r 7) (raw_by (how_of Text) q 7) → t ≡ same (number_of r) (number_of q)
  unfolding raw_by how_of number_of
  number_is_lem t e = e

  pub name-is : (column : ℕ) (t u : Bool) → t ≡ same (raw_by (how_of UpToBlank) r column) (raw_by (how_of UpToBlank) q column)
      → u ≡ same (raw_by (how_of PastBlank) r column) (raw_by (how_of PastBlank) q column)
      → (t && u) ≡ (same (raw_by Columns.up_to_blank r column) (raw_by Columns.up_to_blank q column) && same (raw_by Columns.past_blank r column) (raw_by Columns.past_blank q column))
  unfolding how_of
  name-is column t u e g = rw (e, g)

  pub specimen-is : (t u : Bool) → t ≡ same (raw_by (how_of Text) r 25) (raw_by (how_of Text) q 25) → u ≡ same (raw_by (how_of Text) r 24) (raw_by (how_of Text) q 24)
      → (t && u) ≡ raw_agree Spm r q
  unfolding raw_keys columns same_texts how_of
  specimen-is t u e g = rw (← e, ← g, and-true u)

  pub order_is : (t u : Bool) → t ≡ same (raw_by (how_of Fifteen) r 20) (raw_by (how_of Fifteen) q 20) → u ≡ same (raw_by (how_of Text) r 30) (raw_by (how_of Text) q 30)
      → (t && u) ≡ raw_agree Obr r q
  unfolding raw_keys columns same_texts how_of
  order_is t u e g = rw (← e, ← g, and-true u)

  class-is : (u : Bool) → u ≡ same (raw_by (how_of Class) r 21) (raw_by (how_of Class) q 21) → u ≡ raw_agree Pv1 r q
  unfolding raw_keys columns same_texts how_of
  class-is u g = rw (← g, and-true u)

  pub header_is : (t u : Bool) → t ≡ raw_agree Pid r q → u ≡ same (raw_by (how_of Class) r 21) (raw_by (how_of Class) q 21) → (t && u) ≡ (raw_agree Pid r q && raw_agree Pv1 r q)
  header_is t u e g = ap (λ (x : Bool). x && u) e ∙ ap (λ (x : Bool). raw_agree Pid r q && x) (class-is u g)

  -- the seven keys of a patient, as the code compares them: the halves of a name together
  seven : (a b c d e f g : Bool) → ((((a && (b && c)) && (d && e)) && f) && g) ≡ (a && (b && (c && (d && (e && (f && (g && true)))))))
  seven false b c d e f g = refl
  seven true false c d e f g = refl
  seven true true false d e f g = refl
  seven true true true false e f g = refl
  seven true true true true false f g = refl
  seven true true true true true false g = refl
  seven true true true true true true g = sym (and-true g)

  pub patient-is : (a b c d e : Bool) → a ≡ same (raw_by (how_of Text) r 8) (raw_by (how_of Text) q 8)
      → b ≡ (same (raw_by Columns.up_to_blank r 9) (raw_by Columns.up_to_blank q 9) && same (raw_by Columns.past_blank r 9) (raw_by Columns.past_blank q 9))
      → c ≡ (same (raw_by Columns.up_to_blank r 10) (raw_by Columns.up_to_blank q 10) && same (raw_by Columns.past_blank r 10) (raw_by Columns.past_blank q 10))
      → d ≡ same (raw_by (how_of Text) r 11) (raw_by (how_of Text) q 11) → e ≡ same (raw_by (how_of Sex) r 12) (raw_by (how_of Sex) q 12)
      → ((((a && b) && c) && d) && e) ≡ raw_agree Pid r q
  unfolding raw_keys columns same_texts how_of
  patient-is a b c d e ea eb ec ed ee =
      rw (ea, eb, ec, ed, ee)
      (seven (same (raw_by Columns.text r 8) (raw_by Columns.text q 8)) (same (raw_by Columns.up_to_blank r 9) (raw_by Columns.up_to_blank q 9))
      (same (raw_by Columns.past_blank r 9) (raw_by Columns.past_blank q 9)) (same (raw_by Columns.up_to_blank r 10) (raw_by Columns.up_to_blank q 10))
      (same (raw_by Columns.past_blank r 10) (raw_by Columns.past_blank q 10)) (same (raw_by Columns.text r 11) (raw_by Columns.text q 11))
      (same (raw_by (Columns.coded sexes) r 12) (raw_by (Columns.coded sexes) q 12)))
