-- A row as it lies in the file has the keys, the number and the conversion of its items. Assumes nothing.
use mathlib.Core.Path.{◌≡◌, refl, ap, ◌∙◌}
use mathlib.Core.Bool.{Bool, true, ◌&&◌}
use mathlib.Core.List.{List, [], ◌∷◌, map}
use Prim.Native.Nat.{ℕ, zero, suc, ◌-◌, ◌<◌}
use native.Mathlib.Omega.{arith}
use borrow.Author.Tests.{leb-true}
use lib.Dec.{leb}
use lib.ListN.{length}
use Rattle.rules.specs.declared.Name.{Name}
use Rattle.rules.specs.declared.Name.TheVariants.{Msh, Pid, Pv1, Spm, Obr, Orc, Obx, Other}
use Rattle.rules.specs.Lists.{nth, all}
use Rattle.rules.proofs.Logic.{both}
use Rattle.rules.proofs.Lists.{all_cons, all_first}
use Rattle.csv_rules.specs.Quote.{Items}
use Rattle.csv_rules.specs.Kanji.{characters_at, characters, convertible}
use Rattle.csv_rules.specs.Columns.{How, text, up_to_blank, past_blank, fifteen, blank, coded, typed, family_of, given_of, fifteen_of, meaning_of, type_of, text_at, value_by, Entry, columns, keys, number_of}
use Rattle.csv_rules.specs.Raw.{raw_by, raw_keys}
use Rattle.csv_rows.specs.declared.RowItems.{RowItems}
use Rattle.csv_rows.specs.Rows.{items_of, Firsts}

-- ---- every column of the table is one of the 45
unfoldable reaches : How → ℕ → Bool
reaches text n = leb n 45
reaches up_to_blank n = leb n 45
reaches past_blank n = leb n 45
reaches fifteen n = leb n 45
reaches blank n = leb n 45
reaches (coded cs) n = leb n 45
reaches (typed v) n = leb v 45 && leb n 45

abbrev reached : Entry → Bool
reached e = reaches e.how e.column

table-reaches : (g : Name) → all reached (columns g) ≡ true
unfolding columns reaches all
table-reaches Msh = refl
table-reaches Pid = refl
table-reaches Pv1 = refl
table-reaches Spm = refl
table-reaches Obr = refl
table-reaches Orc = refl
table-reaches Obx = refl
table-reaches Other = refl

-- ---- two rows with equal items in the first 45 places
module _ (r q : Items) (s : (n : ℕ) → n < 45 → nth r n ≡ nth q n) where
  column-same : (n : ℕ) → leb n 45 ≡ true → nth r (n - 1) ≡ nth q (n - 1)
  column-same n h = s (n - 1) (omega (arith, leb-true n 45 h))

  raw_same : (h : How) (n : ℕ) → reaches h n ≡ true → raw_by h r n ≡ raw_by h q n
  unfolding raw_by reaches
  raw_same text n k = column-same n k
  raw_same up_to_blank n k = ap family_of (column-same n k)
  raw_same past_blank n k = ap given_of (column-same n k)
  raw_same fifteen n k = ap fifteen_of (column-same n k)
  raw_same blank n k = refl
  raw_same (coded cs) n k = ap (meaning_of cs) (column-same n k)
  raw_same (typed v) n k =
      let w = both (leb v 45) (leb n 45) k in
      ap (λ (x : List ℕ). type_of x (nth r (n - 1))) (column-same v w.0) ∙ ap (type_of (nth q (v - 1))) (column-same n w.1)

  text_same : (n : ℕ) → leb n 45 ≡ true → text_at r n ≡ text_at q n
  unfolding text_at
  text_same n h = rw (column-same n h)

  value_same : (h : How) (n : ℕ) → reaches h n ≡ true → value_by h r n ≡ value_by h q n
  unfolding value_by reaches
  value_same text n k = text_same n k
  value_same up_to_blank n k = ap family_of (text_same n k)
  value_same past_blank n k = ap given_of (text_same n k)
  value_same fifteen n k = ap fifteen_of (text_same n k)
  value_same blank n k = refl
  value_same (coded cs) n k = ap (meaning_of cs) (text_same n k)
  value_same (typed v) n k =
      let w = both (leb v 45) (leb n 45) k in
      ap (λ (x : List ℕ). type_of x (text_at r n)) (text_same v w.0) ∙ ap (type_of (text_at q v)) (text_same n w.1)

  map_same : (f : Items → How → ℕ → List ℕ) → ((h : How) (n : ℕ) → reaches h n ≡ true → f r h n ≡ f q h n)
      → (es : List Entry) → all reached es ≡ true
      → map (λ (e : Entry). f r e.how e.column) es ≡ map (λ (e : Entry). f q e.how e.column) es
  map_same f k [] h = refl
  map_same f k (e ∷ es) h =
      let w = all_first reached e es h in
      let x = k e.how e.column w.0 in
      let y = map_same f k es w.1 in
      rw (x, y)

  keys-same : (g : Name) → keys g r ≡ keys g q
  unfolding keys
  keys-same g = map_same (λ row h n. value_by h row n) value_same (columns g) (table-reaches g)

  raw-keys-same : (g : Name) → raw_keys g r ≡ raw_keys g q
  unfolding raw_keys
  raw-keys-same g = map_same (λ row h n. raw_by h row n) raw_same (columns g) (table-reaches g)

-- ---- a row as it lies in the file
convertible-none : convertible [] ≡ true
unfolding convertible characters characters_at all
convertible-none = refl

nth-converts : (items : Items) (n : ℕ) → all convertible items ≡ true → convertible (nth items n) ≡ true
nth-converts [] n h = convertible-none
nth-converts (x ∷ items) zero h = (all_first convertible x items h).0
nth-converts (x ∷ items) (suc n) h = nth-converts items n (all_first convertible x items h).1

each-converts : (items : Items) → ((n : ℕ) → n < length items → convertible (nth items n) ≡ true) → all convertible items ≡ true
unfolding all
each-converts [] c = refl
each-converts (x ∷ items) c = all_cons convertible x items ∙ rw (c 0 (omega arith), each-converts items (λ n h. c (suc n) (omega arith)))

module _ (r : RowItems) (items : Items) (p : Firsts r items) where
  pub tied-keys : (g : Name) → keys g (items_of r) ≡ keys g items
  tied-keys g = keys-same (items_of r) items p.each g

  pub tied-raw : (g : Name) → raw_keys g (items_of r) ≡ raw_keys g items
  tied-raw g = raw-keys-same (items_of r) items p.each g

  pub tied-number : number_of (items_of r) ≡ number_of items
  unfolding number_of
  tied-number = p.each 6 (omega arith)

  pub tied-converts : all convertible items ≡ true → all convertible (items_of r) ≡ true
  tied-converts h = each-converts (items_of r) (λ n k. rw (p.each n (omega (arith, p.size))) (nth-converts items n h))
