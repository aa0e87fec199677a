-- How the items of a row are found in the file, by the definitions' reader.
use Rattle.std.specs.Prelude.{◌≡◌, Bool, true, false, cond, ◌||◌, List, [], ◌∷◌, ◌++◌, map, ℕ, suc, ◌+◌, ◌≤◌, ◌<◌, eqb, ltb, length, take, drop, set}
use Rattle.std.specs.Borrow.{Bor}
use Rattle.rules.specs.Lists.{nth, all}
use Rattle.csv_rules.specs.Quote.{Comma, Quote, Items, Lines, end, broken, line, lines_at, cut, FileLine, lines_in}
use Rattle.csv_rules.specs.Written.{halved}
use Rattle.csv_rules.specs.Kanji.{convertible}
use Rattle.csv_rows.specs.declared.RowItems.{RowItems}

-- the lines from a place on
abbrev pub lines_from : List ℕ → ℕ → List FileLine
lines_from f at = lines_in (cut (drop at f))

-- how many bytes stand before the quote that closes an item: all where none does; true: a quote has just been read
unfoldable pub closing_at : Bool → List ℕ → ℕ
closing_at false [] = 0
closing_at true [] = 0
closing_at false (b ∷ s) = elim (eqb b 0x22) [ true ↦ closing_at true s | false ↦ suc (closing_at false s) ]
closing_at true (b ∷ s) = elim (eqb b 0x22) [ true ↦ suc (suc (closing_at false s)) | false ↦ 0 ]

unfoldable pub quote_first : List ℕ → Bool
quote_first [] = false
quote_first (b ∷ s) = eqb b 0x22

-- lines whose first has these items, and n bytes, before what is read of it next
unfoldable pub put_before : Items → ℕ → Lines → Lines
put_before is n end = broken
put_before is n broken = broken
put_before is n (line js m ls) = line (is ++ js) (m + n) ls

-- what is read after an item: more items, or else the other lines
unfoldable pub afterwards : Bool → List ℕ → Lines
afterwards true s = lines_at Comma s
afterwards false s = line [] 0 (cut s)

-- ---- the first 45 items of a row
-- the bytes of each, as they lie in the file
unfoldable pub raw_of : List (Bor (List ℕ)) → List (List ℕ)
raw_of slices = map (λ x. x.now) slices

abbrev pub raw_items : RowItems → List (List ℕ)
raw_items r = raw_of r.raw

-- the items
unfoldable pub items_of : RowItems → Items
items_of r = map (halved false) (raw_items r)

-- the n-th item noted, where it is one of the 45
unfoldable pub noted : ℕ → List ℕ → List (List ℕ) → List (List ℕ)
noted n w ts = cond (ltb n 45) (set ts n w) ts

-- some bytes lie in the file
pub record LiesIn (f w : List ℕ) : Type 0 where
  pub start : ℕ
  pub size : ℕ
  pub inside : start + size ≤ length f
  pub is : w ≡ take size (drop start f)

-- a row has the first 45 of some items; those that are missing are empty
pub record Firsts (r : RowItems) (items : Items) : Type 0 where
  pub size : length (items_of r) ≡ 45
  pub each : (n : ℕ) → n < 45 → nth (items_of r) n ≡ nth items n

-- ---- what the code finds
pub record BehindAt (f : List ℕ) (j size : ℕ) (goes : Bool) : Type 0 where
  pub is : lines_at Quote (drop j f) ≡ put_before ([] ∷ []) size (afterwards goes (drop (j + size) f))
  pub place : j + size ≤ length f

-- an item whose bytes are w
pub record ItemAt (f : List ℕ) (i : ℕ) (w : List ℕ) (size : ℕ) (goes : Bool) : Type 0 where
  pub is : lines_at Comma (drop i f) ≡ put_before (halved false w ∷ []) size (afterwards goes (drop (i + size) f))
  pub lies : LiesIn f w
  pub some : 2 ≤ size
  pub place : i + size ≤ length f

-- a row: the definitions' first line from a place on; good says whether each of its items converts, where it isn't known
pub record RowIs (f : List ℕ) (at : ℕ) (known : Bool) (r : RowItems) (size count : ℕ) (good : Bool) : Type 0 where
  pub items : Items
  pub is : cut (drop at f) ≡ line items size (cut (drop (at + size) f))
  pub counted : count ≡ length items
  pub converts : good ≡ (known || all convertible items)
  pub lies : Firsts r items
  pub within : (n : ℕ) → n < 45 → LiesIn f (nth (raw_items r) n)
  pub moves : 0 < size
  pub place : at + size ≤ length f
