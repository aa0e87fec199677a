-- A table of places in a file: where a row with a number begins, by a hash of the number. A slot has two entries: the place, and the hash of the number
-- that stands there. A number has 256 slots that it may have, the first by its hash; it is kept in the first of them that is free.
use Rattle.std.specs.Prelude.{◌≡◌, Bool, true, false, cond, List, [], ◌∷◌, ℕ, zero, suc, ◌+◌, ◌*◌, ◌%◌, ◌<◌, eqb, ltb, length, get_or, set}
use Rattle.rules.specs.Lists.{same, any}
use Rattle.csv_rules.specs.Quote.{Items, FileLine}
use Rattle.csv_rules.specs.Columns.{number_of}
use Rattle.csv_rows.specs.Rows.{lines_from}
use Rattle.csv_places.specs.declared.Slot.{Slot}
use Rattle.csv_places.specs.declared.Slot.TheVariants.{Held, Free, Crowded}

-- the items of the first line from a place on
unfoldable pub items_at : List ℕ → ℕ → Items
items_at f p = elim (lines_from f p) [ [] ↦ [] | l ∷ ls ↦ l.items ]

-- ---- the hash of a number
unfoldable pub stirred : ℕ → ℕ → ℕ
stirred h b = ((h + b) * 2654435769) % 4294967296

unfoldable pub hash_from : ℕ → List ℕ → ℕ
hash_from h [] = h
hash_from h (b ∷ s) = hash_from (stirred h b) s

unfoldable pub hash_of : List ℕ → ℕ
hash_of s = hash_from 0 s

-- ---- the table: 32,768 slots of two entries. The place 0 is none, for the version line stands there.
abbrev pub place_in : List ℕ → ℕ → ℕ
place_in places i = get_or places (2 * i) 0

abbrev pub mark_in : List ℕ → ℕ → ℕ
mark_in places i = get_or places (2 * i + 1) 0

unfoldable pub slot_filled : List ℕ → ℕ → ℕ → ℕ → List ℕ
slot_filled places i p mark = set (set places (2 * i) p) (2 * i + 1) mark

-- the first slot of a number, and the one behind a slot
unfoldable pub slot_of : List ℕ → ℕ
slot_of s = hash_of s % 32768

unfoldable pub slot_after : ℕ → ℕ
slot_after i = cond (eqb i 32767) 0 (i + 1)

-- the places in n slots from one on, up to the first that is free
unfoldable pub kept : List ℕ → ℕ → ℕ → List ℕ
kept places i zero = []
kept places i (suc n) = elim (eqb (place_in places i) 0) [ true ↦ [] | false ↦ place_in places i ∷ kept places (slot_after i) n ]

-- a row with the number of r begins at p
abbrev pub number_at : List ℕ → Items → ℕ → Bool
number_at f r p = same (number_of r) (number_of (items_at f p))

-- the number of r is known
unfoldable pub known_number : List ℕ → List ℕ → Items → Bool
known_number f places r = any (number_at f r) (kept places (slot_of (number_of r)) 256)

-- a row begins at each place that is kept, and the mark beside it is the hash of its number
pub record RowThere (f : List ℕ) (p : ℕ) : Type 0 where
  pub row : FileLine
  pub others : List FileLine
  pub is : lines_from f p ≡ row ∷ others

pub record Places (f places : List ℕ) : Type 0 where
  pub many : length places ≡ 65536
  pub rows : (i : ℕ) → (place_in places i ≡ 0 → ⊥) → RowThere f (place_in places i)
  pub marks : (i : ℕ) → (place_in places i ≡ 0 → ⊥) → mark_in places i ≡ hash_of (number_of (items_at f (place_in places i)))

-- ---- what is kept of the number of r
-- p is a place in the table, and a row with the number begins there
pub record HeldAt (f places : List ℕ) (r : Items) (p : ℕ) : Type 0 where
  pub slot : ℕ
  pub is : place_in places slot ≡ p
  pub some : p ≡ 0 → ⊥
  pub number : number_at f r p ≡ true
  pub knows : known_number f places r ≡ true

-- i is free, and a place that is put there makes the number known
pub record FreeAt (f places : List ℕ) (r : Items) (i : ℕ) : Type 0 where
  pub place : i < 32768
  pub is : place_in places i ≡ 0
  pub unknown : known_number f places r ≡ false
  pub then : (p mark : ℕ) → (p ≡ 0 → ⊥) → number_at f r p ≡ true → known_number f (slot_filled places i p mark) r ≡ true

-- nothing, and the first slot that it may have is taken
pub record CrowdedAt (f places : List ℕ) (r : Items) : Type 0 where
  pub unknown : known_number f places r ≡ false
  pub taken : place_in places (slot_of (number_of r)) ≡ 0 → ⊥

unfoldable pub SlotIs : List ℕ → List ℕ → Items → Slot → Type 0
SlotIs f places r (Held p) = HeldAt f places r p
SlotIs f places r (Free i) = FreeAt f places r i
SlotIs f places r Crowded = CrowdedAt f places r

-- ---- a place kept, with the hash of its number: whether it is, and the table then. Places are kept below 4,294,967,296.
unfoldable pub keeps_place : Slot → ℕ → Bool
keeps_place (Held p) at = true
keeps_place (Free i) at = ltb at 4294967296
keeps_place Crowded at = false

unfoldable pub with_place : List ℕ → Slot → ℕ → ℕ → List ℕ
with_place places (Held p) at hash = places
with_place places (Free i) at hash = cond (ltb at 4294967296) (slot_filled places i at hash) places
with_place places Crowded at hash = places
