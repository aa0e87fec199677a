-- How a row stands to the rows before it, as the code finds it: by the raw keys, and by the places that are kept of the numbers that were met.
use Rattle.std.specs.Prelude.{◌≡◌, Bool, true, false, cond, ◌&&◌, List, ℕ, ◌+◌, eqb, ltb}
use Rattle.rules.specs.declared.Name.TheVariants.{Pid, Pv1}
use Rattle.csv_rules.specs.Quote.{Items}
use Rattle.csv_rules.specs.Columns.{number_of}
use Rattle.csv_rules.specs.Sheets.{same_number}
use Rattle.csv_rules.specs.Raw.{raw_agree}
use Rattle.csv_places.specs.declared.Slot.{Slot}
use Rattle.csv_places.specs.declared.Slot.TheVariants.{Held, Free, Crowded}
use Rattle.csv_places.specs.Places.{items_at, hash_of, RowThere, SlotIs, keeps_place, with_place}
use Rattle.csv_repeats.specs.declared.Standing.{Standing}
use Rattle.csv_repeats.specs.declared.Standing.TheVariants.{Same, New, Back, Differs}

-- 53, of two rows of a number
abbrev pub same_header : Items → Items → Bool
same_header r q = raw_agree Pid r q && raw_agree Pv1 r q

-- ---- a row whose number isn't that of the row before, by what is kept of it
unfoldable pub looked_for : List ℕ → Items → Slot → Standing
looked_for f r (Held p) = cond (same_header r (items_at f p)) Back Differs
looked_for f r (Free i) = New
looked_for f r Crowded = New

-- a row begins at a place that is held
unfoldable pub HeldThere : List ℕ → Slot → Type 0
HeldThere f (Held p) = RowThere f p
HeldThere f (Free i) = Unit {0}
HeldThere f Crowded = Unit {0}

-- unkept is the place of the first row whose number isn't kept, 0 where every number is. Up to there a row's place is kept; from there on none is.
pub record Looked (f : List ℕ) (at : ℕ) (r : Items) (places : List ℕ) (unkept : ℕ) (s : Standing) (o : ℕ) (after : List ℕ) : Type 0 where
  pub slot : Slot
  pub slot_is : SlotIs f places r slot
  pub is : s ≡ looked_for f r slot
  pub table : after ≡ cond (eqb unkept 0) (with_place places slot at (hash_of (number_of r))) places
  pub unkept-is : o ≡ cond (eqb unkept 0) (cond (keeps_place slot at) 0 at) unkept

-- the row at a place
pub record Stands (f : List ℕ) (first at : ℕ) (before row : Items) (places : List ℕ) (unkept : ℕ) (s : Standing) (o : ℕ) (after : List ℕ) : Type 0 where
  pub same : (ltb first at && same_number before row) ≡ true
      → (s ≡ cond (same_header row before) Same Differs) × (o ≡ unkept) × (after ≡ places)
  pub other : (ltb first at && same_number before row) ≡ false → Looked f at row places unkept s o after

-- ---- what a standing says
abbrev pub is_differs : Standing → Bool
is_differs Same = false
is_differs New = false
is_differs Back = false
is_differs Differs = true

abbrev pub is_back : Standing → Bool
is_back Same = false
is_back New = false
is_back Back = true
is_back Differs = false

-- the runs that it begins
abbrev pub begun : Standing → ℕ
begun Same = 0
begun New = 1
begun Back = 1
begun Differs = 0

-- 53 and 54 with the row at a place, which is the k-th line, where none before it is found to differ; line is that of the first row whose number isn't
-- kept
pub record WithRow (f : List ℕ) (first at : ℕ) (before row : Items) (places : List ℕ) (unkept line k returns count : ℕ) (o m d r n : ℕ) (after : List ℕ) : Type 0 where
  pub standing : Standing
  pub stands : Stands f first at before row places unkept standing o after
  pub differs : d ≡ cond (is_differs standing) k 0
  pub back : r ≡ cond (eqb returns 0 && is_back standing) k returns
  pub runs : n ≡ count + begun standing
  pub line-is : m ≡ cond (eqb o unkept) line k
