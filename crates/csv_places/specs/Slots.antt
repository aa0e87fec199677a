-- The table while it is used: empty, and where a free slot lies.
use Rattle.std.specs.Prelude.{◌≡◌, List, ℕ, get_or}
use Rattle.csv_places.specs.declared.Slot.{Slot}
use Rattle.csv_places.specs.declared.Slot.TheVariants.{Held, Free, Crowded}

-- no place is kept
pub record Nothing (places : List ℕ) : Type 0 where
  pub none : (i : ℕ) → get_or places i 0 ≡ 0

-- the slot that is told free; 0 where none is
unfoldable pub free_slot : Slot → ℕ
free_slot (Held p) = 0
free_slot (Free i) = i
free_slot Crowded = 0
