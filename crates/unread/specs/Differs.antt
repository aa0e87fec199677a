-- Two messages that differ in nothing but "places that the profile doesn't read: segments of other names after the first, unread fields,
-- unread components of fields not listed as closed". Nothing is said of how one became the other, nor which is the newer.
use Rattle.std.specs.Prelude.{◌≡◌, true, false, List, [], ◌∷◌, ℕ, length}
use Rattle.rules.specs.declared.Delims.{Delims}
use Rattle.rules.specs.Lists.{split}
use Rattle.rules.specs.Frame.{delims_of, Known, known}
use Rattle.rules.specs.Places.{is_closed, unread_field, unread_component}
use Rattle.rules.specs.View.{field_of, first_repetition, component_of}

-- how many repetitions a field of a segment has; a component of its first
abbrev pub repetitions : Delims → Known → ℕ → ℕ
repetitions d k f = length (split d.repetition (field_of d k f))

abbrev pub component : Delims → Known → ℕ → ℕ → List ℕ
component d k f c = component_of d (first_repetition d (field_of d k f)) c

-- ---- two segments, field by field: what isn't named here is free, and so is where the segment stands
pub record SegmentDiffers (d : Delims) (k l : Known) : Type 0 where
  pub name : k.name ≡ l.name
  -- "each closed field stays as it was": MSH-1, MSH-2, MSH-18, PID-5, OBX-5
  pub closed : (f : ℕ) → is_closed k.name f ≡ true → field_of d k f ≡ field_of d l f
  -- "no repetition is added to or taken from a read field"
  pub repeated : (f : ℕ) → unread_field k.name f ≡ false → repetitions d k f ≡ repetitions d l f
  -- "every other read component .. stays as it was"; "missing and empty are the same"
  pub components : (f c : ℕ) → unread_component k.name f c ≡ false → component d k f c ≡ component d l f c

-- the segments of two lists pair up in order
pub data Paired (d : Delims) : List Known → List Known → Type 0 where
  none : Paired d [] []
  pair : {k l : Known} {ks ls : List Known} → SegmentDiffers d k l → Paired d ks ls → Paired d (k ∷ ks) (l ∷ ls)

-- ---- two messages: the same delimiters, and known segments that pair up; segments of other names are free
pub record Differs (m n : List ℕ) : Type 0 where
  pub delimiters : delims_of m ≡ delims_of n
  pub segments : Paired (delims_of m) (known m) (known n)
