-- What the first components of a field are told, each of the text from its start on.
use Rattle.std.specs.Prelude.{◌≡◌, Bool, true, false, ◌||◌, List, [], ◌∷◌, map, ℕ, zero, suc, eqb, length, take}
use Rattle.rules.specs.declared.Delims.{Delims}
use Rattle.rules.specs.Told.{◌then◌}
use Rattle.rules.specs.Lists.{has}
use Rattle.rules.specs.Shift.{met, byte_of}
use Rattle.rules.specs.Judge.{judge}
use Rattle.plain_bytes.specs.Bytes.{until, is_byte}
use Rattle.scan.specs.Scan.{ends, next}
use Rattle.value.specs.Rules.{rule_of}
use Rattle.value.specs.declared.Place.{Place}
use Rattle.value.specs.declared.Place.TheVariants.{Unread, Must, May}
use Rattle.judge.specs.Judge.{Small}

-- ---- at the start of a text
-- where a repetition ends
abbrev pub ends_repetition : Delims → ℕ → Bool
ends_repetition d b = eqb b d.field || eqb b d.repetition

-- the field at the start of t, the repetition and the component, as their bytes are met
abbrev pub field_at : Delims → List ℕ → List ℕ
field_at d t = until (is_byte d.field) (met t)

abbrev pub repetition_at : Delims → List ℕ → List ℕ
repetition_at d t = until (ends_repetition d) (met t)

abbrev pub component_at : Delims → List ℕ → List ℕ
component_at d t = until (ends d) (met t)

-- from the n-th next component on, in the repetition at the start
unfoldable pub forward : Delims → ℕ → List ℕ → List ℕ
forward d zero m = m
forward d (suc n) m = forward d n (next d m)

-- ---- one component
-- its fault by its place
unfoldable pub place_fault : Delims → Place → List ℕ → ℕ
place_fault d Unread raw = 0
place_fault d (Must r) raw = judge d true (rule_of r) raw
place_fault d (May r) raw = judge d false (rule_of r) raw

unfoldable pub Smalls : Place → Type 0
Smalls Unread = Unit {0}
Smalls (Must r) = Small r
Smalls (May r) = Small r

-- the component at the start of t
pub record JudgedOf (d : Delims) (place : Place) (t : List ℕ) (fault len : ℕ) : Type 0 where
  pub told : fault ≡ place_fault d place (component_at d t)
  pub long : len ≡ length (component_at d t)
  pub raw : map byte_of (component_at d t) ≡ take len t

-- ---- the first components of a field
-- the components from the first of m on, one after another
unfoldable pub components_fault : Delims → List Place → List ℕ → ℕ
components_fault d [] m = 0
components_fault d (p ∷ ps) m = place_fault d p (until (ends d) m) then components_fault d ps (next d m)

-- the components of the field at the start of t
pub record ComponentsOf (d : Delims) (ps : List Place) (t : List ℕ) (repeats : Bool) (fault head len : ℕ) : Type 0 where
  pub more : repeats ≡ has d.repetition (field_at d t)
  pub told : fault ≡ components_fault d ps (met t)
  pub short : head ≡ length (component_at d t)
  pub raw : map byte_of (component_at d t) ≡ take head t
  pub long : len ≡ length (field_at d t)
