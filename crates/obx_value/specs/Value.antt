-- What is told of OBX-5, at the start of what is left of its segment.
use Rattle.std.specs.Prelude.{◌≡◌, Bool, false, List, [], ℕ, suc, ltb, length}
use Rattle.rules.specs.declared.Delims.{Delims}
use Rattle.rules.specs.Told.{◌then◌, ◌when◌}
use Rattle.rules.specs.Lists.{has, split}
use Rattle.rules.specs.Lists as L
use Rattle.rules.specs.Shift.{met}
use Rattle.rules.specs.Value.{Rule}
use Rattle.rules.specs.Places.{Four}
use Rattle.rules.specs.Judge.{judge, raw_four, value_fault}
use Rattle.rules.specs.Judge as J
use Rattle.plain_bytes.specs.Bytes.{until}
use Rattle.scan.specs.Scan.{ends}
use Rattle.value.specs.declared.Parts.{Parts}
use Rattle.judge.specs.Judge.{Small}
use Rattle.components.specs.Components.{field_at, forward}

-- the rules of its parts, none for more than 256 bytes
abbrev pub SmallParts : Parts → Type 0
SmallParts r = Small r.compare × Small r.value × Small r.join × Small r.second

-- "22 first, and 23 for an excess component in OBX-5": for one after n + 1
unfoldable pub shape_fault : Delims → ℕ → List ℕ → ℕ
shape_fault d n f = 22 when has d.repetition f then 23 when ltb (suc n) (length (split d.component f))

-- the n-th next component, from the start of m on
abbrev pub component_from : Delims → List ℕ → ℕ → List ℕ
component_from d m n = until (ends d) (forward d n m)

-- SN: a joiner and a second number, "a second number needs a joiner, judged at that number"
abbrev pub last_two : List ℕ → List ℕ → Four (List ℕ)
last_two join second = record { compare = []; value = []; join = join; second = second }

unfoldable pub joined_fault : Delims → Four Rule → List ℕ → List ℕ → ℕ
joined_fault d r join second =
    judge d false r.join join then judge d false r.second second then 25 when J.unjoined (last_two join second)

-- the two at the start of t, the last of their field
pub record LastOf (d : Delims) (r : Four Rule) (t : List ℕ) (form fault len : ℕ) (joiner second : Bool) : Type 0 where
  pub shape : form ≡ shape_fault d 1 (field_at d t)
  pub told : fault ≡ joined_fault d r (component_from d (met t) 0) (component_from d (met t) 1)
  pub long : len ≡ length (field_at d t)
  pub join : joiner ≡ L.filled (component_from d (met t) 0)
  pub number : second ≡ L.filled (component_from d (met t) 1)

-- SN's number and what follows it at the start of m, after a comparator
abbrev pub four_from : Delims → List ℕ → List ℕ → Four (List ℕ)
four_from d compare m = record { compare = compare; value = component_from d m 0; join = component_from d m 1; second = component_from d m 2 }

unfoldable pub number_fault : Delims → Four Rule → Four (List ℕ) → ℕ
number_fault d r c = judge d (J.beside c) r.value c.value then joined_fault d r c.join c.second

pub record NumberOf (d : Delims) (r : Four Rule) (compared : Bool) (t : List ℕ) (form fault len : ℕ) (number parts : Bool) : Type 0 where
  pub shape : form ≡ shape_fault d 2 (field_at d t)
  pub told : (compare : List ℕ) → compared ≡ L.filled compare → fault ≡ number_fault d r (four_from d compare (met t))
  pub long : len ≡ length (field_at d t)
  pub filled : number ≡ L.filled (component_from d (met t) 0)
  pub beside : (compare : List ℕ) → compared ≡ L.filled compare → parts ≡ J.beside (four_from d compare (met t))

-- OBX-5 by OBX-2's word; where it has no fault also whether its value is filled, and whether a part beside it is
pub record ValueOf (d : Delims) (type f : List ℕ) (fault len : ℕ) (number parts : Bool) : Type 0 where
  pub told : fault ≡ value_fault d type f
  pub long : len ≡ length f
  pub filled : fault ≡ 0 → number ≡ L.filled (raw_four d type f).value
  pub beside : fault ≡ 0 → parts ≡ J.beside (raw_four d type f)
