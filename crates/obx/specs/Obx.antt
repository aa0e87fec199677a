-- What is told of an OBX up to its value.
use Rattle.std.specs.Prelude.{◌≡◌, Bool, List, [], ℕ, ◌+◌, ◌≤◌, length, drop}
use Rattle.std.specs.declared.result.Result.TheVariants.{Err}
use Rattle.rules.specs.declared.Delims.{Delims}
use Rattle.rules.specs.declared.Name.TheVariants.{Obx}
use Rattle.rules.specs.Lists as L
use Rattle.rules.specs.Shift.{met}
use Rattle.rules.specs.Places.{places}
use Rattle.rules.specs.Judge.{raw_four, value_fault}
use Rattle.rules.specs.Judge as J
use Rattle.rules.specs.Check.{Context, raw_four_of}
use Rattle.plain_bytes.specs.Bytes.{until, is_byte}
use Rattle.fields.specs.declared.Walk.{Walk}
use Rattle.fields.specs.declared.FieldFault.{FieldFault}
use Rattle.fields.specs.Fields.{ahead, Passed}
use Rattle.fields.specs.Segment.{segment, Walked, FoundIn}

-- OBX-5, the value
abbrev pub value_field : ℕ
value_field = 5

-- the field that follows w
abbrev pub value_after : Delims → List ℕ → Walk → List ℕ
value_after d s w = until (is_byte d.field) (ahead d s value_field w)

-- from w on to OBX-5, which breaks nothing, and what 26 asks of it
pub record ValueTo (d : Delims) (s type : List ℕ) (w r : Walk) (number parts : Bool) : Type 0 where
  pub passed : Passed d s value_field (value_fault d type) (λ m. []) w r
  pub filled : number ≡ L.filled (raw_four d type (value_after d s w)).value
  pub beside : parts ≡ J.beside (raw_four d type (value_after d s w))

-- from the start of an OBX up to its value: three read fields that break nothing
pub record ValuedAt (d : Delims) (s : List ℕ) (w : Walk) (number parts : Bool) : Type 0 where
  pub walked : (x : Context) → Walked Obx d x s (drop 3 (places Obx)) w
  pub filled : number ≡ L.filled (raw_four_of d (segment Obx d s)).value
  pub beside : parts ≡ J.beside (raw_four_of d (segment Obx d s))
  pub numbered : w.field ≡ value_field
  pub part : w.start + w.head ≤ length s
  pub low : w.at ≤ length s

-- or the first that breaks a rule is what is told of the segment
abbrev pub StopsIn : Delims → List ℕ → FieldFault → Type 0
StopsIn d s e = (x : Context) → FoundIn {A = Unit {0}} Obx d x (met s) (Err e)
