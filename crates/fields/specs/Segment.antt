-- What a segment is told, read field by read field.
use Rattle.std.specs.Prelude.{◌≡◌, List, map, ℕ, suc, ◌+◌, ◌-◌, ◌≤◌, drop}
use Rattle.rules.specs.declared.Delims.{Delims}
use Rattle.rules.specs.declared.Name.{Name}
use Rattle.std.specs.declared.result.Result.{Result}
use Rattle.rules.specs.Shift.{met}
use Rattle.rules.specs.Frame.{Known}
use Rattle.rules.specs.Places.{Field}
use Rattle.rules.specs.View.{piece_of, part_of, Segment, segment_of}
use Rattle.rules.specs.Check.{Context, fault_told, parts_told}
use Rattle.scan.specs.Scan.{after_sep, onward}
use Rattle.fields.specs.declared.Walk.{Walk}
use Rattle.fields.specs.declared.FieldFault.{FieldFault}
use Rattle.fields.specs.Fields.{fault_in, field_in}

-- a known segment of a name, by its bytes as they are met
abbrev pub as_known : Name → List ℕ → Known
as_known n body = record { name = n; start = 0; body = body }

abbrev pub segment : Name → Delims → List ℕ → Segment
segment n d s = segment_of d (as_known n (met s))

-- what the segments before say, where the last OBR-2 is `order`
abbrev pub said : List ℕ → Context
said order = record { order = order }

-- where w stands, nothing broken: what is told of the segment is what is told of the fields that are left
pub record Walked (n : Name) (d : Delims) (x : Context) (s : List ℕ) (left : List Field) (w : Walk) : Type 0 where
  pub told : (i : ℕ) → parts_told d x i (segment n d s) (segment n d s).parts ≡ parts_told d x i (segment n d s) (map (part_of d (as_known n (met s))) left)
  pub lead : (f : ℕ) → w.field ≤ f → piece_of n f ≡ piece_of n w.field + (f - w.field)
  pub rest : after_sep d.field (met (drop w.at s)) ≡ onward d.field (suc (piece_of n w.field)) (met s)

-- what is broken, and in which field, is what the table tells of the segment, whatever its ordinal
pub record FoundIn {A : Type 0} (n : Name) (d : Delims) (x : Context) (body : List ℕ) (r : Result A FieldFault) : Type 0 where
  pub told : (i : ℕ) → fault_told i (field_in r) (fault_in r) ≡ parts_told d x i (segment_of d (as_known n body)) (segment_of d (as_known n body)).parts
