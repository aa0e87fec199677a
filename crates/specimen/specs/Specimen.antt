-- What an OBR says to the segments after it.
use Rattle.std.specs.Prelude.{List, ℕ}
use Rattle.rules.specs.declared.Delims.{Delims}
use Rattle.rules.specs.declared.Name.TheVariants.{Obr}
use Rattle.rules.specs.Check.{value_at, order_field}
use Rattle.fields.specs.Segment.{segment}

-- the order number of an OBR s
abbrev pub order_number : Delims → List ℕ → List ℕ
order_number d s = value_at d (segment Obr d s) order_field 1
