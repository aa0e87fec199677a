-- An OBX's lines, from a field on.
use Rattle.std.specs.Prelude.{List, [], ◌∷◌, ◌++◌, ℕ}
use Rattle.rules.specs.declared.Delims.{Delims}
use Rattle.rules.specs.Lists.{bytes}
use Rattle.rules.specs.Judge.{plain_of, raw_four}
use Rattle.plain_bytes.specs.Bytes.{until, is_byte}
use Rattle.scan.specs.Scan.{ends, next, onward}
use Rattle.fill.specs.Fill.{keyed}
use Rattle.sources.specs.Sources.{field_from}
use Rattle.report_value.specs.Value.{four_lines}

-- from OBX-6 on: OBX-6, 8 and 11
unfoldable pub from_unit : Delims → List ℕ → List (List ℕ)
from_unit d m = keyed d (bytes "unit=") (field_from d 0 m) ∷ keyed d (bytes "flag=") (field_from d 2 m) ∷ keyed d (bytes "status=") (field_from d 5 m) ∷ []

-- from OBX-5 on; from OBX-3 on, and the type
unfoldable pub from_value : Delims → List ℕ → List ℕ → List (List ℕ)
from_value d m type = four_lines d (raw_four d (plain_of d type) (until (is_byte d.field) m)) ++ from_unit d (onward d.field 1 m)

unfoldable pub from_item : Delims → List ℕ → List ℕ → List (List ℕ)
from_item d m type =
    keyed d (bytes "item=") (until (ends d) m) ∷ keyed d (bytes "name=") (until (ends d) (next d m)) ∷ keyed d (bytes "type=") type
    ∷ from_value d (onward d.field 2 m) type
