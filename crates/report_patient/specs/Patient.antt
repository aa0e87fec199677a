-- The lines of PID, from a field on.
use Rattle.std.specs.Prelude.{List, [], ◌∷◌, ◌++◌, ℕ}
use Rattle.rules.specs.declared.Delims.{Delims}
use Rattle.rules.specs.Lists.{bytes, or_empty}
use Rattle.rules.specs.View.{component_of}
use Rattle.rules.specs.Judge.{kanji, kana}
use Rattle.plain_bytes.specs.Bytes.{until, is_byte}
use Rattle.scan.specs.Scan.{onward}
use Rattle.fill.specs.Fill.{keyed}
use Rattle.report.specs.Report.{field_lines}

-- PID-5: the name in a repetition; both names, blank where no repetition is marked
unfoldable pub name_lines : Delims → List ℕ → List ℕ → List ℕ → List (List ℕ)
name_lines d family given r = keyed d family (component_of d r 1) ∷ keyed d given (component_of d r 2) ∷ []

unfoldable pub names_lines : Delims → List ℕ → List (List ℕ)
names_lines d f =
    name_lines d (bytes "family=") (bytes "given=") (or_empty (kanji d f)) ++ name_lines d (bytes "kanafamily=") (bytes "kanagiven=") (or_empty (kana d f))

-- from PID-5 on
unfoldable pub from_names : Delims → List ℕ → List (List ℕ)
from_names d m = names_lines d (until (is_byte d.field) m) ++ field_lines d (bytes "birth=") 1 (bytes "sex=") (onward d.field 2 m)
