-- What is told once the frame has given the delimiters.
use Rattle.std.specs.Prelude.{List, ℕ}
use Rattle.rules.specs.declared.Delims.{Delims}
use Rattle.rules.specs.Told.{Told}
use Rattle.rules.specs.View.{view}
use Rattle.rules.specs.Check.{unsaid, places_told}

-- 20 to 27
unfoldable pub read_told : Delims → List ℕ → Told (Unit {0})
read_told d m = places_told d unsaid 1 (view m).segs
