-- The lines of a segment, from a field on.
use Rattle.std.specs.Prelude.{List, [], ◌∷◌, ℕ}
use Rattle.rules.specs.declared.Delims.{Delims}
use Rattle.rules.specs.Lists.{bytes}
use Rattle.fill.specs.Fill.{keyed}
use Rattle.sources.specs.Sources.{field_from}

-- from MSH-7 on: MSH-7, 10 and 11
unfoldable pub from_sent : Delims → List ℕ → List (List ℕ)
from_sent d m = keyed d (bytes "mode=") (field_from d 4 m) ∷ keyed d (bytes "sent=") (field_from d 0 m) ∷ keyed d (bytes "control=") (field_from d 3 m) ∷ []

-- the field here and the field n further on, each with its key
unfoldable pub field_lines : Delims → List ℕ → ℕ → List ℕ → List ℕ → List (List ℕ)
field_lines d here n there m = keyed d here (field_from d 0 m) ∷ keyed d there (field_from d n m) ∷ []
