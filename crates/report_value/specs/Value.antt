-- The lines of OBX-5.
use Rattle.std.specs.Prelude.{List, [], ◌∷◌, ℕ}
use Rattle.rules.specs.declared.Delims.{Delims}
use Rattle.rules.specs.Lists.{bytes, nth, split}
use Rattle.rules.specs.Places.{Four}
use Rattle.fill.specs.Fill.{keyed}

unfoldable pub four_lines : Delims → Four (List ℕ) → List (List ℕ)
four_lines d c =
    keyed d (bytes "compare=") c.compare ∷ keyed d (bytes "value=") c.value
    ∷ keyed d (bytes "join=") c.join ∷ keyed d (bytes "second=") c.second ∷ []

-- the four components
unfoldable pub four_in : Delims → List ℕ → Four (List ℕ)
four_in d f = let c = nth (split d.component f) in record { compare = c 0; value = c 1; join = c 2; second = c 3 }

-- the first component, with nothing beside it; its line
unfoldable pub only_in : Delims → List ℕ → Four (List ℕ)
only_in d f = record { compare = []; value = nth (split d.component f) 0; join = []; second = [] }

unfoldable pub value_line : Delims → List ℕ → List ℕ
value_line d f = keyed d (bytes "value=") (nth (split d.component f) 0)
