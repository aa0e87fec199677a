-- How one byte of a text is written, by the byte as it is met.
use Rattle.std.specs.Prelude.{List, [], ◌∷◌, ℕ}
use Rattle.std.proofs.Math.Option.{Option, none, some}
use Rattle.rules.specs.declared.Delims.{Delims}
use Rattle.rules.specs.Shift.{byte_of}
use Rattle.rules.specs.Escape.{letters, letter_for}

-- as itself, or as the escape of a letter
unfoldable pub unit_as : Delims → ℕ → Option ℕ → List ℕ
unit_as d x none = byte_of x ∷ []
unit_as d x (some l) = d.escape ∷ l ∷ d.escape ∷ []

unfoldable pub unit_of : Delims → ℕ → List ℕ
unit_of d x = unit_as d x (letter_for (letters d) x)
