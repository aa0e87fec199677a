-- What is looked for among bytes.
use Rattle.std.specs.Prelude.{Bool, true, false, List, [], ◌∷◌, ℕ, eqb}

abbrev pub is_byte : ℕ → ℕ → Bool
is_byte a b = eqb b a

-- what stands before the first element that p holds of
unfoldable pub until : (ℕ → Bool) → List ℕ → List ℕ
until p [] = []
until p (b ∷ s) = elim (p b) [ true ↦ [] | false ↦ b ∷ until p s ]
