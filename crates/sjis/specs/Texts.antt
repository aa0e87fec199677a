-- What is written for one character of a text, in two-byte mode or one-byte mode, and at its end.
use Rattle.std.specs.Prelude.{Bool, cond, ◌&&◌, List, [], ◌∷◌, ◌++◌, ℕ, ◌+◌, ltb, length, get_or}
use Rattle.csv_rules.specs.Kanji.{lead, first, second, into, back}

unfoldable pub pair_text : Bool → ℕ → ℕ → List ℕ
pair_text two l t = cond two [] into ++ (first l t ∷ second t ∷ [])

unfoldable pub one_text : Bool → ℕ → List ℕ
one_text two b = cond two back [] ++ (b ∷ [])

unfoldable pub end_text : Bool → List ℕ
end_text two = cond two back []

-- a pair stands at i: a lead byte, and any byte after it
unfoldable pub pair_at : List ℕ → ℕ → Bool
pair_at s i = lead (get_or s i 0) && ltb (i + 1) (length s)

-- what is written for the character at i
unfoldable pub character_text : Bool → List ℕ → ℕ → List ℕ
character_text two s i = cond (pair_at s i) (pair_text two (get_or s i 0) (get_or s (i + 1) 0)) (one_text two (get_or s i 0))
