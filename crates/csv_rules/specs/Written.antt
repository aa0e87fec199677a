-- The paper's sentence as a way to write: "every item in double quotes with quotes doubled", "comma", "lines ended CR LF". The claims hold the
-- reader of `Quote` to it.
use Rattle.std.specs.Prelude.{Bool, true, false, List, [], ◌∷◌, ◌++◌, map, ℕ, eqb}
use Rattle.rules.specs.Lists.{join}
use Rattle.csv_rules.specs.Quote.{Items}

-- an item's bytes with quotes doubled, and its closing quote
unfoldable pub quotes_doubled : List ℕ → List ℕ
quotes_doubled [] = 0x22 ∷ []
quotes_doubled (b ∷ s) = elim (eqb b 0x22) [ true ↦ 0x22 ∷ 0x22 ∷ quotes_doubled s | false ↦ b ∷ quotes_doubled s ]

unfoldable pub quoted : List ℕ → List ℕ
quoted s = 0x22 ∷ quotes_doubled s

unfoldable pub quoted_line : Items → List ℕ
quoted_line is = join 0x2C (map quoted is)

-- some lines spell a file: each has an item, each ends in CR LF, "the last may lack it"
pub data Spells : List Items → List ℕ → Type 0 where
  nothing : Spells [] []
  unended : (i : List ℕ) (is : Items) → Spells ((i ∷ is) ∷ []) (quoted_line (i ∷ is))
  ended : (i : List ℕ) (is : Items) (ls : List Items) (s : List ℕ) → Spells ls s → Spells ((i ∷ is) ∷ ls) (quoted_line (i ∷ is) ++ (0x0D ∷ 0x0A ∷ s))

-- the file of some lines, each ended
unfoldable pub file_text : List Items → List ℕ
file_text [] = []
file_text (l ∷ ls) = quoted_line l ++ (0x0D ∷ 0x0A ∷ file_text ls)

-- an item's bytes from how they lie in the file: of two quotes the second is left out; true: a quote has just been read
unfoldable pub halved : Bool → List ℕ → List ℕ
halved false [] = []
halved true [] = []
halved false (b ∷ s) = b ∷ halved (eqb b 0x22) s
halved true (b ∷ s) = halved false s
