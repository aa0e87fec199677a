-- 50. The commercial centre's file cut into lines and items: "comma, every item in double quotes with quotes doubled, lines ended CR LF (the
-- last may lack it)". Bytes are enough: 22, 2C, 0D and 0A are no byte of a good pair.
use Rattle.std.specs.Prelude.{Bool, true, false, List, [], ◌∷◌, ℕ, suc, eqb}
use Rattle.rules.specs.Lists.{onto}

-- the items of a line, without their quotes
abbrev pub Items : Type 0
Items = List (List ℕ)

-- The lines of a file, each with its items and how many bytes it has (its CR LF too), up to the end of the file or to a line that breaks
-- the quoting: nothing is said of what follows such a line.
pub data Lines : Type 0 where
  end broken : Lines
  line : Items → ℕ → Lines → Lines

-- a byte more of the first line, which does f to its items
unfoldable pub more : (Items → Items) → Lines → Lines
more f end = broken
more f broken = broken
more f (line is n ls) = line (f is) (suc n) ls

-- where a reader stands: at a line's start; after a comma; inside an item's quotes; after a quote there, which closes the item or is the
-- first of two; after a line's CR
pub data Stand : Type 0 where
  Begins Comma Inside Quote Cr : Stand

unfoldable pub lines_at : Stand → List ℕ → Lines
lines_at Begins [] = end
lines_at Comma [] = broken
lines_at Inside [] = broken
lines_at Quote [] = line ([] ∷ []) 0 end
lines_at Cr [] = broken
lines_at Begins (b ∷ s) = elim (eqb b 0x22) [ true ↦ more (λ is. is) (lines_at Inside s) | false ↦ broken ]
lines_at Comma (b ∷ s) = elim (eqb b 0x22) [ true ↦ more (λ is. is) (lines_at Inside s) | false ↦ broken ]
lines_at Inside (b ∷ s) = elim (eqb b 0x22) [ true ↦ more (λ is. is) (lines_at Quote s) | false ↦ more (onto b) (lines_at Inside s) ]
lines_at Quote (b ∷ s) =
    elim (eqb b 0x22) [
      | true ↦ more (onto b) (lines_at Inside s)
      | false ↦ elim (eqb b 0x2C) [
        | true ↦ more (λ is. [] ∷ is) (lines_at Comma s)
        | false ↦ elim (eqb b 0x0D) [ true ↦ more (λ is. is) (lines_at Cr s) | false ↦ broken ]
      ]
    ]
lines_at Cr (b ∷ s) = elim (eqb b 0x0A) [ true ↦ line ([] ∷ []) 1 (lines_at Begins s) | false ↦ broken ]

unfoldable pub cut : List ℕ → Lines
cut file = lines_at Begins file

-- 50
unfoldable pub is_broken : Lines → Bool
is_broken end = false
is_broken broken = true
is_broken (line is n ls) = is_broken ls

-- a line: its items, and its bytes counted
pub record FileLine : Type 0 where
  pub items : Items
  pub size : ℕ

unfoldable pub lines_in : Lines → List FileLine
lines_in end = []
lines_in broken = []
lines_in (line is n ls) = record { items = is; size = n } ∷ lines_in ls
