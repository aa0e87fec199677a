-- Where a file is refused: the line, from 1, at which the first of 50 to 54 that it breaks is met; 0 where it breaks none. A line is what the
-- reader takes as one: CR LF inside quotes ends none.
use Rattle.std.specs.Prelude.{Bool, true, false, cond, not, ◌&&◌, List, [], ◌∷◌, ℕ, suc, eqb, length, drop}
use Rattle.rules.specs.Lists.{any, nth}
use Rattle.csv_rules.specs.Quote.{cut, is_broken, FileLine, lines_in}
use Rattle.csv_rules.specs.Count.{numeral, counts}
use Rattle.csv_rules.specs.Sheets.{clash, same_number, row_converts}

-- the first of some lines, the first of which is the k-th, that a test refuses; 0 where none does
unfoldable pub first_not : (FileLine → Bool) → ℕ → List FileLine → ℕ
first_not p k [] = 0
first_not p k (l ∷ ls) = elim (p l) [ true ↦ first_not p (suc k) ls | false ↦ k ]

-- the same, of a test that looks at the lines before, the nearest first
unfoldable pub first_after : (List FileLine → FileLine → Bool) → ℕ → List FileLine → List FileLine → ℕ
first_after p k seen [] = 0
first_after p k seen (l ∷ ls) = elim (p seen l) [ true ↦ k | false ↦ first_after p (suc k) (l ∷ seen) ls ]

-- 51: a line that is missing; the version line with a wrong column count; a row with another
unfoldable pub count_line : List FileLine → ℕ
count_line [] = 1
count_line (version ∷ ls) =
    let n = nth version.items 1 in
    elim ls [
      | [] ↦ 2
      | heading ∷ rows ↦ cond (counts n) (first_not (λ (r : FileLine). eqb (length r.items) (numeral 0 n)) 3 rows) 1
    ]

-- 53: a row that differs in a header key from one before it with its number
abbrev pub clashes : List FileLine → FileLine → Bool
clashes seen r = any (clash r.items) seen

-- 54: a row whose number isn't that of the row before and is that of an earlier one
unfoldable pub comes_back : List FileLine → FileLine → Bool
comes_back [] r = false
comes_back (q ∷ seen) r = not (same_number q.items r.items) && any (λ (x : FileLine). same_number r.items x.items) seen

-- the first line that is named, of some in order
infixr 8 ◌or_else◌
abbrev pub ◌or_else◌ : ℕ → ℕ → ℕ
a or_else b = cond (eqb a 0) b a

-- the rows are the lines behind the heading line
unfoldable pub csv_spot : List ℕ → ℕ
csv_spot file =
    let ls = lines_in (cut file) in
    let rows = drop 2 ls in
    cond (is_broken (cut file)) (suc (length ls))
    (count_line ls or_else first_not row_converts 1 ls or_else first_after clashes 3 [] rows or_else first_after comes_back 3 [] rows)
