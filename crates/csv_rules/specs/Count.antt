-- 51 "no version or heading line, a column count there that isn't a number from 7 up, or a row with another count"
use Rattle.std.specs.Prelude.{Bool, false, ◌&&◌, List, [], ◌∷◌, ℕ, ◌+◌, ◌-◌, ◌*◌, leb, eqb, length}
use Rattle.rules.specs.Lists.{filled, nth, all}
use Rattle.rules.specs.Frame.{digit}
use Rattle.csv_rules.specs.Quote.{FileLine}

-- the number that digits spell, those of n before them
unfoldable pub numeral : ℕ → List ℕ → ℕ
numeral n [] = n
numeral n (b ∷ s) = numeral (10 * n + (b - 48)) s

-- the column count: the second item of the version line ("version, column count, date of revision")
unfoldable pub counts : List ℕ → Bool
counts v = filled v && (all digit v && leb 7 (numeral 0 v))

-- a version line, a heading line, which is no row, and the rows
unfoldable pub well_counted : List FileLine → Bool
well_counted [] = false
well_counted (version ∷ ls) =
    let n = nth version.items 1 in
    elim ls [ [] ↦ false | heading ∷ rows ↦ counts n && all (λ (r : FileLine). eqb (length r.items) (numeral 0 n)) rows ]
