-- The value rules, over unescaped bytes. A component of a message and a value of a sheet are judged by the same rules.
use Rattle.std.specs.Prelude.{Bool, true, false, cond, not, ◌&&◌, ◌||◌, List, [], ◌∷◌, ℕ, ◌+◌, ◌-◌, ◌*◌, ◌%◌, leb, ltb, eqb, length, get_or}
use Prim.Native.String.{String}
use Rattle.rules.specs.Told.{◌then◌, ◌when◌}
use Rattle.rules.specs.Lists.{empty, all, any, count, is_one_of}
use Rattle.rules.specs.Shift.{within}
use Rattle.rules.specs.Frame.{digit, capital_or_digit}

-- the rules by name: YYYYMMDDHHMMSS; YYYYMMDD; NM; text of at most n bytes; n digits; at most n capitals or digits; one of some words
pub data Rule : Type 0 where
  time date numeric : Rule
  text digits capitals : ℕ → Rule
  words : String → Rule

-- ---- "years 1900–2099, Gregorian, 00–23, 00–59, 00–59"
unfoldable pub leap : ℕ → Bool
leap y = eqb (y % 4) 0 && (not (eqb (y % 100) 0) || eqb (y % 400) 0)

-- how long a month is, in a leap year or another
unfoldable pub days_in : Bool → ℕ → ℕ
days_in leapYear month = cond (eqb month 2) (cond leapYear 29 28) (cond (eqb month 4 || eqb month 6 || eqb month 9 || eqb month 11) 30 31)

-- the number of the two digits at k
unfoldable pub two : List ℕ → ℕ → ℕ
two v k = 10 * (get_or v k 0 - 48) + (get_or v (k + 1) 0 - 48)

unfoldable pub day_ok : List ℕ → Bool
day_ok v =
    let y = 100 * two v 0 + two v 2 in
    within 1900 2099 y && within 1 12 (two v 4) && within 1 (days_in (leap y) (two v 4)) (two v 6)

unfoldable pub clock_ok : List ℕ → Bool
clock_ok v = leb (two v 8) 23 && leb (two v 10) 59 && leb (two v 12) 59

abbrev pub digits_ok : ℕ → List ℕ → Bool
digits_ok n v = eqb (length v) n && all digit v

-- ---- NM: "an optional sign, then digits with at most one point before, among or after them, at least one digit"
unfoldable pub unsigned : List ℕ → List ℕ
unsigned [] = []
unsigned (b ∷ s) = cond (eqb b 43 || eqb b 45) s (b ∷ s)

abbrev pub point : ℕ → Bool
point b = eqb b 46

unfoldable pub spelled : List ℕ → Bool
spelled s = all (λ (b : ℕ). digit b || point b) s && leb (count point s) 1 && any digit s

-- ---- what a filled value must meet, and 24: "text or NM too long"
unfoldable pub holds : Rule → List ℕ → Bool
holds time v = digits_ok 14 v && day_ok v && clock_ok v
holds date v = digits_ok 8 v && day_ok v
holds numeric v = spelled (unsigned v)
holds (text n) v = true
holds (digits n) v = digits_ok n v
holds (capitals n) v = leb (length v) n && all capital_or_digit v
holds (words ws) v = is_one_of ws v

unfoldable pub too_long : Rule → List ℕ → Bool
too_long time v = false
too_long date v = false
too_long numeric v = ltb 16 (length v)
too_long (text n) v = ltb n (length v)
too_long (digits n) v = false
too_long (capitals n) v = false
too_long (words ws) v = false

-- 20, 24, 25 in this order, for a value that must be filled or may be empty; 0 where it holds
unfoldable pub fault : Bool → Rule → List ℕ → ℕ
fault required r v = cond (empty v) (20 when required) (24 when too_long r v then 25 when not (holds r v))

abbrev pub fits : Bool → Rule → List ℕ → Bool
fits required r v = eqb (fault required r v) 0

-- to unfold this name is to unfold the definitions above
unfoldable pub defined : Unit {0}
unfolding leap days_in two day_ok clock_ok unsigned spelled holds too_long fault
defined = tt
