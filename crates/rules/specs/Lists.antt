-- Plain functions on lists, in which the rules are said. Nothing here is about HL7.
use Rattle.std.specs.Prelude.{Bool, true, false, cond, not, ◌&&◌, List, [], ◌∷◌, ◌++◌, ℕ, zero, suc, ◌+◌, ◌/◌, ◌%◌, ltb, eqb, length, get_or, drop}
use Rattle.std.proofs.Math.Option.{Option, none, some}
use Prim.Native.String.{String}
use Prim.Native.String as Text
use Prim.Native.Char.{code}

-- the bytes of a text of plain characters
unfoldable pub bytes : String → List ℕ
bytes Text.[] = []
bytes (Text.◌∷◌ c s) = code c ∷ bytes s

unfoldable pub empty : {A : Type 0} → List A → Bool
empty [] = true
empty (x ∷ s) = false

abbrev pub filled : {A : Type 0} → List A → Bool
filled s = not (empty s)

-- a text that there may be; empty where there is none
unfoldable pub or_empty : Option (List ℕ) → List ℕ
or_empty none = []
or_empty (some s) = s

-- the n-th of some texts, from 0; empty where there are fewer ("missing and empty are the same")
abbrev pub nth : List (List ℕ) → ℕ → List ℕ
nth ts n = get_or ts n []

unfoldable pub same : List ℕ → List ℕ → Bool
same [] [] = true
same [] (b ∷ t) = false
same (a ∷ s) [] = false
same (a ∷ s) (b ∷ t) = elim (eqb a b) [ true ↦ same s t | false ↦ false ]

-- the second list starts with the first
unfoldable pub starts : List ℕ → List ℕ → Bool
starts [] s = true
starts (k ∷ ks) [] = false
starts (k ∷ ks) (b ∷ s) = elim (eqb b k) [ true ↦ starts ks s | false ↦ false ]

-- every element passes; some element passes; how many do
unfoldable pub all : {A : Type 0} → (A → Bool) → List A → Bool
all p [] = true
all p (x ∷ s) = elim (p x) [ true ↦ all p s | false ↦ false ]

unfoldable pub any : {A : Type 0} → (A → Bool) → List A → Bool
any p [] = false
any p (x ∷ s) = elim (p x) [ true ↦ true | false ↦ any p s ]

unfoldable pub count : {A : Type 0} → (A → Bool) → List A → ℕ
count p [] = 0
count p (x ∷ s) = cond (p x) 1 0 + count p s

-- x is an element; no element stands twice
unfoldable pub has : ℕ → List ℕ → Bool
unfolding any
has x s = any (λ (b : ℕ). eqb b x) s

unfoldable pub distinct : List ℕ → Bool
distinct [] = true
distinct (b ∷ s) = not (has b s) && distinct s

-- ---- pieces
-- x before the first piece
unfoldable pub onto : ℕ → List (List ℕ) → List (List ℕ)
onto x [] = (x ∷ []) ∷ []
onto x (p ∷ ps) = (x ∷ p) ∷ ps

-- the pieces between the separators: one more than there are separators
unfoldable pub split : ℕ → List ℕ → List (List ℕ)
split sep [] = [] ∷ []
split sep (x ∷ s) = elim (eqb x sep) [ true ↦ [] ∷ split sep s | false ↦ onto x (split sep s) ]

-- each piece but the last; the last
unfoldable pub all_but_last : List (List ℕ) → List (List ℕ)
all_but_last [] = []
all_but_last (p ∷ []) = []
all_but_last (p ∷ q ∷ ps) = p ∷ all_but_last (q ∷ ps)

unfoldable pub last : List (List ℕ) → List ℕ
last [] = []
last (p ∷ []) = p
last (p ∷ q ∷ ps) = last (q ∷ ps)

-- the first piece of s, and the pieces after it
unfoldable pub front : ℕ → List ℕ → List ℕ
front sep s = nth (split sep s) 0

unfoldable pub later : ℕ → List ℕ → List (List ℕ)
later sep s = drop 1 (split sep s)

-- how many separators stand in s, and what stands after the last of them
unfoldable pub before : ℕ → List ℕ → ℕ
before sep s = length (all_but_last (split sep s))

unfoldable pub since : ℕ → List ℕ → List ℕ
since sep s = last (split sep s)

-- the pieces with a separator before each; with one between each two
unfoldable pub led : ℕ → List (List ℕ) → List ℕ
led sep [] = []
led sep (p ∷ ps) = sep ∷ (p ++ led sep ps)

unfoldable pub join : ℕ → List (List ℕ) → List ℕ
join sep [] = []
join sep (p ∷ ps) = p ++ led sep ps

-- the pieces with a separator after each: "each ended by 0A", "each line ended by 0D"
unfoldable pub ended : ℕ → List (List ℕ) → List ℕ
ended sep [] = []
ended sep (p ∷ ps) = p ++ (sep ∷ ended sep ps)

-- s is one of some words, written with a blank between each two
unfoldable pub is_one_of : String → List ℕ → Bool
is_one_of words s = any (same s) (split 0x20 (bytes words))

-- n in decimal: at most k digits, the last after those of a tenth
unfoldable pub decimal_to : ℕ → ℕ → List ℕ
decimal_to zero n = []
decimal_to (suc k) n = elim (ltb n 10) [ true ↦ (48 + n) ∷ [] | false ↦ decimal_to k (n / 10) ++ ((48 + n % 10) ∷ []) ]

unfoldable pub decimal : ℕ → List ℕ
unfolding decimal_to
decimal n = decimal_to (suc n) n

-- to unfold this name is to unfold the definitions above
unfoldable pub defined : Unit {0}
unfolding bytes empty same starts all any count has distinct onto split all_but_last last front later before since led join ended is_one_of or_empty decimal_to decimal
defined = tt
