-- Where a text breaks the rule of a refusal that names no place: 12, 13 and 41.
use Rattle.std.specs.Prelude.{◌≡◌, Bool, true, false, cond, List, [], ◌∷◌, ℕ, suc, ◌+◌, eqb, ltb, length, take}
use Rattle.rules.specs.declared.Mode.{Mode}
use Rattle.rules.specs.declared.Mode.TheVariants.{One, Esc1, Esc2, Two, Second, Back1, Back2, Bad}
use Rattle.rules.specs.Lists.{count}
use Rattle.rules.specs.Shift.{step}
use Rattle.rules.specs.Frame.{delims_of, segments}
use Rattle.plain_bytes.specs.Bytes.{is_byte}
use Rattle.frame.specs.Frame.{good_of}
use Rattle.spot.specs.declared.Spot.{Spot}

-- ---- 12, 41: "byte or shift rule"
unfoldable pub is_bad : Mode → Bool
is_bad One = false
is_bad Esc1 = false
is_bad Esc2 = false
is_bad Two = false
is_bad Second = false
is_bad Back1 = false
is_bad Back2 = false
is_bad Bad = true

-- How many bytes of s, met from the mode m on, stand before the first that breaks the rule. All of them where none does: then the text is
-- broken off, within a shift or, in a sheet, without a final 0A.
unfoldable pub kept_bytes : ℕ → Mode → List ℕ → ℕ
kept_bytes end m [] = 0
kept_bytes end m (b ∷ s) = elim (is_bad (step end m b)) [ true ↦ 0 | false ↦ suc (kept_bytes end (step end m b) s) ]

-- ---- 13: "no final 0D, a segment too long, or a bad name"
-- How many bytes the segments before the first bad one take, each with its 0D. All of them where none is bad: then what follows them has no
-- final 0D.
unfoldable pub good_bytes : ℕ → List (List ℕ) → ℕ
good_bytes bar [] = 0
good_bytes bar (s ∷ ss) = elim (good_of bar s) [ true ↦ suc (length s) + good_bytes bar ss | false ↦ 0 ]

-- ---- the place
-- behind the first `at` bytes of s, whose lines each end in `end`
unfoldable pub place_at : ℕ → ℕ → List ℕ → Spot
place_at end at s = record { line = count (is_byte end) (take at s) + 1; byte = at + 1 }

abbrev pub no_place : Spot
no_place = record { line = 0; byte = 0 }

-- A longer text is refused with 10 or 40, which name no place.
abbrev pub longest_text : ℕ
longest_text = 65536

unfoldable pub spot_of : ℕ → List ℕ → Spot
spot_of n s =
    cond (ltb longest_text (length s)) no_place
    (cond (eqb n 12) (place_at 0x0D (kept_bytes 0x0D One s) s)
    (cond (eqb n 13) (place_at 0x0D (good_bytes (delims_of s).field (segments s)) s)
    (cond (eqb n 41) (place_at 0x0A (kept_bytes 0x0A One s) s)
    no_place)))

-- THE PROMISE of the call: the place r at which a text breaks the rule of the refusal with a number
abbrev pub SpotTold : List ℕ → ℕ → Spot → Type 0
SpotTold text number r = r ≡ spot_of number text
