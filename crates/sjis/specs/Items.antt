-- A walk over an item as it lies in the file: byte by byte, and character by character.
use Rattle.std.specs.Prelude.{◌≡◌, Bool, false, cond, not, ◌&&◌, List, ◌∷◌, ℕ, ◌+◌, ◌≤◌, ◌<◌, eqb, length, drop, get_or}
use Rattle.std.proofs.Math.Option.{none}
use Rattle.rules.specs.Shift.{within}
use Rattle.csv_rules.specs.Kanji.{Character, one, pair, characters_at}
use Rattle.csv_rules.specs.Written.{halved}
use Rattle.sjis.specs.Texts.{pair_at}

-- a byte that stands alone and isn't doubled
unfoldable pub is_clear : ℕ → Bool
is_clear b = within 0x20 0x7E b && not (eqb b 0x22)

-- r is the place behind the byte at i
pub record NextAt (s : List ℕ) (i r : ℕ) : Type 0 where
  pub low : i < r
  pub high : r ≤ length s
  pub is : halved false (drop i s) ≡ get_or s i 0 ∷ halved false (drop r s)

-- the character at i
unfoldable pub char_at : List ℕ → ℕ → Character
char_at s i = cond (pair_at s i) (pair (get_or s i 0) (get_or s (i + 1) 0)) (one (get_or s i 0))

-- r is the place behind the character at i
pub record PastAt (s : List ℕ) (i r : ℕ) : Type 0 where
  pub low : i < r
  pub high : r ≤ length s
  pub is : characters_at none (halved false (drop i s)) ≡ char_at s i ∷ characters_at none (halved false (drop r s))
