-- The lines of a sheet, found by their 0A, and the verdict on one of them.
use Rattle.std.specs.Prelude.{Bool, true, false, cond, not, ◌&&◌, List, [], ◌∷◌, ◌≡◌, ℕ, zero, suc, ◌+◌, ◌≤◌, ◌<◌, length, drop, get_or, Result, Ok, Err}
use Rattle.rules.specs.Lists.{bytes, nth, same, starts}
use Rattle.rules.specs.Value.{fits}
use Rattle.rules.specs.Sheet.{lines_of}
use Rattle.value.specs.declared.Place.{Place}
use Rattle.value.specs.declared.Place.TheVariants.{Unread, Must, May}
use Rattle.value.specs.Rules.{rule_of}
use Rattle.lines.specs.declared.LineFault.{LineFault}
use Rattle.lines.specs.declared.LineFault.TheVariants.{Key, Value}

-- 40: "sheet over 65,536 bytes"
abbrev pub longest_sheet : ℕ
longest_sheet = 65536

-- the place behind the first of the lines ls, where it starts at p; p itself where there is none
unfoldable pub behind_line : List (List ℕ) → ℕ → ℕ
behind_line [] p = p
behind_line (l ∷ ls) p = p + length l + 1

-- where the text behind the first n of the lines ls begins
unfoldable pub place_behind : ℕ → List (List ℕ) → ℕ
place_behind zero ls = 0
place_behind (suc n) ls = behind_line (drop n ls) (place_behind n ls)

-- at holds the places of the first n lines of s and the place behind each; eleven places, for no group has more than ten lines
pub record Cut (n : ℕ) (s at : List ℕ) : Type 0 where
  pub size : length at ≡ 11
  pub start : get_or at 0 0 ≡ 0
  pub within : (k : ℕ) → k ≤ n → get_or at k 0 ≤ length s
  pub from : (k : ℕ) → k ≤ n → lines_of (drop (get_or at k 0) s) ≡ drop k (lines_of s)
  pub next : (k : ℕ) → k < n → get_or at (k + 1) 0 ≡ behind_line (drop k (lines_of s)) (get_or at k 0)

-- on lines: no fault, or the first
abbrev pub Verdict : Type 0
Verdict = Result (Unit {0}) LineFault

-- the first fault counts
abbrev pub and_then : Verdict → Verdict → Verdict
and_then (Ok t) w = w
and_then (Err f) w = Err f

-- the rule of a place
abbrev pub fits_place : Place → List ℕ → Bool
fits_place Unread v = true
fits_place (Must r) v = fits true (rule_of r) v
fits_place (May r) v = fits false (rule_of r) v

-- the line t, the k-th of its group: "42 before 43"; good says that its value holds
unfoldable pub line_as : ℕ → List ℕ → Bool → List ℕ → Verdict
line_as k key good t = cond (starts key t) (cond (not (same (drop (length key) t) (bytes "\"\"")) && good) (Ok tt) (Err (Value k))) (Err (Key k))

-- the k-th of the lines ts, whose value keeps the rule of a place, where `also` must hold too
abbrev pub line_at : ℕ → List ℕ → Place → Bool → List (List ℕ) → Verdict
line_at k key place also ts = line_as k key (fits_place place (drop (length key) (nth ts k)) && also) (nth ts k)
