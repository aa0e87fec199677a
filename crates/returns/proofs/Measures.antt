-- The lines of a group are measured by their keys and values. Assumes nothing.
use mathlib.Core.Path.{◌≡◌, refl}
use mathlib.Core.List.{List, [], ◌∷◌}
use Prim.Native.Nat.{ℕ, suc, ◌+◌}
use lib.ListN.{length, length-append}
use Rattle.rules.specs.Lists.{ended}
use Rattle.rules.specs.Row.{Line}
use Rattle.rules.specs.Sheet.{key_of, lines_text}

unfoldable pub size_of : List Line → List (List ℕ) → ℕ
size_of [] ws = 0
size_of (l ∷ ls) [] = 0
size_of (l ∷ ls) (w ∷ ws) = length (key_of l) + length w + suc (size_of ls ws)

pub lines-size : (ls : List Line) (ws : List (List ℕ)) → length (ended 0x0A (lines_text ls ws)) ≡ size_of ls ws
unfolding lines_text size_of ended
lines-size [] ws = refl
lines-size (l ∷ ls) [] = refl
lines-size (l ∷ ls) (w ∷ ws) = rw (length-append, length-append, lines-size ls ws)
