-- A segment by its pattern: `|^~\&` stand for the five delimiters, `$` for the next text, escaped, `#` for the next as it is, and any
-- other byte for itself.
use Rattle.std.specs.Prelude.{cond, List, [], ◌∷◌, ◌++◌, ℕ, ◌+◌, eqb, length, drop}
use Prim.Native.Char.{code}
use Rattle.std.specs.Borrow.{Bor}
use Rattle.rules.specs.declared.Delims.{Delims}
use Rattle.rules.specs.Escape.{escape}

unfoldable pub delimiter_of : Delims → ℕ → ℕ
delimiter_of d b =
    cond (eqb b (code "|")) d.field
    (cond (eqb b (code "^")) d.component
    (cond (eqb b (code "~")) d.repetition
    (cond (eqb b (code "\\")) d.escape
    (cond (eqb b (code "&")) d.sub b))))

-- how many texts a byte of the pattern takes, and what is written for it where t is the next text
unfoldable pub taken : ℕ → ℕ
taken b = cond (eqb b (code "$")) 1 (cond (eqb b (code "#")) 1 0)

unfoldable pub slot_text : Delims → ℕ → List ℕ → List ℕ
slot_text d b t = cond (eqb b (code "$")) (escape d t) (cond (eqb b (code "#")) t (delimiter_of d b ∷ []))

unfoldable pub first_text : List (Bor (List ℕ)) → List ℕ
first_text [] = []
first_text (t ∷ ts) = t.now

unfoldable pub woven : Delims → List ℕ → List (Bor (List ℕ)) → List ℕ
woven d [] ts = []
woven d (b ∷ p) ts = slot_text d b (first_text ts) ++ woven d p (drop (taken b) ts)

-- how many texts a pattern takes; how long some texts are
unfoldable pub holes : List ℕ → ℕ
holes [] = 0
holes (b ∷ p) = taken b + holes p

unfoldable pub sizes : List (Bor (List ℕ)) → ℕ
sizes [] = 0
sizes (t ∷ ts) = length t.now + sizes ts
