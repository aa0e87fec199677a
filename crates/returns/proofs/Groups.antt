-- What holds of a group's lines, one by one. Assumes nothing.
use mathlib.Core.Path.{◌≡◌, refl, sym}
use mathlib.Core.Bool.{Bool, true, false, not, ◌||◌}
use mathlib.Core.List.{List, [], ◌∷◌, ◌++◌}
use Prim.Native.Nat.{ℕ}
use borrow.Author.Tests.{eqb-true}
use Rattle.rules.specs.Lists.{bytes, empty, filled, same}
use Rattle.rules.specs.Told.{◌then◌, ◌when◌}
use Rattle.rules.specs.Value.{Rule, fault, too_long, holds, fits}
use Rattle.rules.specs.Row.{Line}
use Rattle.rules.specs.Sheet.{line_ok, good}
use Rattle.rules.proofs.Logic.{cases, never, both, not-true, not-false, then-none, when-none}

-- ---- a value that is not `""` and keeps its rule
abbrev pub Keeps : Bool → Rule → List ℕ → Type 0
Keeps required r v = (same v (bytes "\"\"") ≡ false) × (fits required r v ≡ true)

pub no-fault : (q : Bool) (r : Rule) (v : List ℕ) → fits q r v ≡ true → fault q r v ≡ 0
no-fault q r v h = eqb-true (fault q r v) 0 h

-- a filled one keeps the rule of a place that must be filled, too; and one that must be filled is filled
pub filled-must : (q : Bool) (r : Rule) (v : List ℕ) → (filled v || not q) ≡ true → fits false r v ≡ true → fits q r v ≡ true
unfolding fault
filled-must false r v e h = h
filled-must true r v e h = cases (empty v) (λ f. never (sym (rw f at e))) (λ f. rw f (rw f at h))

pub must-may : (q : Bool) (r : Rule) (v : List ℕ) → fits q r v ≡ true → fits false r v ≡ true
unfolding fault
must-may false r v h = h
must-may true r v h = cases (empty v) (λ f. rw f) (λ f. rw f (rw f at h))

pub must-filled : (r : Rule) (v : List ℕ) → fits true r v ≡ true → empty v ≡ false
unfolding fault
must-filled r v h = cases (empty v) (λ f. never (sym (rw f at h))) (λ f. f)

-- what a filled value meets
pub meets-rule : (q : Bool) (r : Rule) (v : List ℕ) → empty v ≡ false → fits q r v ≡ true → (too_long r v ≡ false) × (holds r v ≡ true)
meets-rule q r v e h =
    let n : ◌then◌ (24 when too_long r v) (25 when not (holds r v)) ≡ 0 = unfold fault in rw e at (no-fault q r v h) in
    let t = then-none (24 when too_long r v) (25 when not (holds r v)) n in
    (when-none 23 (too_long r v) t.0, not-false (holds r v) (when-none 24 (not (holds r v)) t.1))

-- ---- each line's value, given those before it
abbrev pub Fact : Line → List (List ℕ) → List ℕ → Type 0
Fact l vs w = (same w (bytes "\"\"") ≡ false) × (l.holds (vs ++ (w ∷ [])) w ≡ true)

abbrev pub Facts : List Line → List (List ℕ) → List (List ℕ) → Type 0
Facts [] vs [] = Unit
Facts [] vs (w ∷ ws) = ⊥
Facts (l ∷ ls) vs [] = ⊥
Facts (l ∷ ls) vs (w ∷ ws) = Fact l vs w × Facts ls (vs ++ (w ∷ [])) ws

pub facts : (ls : List Line) (vs ws : List (List ℕ)) → good ls vs ws ≡ true → Facts ls vs ws
unfolding good line_ok
facts [] vs [] h = tt
facts [] vs (w ∷ ws) h = never (sym h)
facts (l ∷ ls) vs [] h = never (sym h)
facts (l ∷ ls) vs (w ∷ ws) h =
    let p = both (line_ok l vs w) (good ls (vs ++ (w ∷ [])) ws) h in
    let q = both (not (same w (bytes "\"\""))) (l.holds (vs ++ (w ∷ [])) w) p.0 in
    ((not-true (same w (bytes "\"\"")) q.0, q.1), facts ls (vs ++ (w ∷ [])) ws p.1)

pub facts-good : (ls : List Line) (vs ws : List (List ℕ)) → Facts ls vs ws → good ls vs ws ≡ true
unfolding good line_ok
facts-good [] vs [] h = refl
facts-good [] vs (w ∷ ws) h = absurd h
facts-good (l ∷ ls) vs [] h = absurd h
facts-good (l ∷ ls) vs (w ∷ ws) h = rw (h.0.0, h.0.1) (facts-good ls (vs ++ (w ∷ [])) ws h.1)
