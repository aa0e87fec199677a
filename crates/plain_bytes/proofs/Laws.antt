-- Laws of bytes. Assumes nothing.
use Rattle.std.specs.Prelude.{Option, unwrap_or}
use Rattle.std.specs.List.{list_all, position, position_or_len}
use Rattle.std.proofs.lemmas.List.Recursion.{is_position_or_len}
use Rattle.std.specs.Cmp.Lexicographic.{pointwise}
use Prim.Native.Nat.{ℕ, suc, ◌≤◌, ◌<◌}
use native.Mathlib.Omega.{arith}
use mathlib.Core.Path.{◌≡◌, refl, ap, ◌∙◌}
use mathlib.Core.List.{List, [], ◌∷◌}
use mathlib.Core.Bool.{Bool, false, cond}
use borrow.Author.Tests.{ltb-false}
use lib.Dec.{eqb, ltb}
use lib.ListN.{length, take, drop}
use Rattle.rules.specs.Lists.{all, same, split, onto}
use Rattle.rules.proofs.Logic.{cases}
use Rattle.plain_bytes.specs.Bytes.{until, is_byte}

-- two texts are the same
pub same-long : (a b : List ℕ) → (length a ≡ length b → ⊥) → false ≡ same a b
unfolding same
same-long [] [] h = absurd (h refl)
same-long [] (y ∷ b) h = refl
same-long (x ∷ a) [] h = refl
same-long (x ∷ a) (y ∷ b) h = cases (eqb x y) (λ e. cc (same-long a b (λ g. h (ap suc g)))) (λ e. cc)

-- ---- general: what stands before the first separator
until-length : (sep x : ℕ) (s : List ℕ) → length (until (is_byte sep) (x ∷ s)) ≡ cond (eqb x sep) 0 (suc (length (until (is_byte sep) s)))
unfolding until
until-length sep x s = cases (eqb x sep) (λ e. cc) (λ e. cc)

pub split-last : (sep : ℕ) (s : List ℕ) → length (until (is_byte sep) s) ≡ length s → split sep s ≡ s ∷ []
unfolding split until onto
split-last sep [] h = refl
split-last sep (x ∷ s) h =
    cases (eqb x sep)
    (λ e. absurd (omega (arith, rw e at (until-length sep x s))))
    (λ e. cc (split-last sep s (omega (arith, rw e at (until-length sep x s)))))

pub split-more : (sep : ℕ) (s : List ℕ) → length (until (is_byte sep) s) < length s
    → split sep s ≡ take (length (until (is_byte sep) s)) s ∷ split sep (drop (suc (length (until (is_byte sep) s))) s)
unfolding split until onto
split-more sep [] h = absurd (omega arith)
split-more sep (x ∷ s) h =
    cases (eqb x sep)
    (λ e. cc)
    (λ e. let z : length (until (is_byte sep) (x ∷ s)) ≡ suc (length (until (is_byte sep) s)) = cc in
    cc (split-more sep s (omega arith)))

-- ---- the library's words for the same
all-is : (p : ℕ → Bool) (s : List ℕ) → list_all p s ≡ all p s
unfolding all
all-is p [] = refl
all-is p (x ∷ s) = cases (p x) (λ e. cc (all-is p s)) (λ e. cc)

same-is : (a b : List ℕ) → pointwise eqb a b ≡ same a b
unfolding same
same-is [] [] = refl
same-is [] (y ∷ b) = refl
same-is (x ∷ a) [] = refl
same-is (x ∷ a) (y ∷ b) = cases (eqb x y) (λ e. cc (same-is a b)) (λ e. cc)

until-is : (sep : ℕ) (s : List ℕ) → length (until (is_byte sep) s) ≡ position_or_len (is_byte sep) s
unfolding until
until-is sep s = is_position_or_len (λ l. length (until (is_byte sep) l)) (is_byte sep) refl (λ x l. until-length sep x l ∙ ap (cond (eqb x sep) 0) (omega arith)) s

until-low : (sep : ℕ) (s : List ℕ) → length (until (is_byte sep) s) ≤ length s
unfolding until
until-low sep [] = omega arith
until-low sep (x ∷ s) = rw (until-length sep x s) (cases (eqb x sep) (λ e. rw e (omega arith)) (λ e. rw e (omega (arith, until-low sep s))))

-- the first place at which sep stands, or the end
before-is : (sep : ℕ) (s : List ℕ) → unwrap_or (position (is_byte sep) s) (length s) ≡ length (until (is_byte sep) s)
before-is sep s =
    rw (until-is sep s) (cases (ltb (position_or_len (is_byte sep) s) (length s))
    (λ e. cc)
    (λ e. let z : length s ≤ position_or_len (is_byte sep) s = ltb-false _ _ e in
    let y : position_or_len (is_byte sep) s ≤ length s = rw (until-is sep s) at (until-low sep s) in
    let x : length s ≡ position_or_len (is_byte sep) s = omega arith in cc))

pub all_by : (p : ℕ → Bool) (s : List ℕ) (r : Bool) → r ≡ list_all p s → r ≡ all p s
unfolding all
all_by p s r h = h ∙ all-is p s

pub same_by : (a b : List ℕ) (r : Bool) → r ≡ pointwise eqb a b → r ≡ same a b
unfolding same
same_by a b r h = h ∙ same-is a b

pub before_by : (sep : ℕ) (s : List ℕ) (o : Option ℕ) (r : ℕ) → o ≡ position (is_byte sep) s → r ≡ unwrap_or o (length s) → r ≡ length (until (is_byte sep) s)
before_by sep s o r g h = h ∙ rw g (before-is sep s)
