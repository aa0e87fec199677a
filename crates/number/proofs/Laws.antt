-- Laws of NM. Assumes nothing.
use Prim.Native.Nat.{ℕ, ◌+◌, ◌-◌, ◌≤◌, ◌<◌}
use native.Mathlib.Nat.{zero-add}
use native.Mathlib.Omega.{arith}
use mathlib.Core.Path.{◌≡◌, refl, ◌∙◌}
use mathlib.Core.List.{List, [], ◌∷◌, foldl}
use mathlib.Core.Bool.{Bool, true, false, cond, not, ◌&&◌, ◌||◌}
use borrow.Author.Tests.{lt-leb}
use lib.Dec.{eqb, leb}
use lib.ListN.{length, get_or, take, drop}
use Rattle.rules.specs.Lists.{all, any, count}
use Rattle.rules.specs.Frame.{digit}
use Rattle.rules.specs.Value as Val
use Rattle.rules.proofs.Logic.{and-false, or_assoc, and-true, or-false}
use Rattle.rules.proofs.Lists.{rest-is, all_cons, any-cons}
use Rattle.number.specs.Number.{read_byte, none_read}
use Rattle.number.specs.declared.Spelling.{Spelling}

-- ---- NM
pub read_is : (t : Spelling) (b : ℕ) (d : Bool) → d ≡ digit b
    → record { good = t.good && (d || eqb b 46) && not (eqb b 46 && t.point); point = t.point || eqb b 46; digit = t.digit || d } ≡ read_byte t b
unfolding read_byte
read_is t b d e = rw e

abbrev one_if : Bool → ℕ
one_if t = cond t 1 0

abbrev numeral : ℕ → Bool
numeral b = digit b || Val.point b

-- "at most one point": whether one was met, whether the next byte is one, and how many are left
points-few : (a : Bool) → leb (one_if a + 0) 1 ≡ true
points-few true = refl
points-few false = refl

points_on : (a b : Bool) (n : ℕ) → leb (one_if a + (one_if b + n)) 1 ≡ (not (b && a) && leb (one_if (a || b) + n) 1)
points_on true true n = lt-leb (1 + (1 + n)) 1 (omega arith)
points_on true false n = simp zero-add
points_on false true n = simp zero-add
points_on false false n = simp zero-add

regroup : (g k q a l : Bool) → (g && (k && a) && (q && l)) ≡ (g && k && q && a && l)
regroup false k q a l = refl
regroup true false q a l = refl
regroup true true true a l = refl
regroup true true false a l = and-false a

-- from any spelling on: what it has shown, and what is left
spelled-from : (t : Spelling) (v : List ℕ)
    → ((foldl read_byte t v).good && (foldl read_byte t v).digit)
    ≡ (t.good && all numeral v && leb (one_if t.point + count Val.point v) 1 && (t.digit || any digit v))
unfolding all any count read_byte
spelled-from t [] = cc (and-true t.good, points-few t.point, or-false t.digit)
spelled-from t (b ∷ v) =
    spelled-from (read_byte t b) v
    ∙ cc (
      all_cons numeral b v,
      any-cons digit b v,
      points_on t.point (Val.point b) (count Val.point v),
      or_assoc t.digit (digit b) (any digit v),
      regroup t.good (numeral b) (not (Val.point b && t.point)) (all numeral v) (leb (one_if (t.point || Val.point b) + count Val.point v) 1),
    )

-- the fold accepts the spellings of the definitions
pub spelled_is : (v : List ℕ) → ((foldl read_byte none_read v).good && (foldl read_byte none_read v).digit) ≡ Val.spelled v
unfolding Val.spelled
spelled_is v = spelled-from none_read v ∙ rw zero-add

pub number_is_lem : (v s : List ℕ) (t : Spelling) → s ≡ Val.unsigned v → t ≡ foldl read_byte none_read s → (t.good && t.digit) ≡ Val.holds Val.numeric v
unfolding Val.holds
number_is_lem v s t es et = cc (spelled_is s)

pub sign-none : (v : List ℕ) → length v < 1 → v ≡ Val.unsigned v
unfolding Val.unsigned
sign-none [] h = refl
sign-none (b ∷ s) h = absurd (omega arith)

pub sign-yes : (v : List ℕ) → 1 ≤ length v → (eqb (get_or v 0 0) 43 || eqb (get_or v 0 0) 45) ≡ true → take (length v - 1) (drop 1 v) ≡ Val.unsigned v
unfolding Val.unsigned
sign-yes [] h e = absurd (omega arith)
sign-yes (b ∷ s) h e = cc (rest-is (b ∷ s) 1)

pub sign-no : (v : List ℕ) → 1 ≤ length v → (eqb (get_or v 0 0) 43 || eqb (get_or v 0 0) 45) ≡ false → v ≡ Val.unsigned v
unfolding Val.unsigned
sign-no [] h e = absurd (omega arith)
sign-no (b ∷ s) h e = cc

pub ruleset past_sign-laws = (sign-none, sign-yes, sign-no)
