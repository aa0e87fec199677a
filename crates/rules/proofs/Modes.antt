-- Laws of the shift modes and of bytes as they are met. Assumes nothing.
use mathlib.Core.Path.{◌≡◌, refl, ap, ◌∙◌}
use mathlib.Core.Bool.{true, cond, ◌&&◌}
use mathlib.Core.List.{List, [], ◌∷◌, ◌++◌}
use Prim.Native.Nat.{ℕ, zero, suc, ◌+◌, ◌-◌, ◌<◌, ◌≤◌}
use native.Mathlib.Omega.{arith}
use borrow.Author.Tests.{eqb-true, ne_eqb, lt-ltb, le-ltb, le-leb}
use lib.Dec.{eqb}
use lib.ListN.{length, get_or, take, drop}
use Rattle.rules.specs.declared.Mode.{Mode}
use Rattle.rules.specs.declared.Mode.TheVariants.{One, Esc1, Esc2, Two, Second, Back1, Back2, Bad}
use Rattle.rules.specs.Shift.{step, is_one, walk, keeps, mark, marks, met, byte_of}
use Rattle.rules.proofs.Logic.{cases, or-true}
use Rattle.rules.proofs.Lists.{here, over}

-- ---- what holds in each mode
pub in_modes : (P : Mode → Type 0) → P One → P Esc1 → P Esc2 → P Two → P Second → P Back1 → P Back2 → P Bad → (m : Mode) → P m
in_modes P a b c d e f g h One = a
in_modes P a b c d e f g h Esc1 = b
in_modes P a b c d e f g h Esc2 = c
in_modes P a b c d e f g h Two = d
in_modes P a b c d e f g h Second = e
in_modes P a b c d e f g h Back1 = f
in_modes P a b c d e f g h Back2 = g
in_modes P a b c d e f g h Bad = h

pub one-is : (m : Mode) → is_one m ≡ true → m ≡ One
unfolding is_one
one-is One e = refl
one-is Esc1 e = cc
one-is Esc2 e = cc
one-is Two e = cc
one-is Second e = cc
one-is Back1 e = cc
one-is Back2 e = cc
one-is Bad e = cc

-- ---- the mode after a text
pub walk-append : (end : ℕ) (m : Mode) (a b : List ℕ) → walk end m (a ++ b) ≡ walk end (walk end m a) b
unfolding walk
walk-append end m [] b = refl
walk-append end m (x ∷ a) b = walk-append end (step end m x) a b

pub walk_step : (end : ℕ) (m : Mode) (x : ℕ) (s : List ℕ) {n : Mode} → step end m x ≡ n → walk end m (x ∷ s) ≡ walk end n s
unfolding walk
walk_step end m x s e = ap (λ (z : Mode). walk end z s) e

-- a broken rule stays broken
pub walk-bad : (end : ℕ) (s : List ℕ) → walk end Bad s ≡ Bad
unfolding walk step
walk-bad end [] = refl
walk-bad end (b ∷ s) = walk-bad end s

-- ---- a text as it is met
pub marks-nil : (end : ℕ) (m : Mode) → marks end m [] ≡ []
unfolding marks
marks-nil end m = refl

pub marks-cons : (end : ℕ) (m : Mode) (b : ℕ) (s : List ℕ) → marks end m (b ∷ s) ≡ mark m b ∷ marks end (step end m b) s
unfolding marks
marks-cons end m b s = refl

pub marks-append : (end : ℕ) (m : Mode) (a b : List ℕ) → marks end m (a ++ b) ≡ marks end m a ++ marks end (walk end m a) b
unfolding marks walk
marks-append end m [] b = refl
marks-append end m (x ∷ a) b = ap (λ (r : List ℕ). mark m x ∷ r) (marks-append end (step end m x) a b)

pub met-append : (a b : List ℕ) → keeps 0x0D a ≡ true → met (a ++ b) ≡ met a ++ met b
unfolding met keeps
met-append a b h = marks-append 0x0D One a b ∙ rw (one-is (walk 0x0D One a) h)

pub met-three : (s v r : List ℕ) → keeps 0x0D s ≡ true → keeps 0x0D v ≡ true → met (s ++ (v ++ r)) ≡ met s ++ (met v ++ met r)
met-three s v r hs hv = cc (met-append s (v ++ r) hs, met-append v r hv)

pub length-marks : (end : ℕ) (m : Mode) (a : List ℕ) → length (marks end m a) ≡ length a
unfolding marks
length-marks end m [] = refl
length-marks end m (x ∷ a) = ap suc (length-marks end (step end m x) a)

pub length-met : (s : List ℕ) → length (met s) ≡ length s
unfolding met
length-met s = length-marks 0x0D One s

mark-unique : (m : Mode) (x y : ℕ) → mark m x ≡ mark m y → x ≡ y
unfolding mark
mark-unique m x y e =
    cases (is_one m) (λ o. rw o at e) (λ o. let z : 256 + x ≡ 256 + y = rw o at e in omega arith)

marks-unique : (m : Mode) (a b : List ℕ) → marks 0x0D m a ≡ marks 0x0D m b → a ≡ b
unfolding marks
marks-unique m [] [] e = refl
marks-unique m [] (y ∷ b) e = cc
marks-unique m (x ∷ a) [] e = cc
marks-unique m (x ∷ a) (y ∷ b) e =
    let q = mark-unique m x y (cc) in
    let r : marks 0x0D (step 0x0D m y) a ≡ marks 0x0D (step 0x0D m y) b = cc in
    cc (q, marks-unique (step 0x0D m y) a b r)

-- two texts that are met the same are the same
pub met-unique : (a b : List ℕ) → met a ≡ met b → a ≡ b
unfolding met
met-unique a b e = marks-unique One a b e

-- what a walk by an index sees at i, and at the end
pub marks-here : (end : ℕ) (s : List ℕ) (i : ℕ) (m : Mode) → i < length s
    → marks end m (drop i s) ≡ mark m (get_or s i 0) ∷ marks end (step end m (get_or s i 0)) (drop (i + 1) s)
marks-here end s i m h = ap (marks end m) (here 0 s i h) ∙ marks-cons end m (get_or s i 0) (drop (i + 1) s)

pub marks-over : (end : ℕ) (s : List ℕ) (i : ℕ) (m : Mode) → length s ≤ i → marks end m (drop i s) ≡ []
marks-over end s i m h = ap (marks end m) (over s i h) ∙ marks-nil end m

pub take-marks : (end n : ℕ) (m : Mode) (s : List ℕ) → take n (marks end m s) ≡ marks end m (take n s)
unfolding marks
take-marks end zero m s = refl
take-marks end (suc n) m [] = refl
take-marks end (suc n) m (b ∷ s) = cc (take-marks end n (step end m b) s)

-- ---- one byte as it is met
pub met-as : (m : Mode) (b a : ℕ) → a < 256 → eqb (mark m b) a ≡ (is_one m && eqb b a)
unfolding mark
met-as m b a h = cases (is_one m) (λ e. rw e) (λ e. rw e (ne_eqb (256 + b) a (omega arith)))

-- a separator that is met stands in one-byte mode
pub met-one : (m : Mode) (b a : ℕ) → a < 256 → eqb (mark m b) a ≡ true → (m ≡ One) × (b ≡ a)
unfolding mark is_one
met-one m b a h e =
    cases (is_one m) (λ o. let q : eqb b a ≡ true = rw o at e in (one-is m o, eqb-true b a q))
    (λ o. let q : eqb (256 + b) a ≡ true = rw o at e in let z : 256 + b ≡ a = eqb-true (256 + b) a q in absurd (omega arith))

-- the byte behind the mark
pub byte-met : (m : Mode) (b : ℕ) → b < 256 → byte_of (mark m b) ≡ b
unfolding mark
byte-met m b h =
    cases (is_one m) (λ o. rw (o, lt-ltb b 256 h))
    (λ o. rw (o, le-ltb (256 + b) 256 (omega arith)) (let z : 256 + b - 256 ≡ b = omega arith in z))

-- after a printable byte of one-byte mode, one-byte mode
pub still_one : (end a : ℕ) → 0x20 ≤ a → a ≤ 0x7E → step end One a ≡ One
unfolding step
still_one end a low high =
    rw (ne_eqb a 0x1B (omega arith), le-leb 0x20 a low, le-leb a 0x7E high) (ap (λ t. cond t One Bad) (or-true (eqb a end)))

-- what follows a printable byte that is met in one-byte mode is met from one-byte mode on
pub met-rest : (end : ℕ) (m : Mode) (b a : ℕ) (s : List ℕ) → 0x20 ≤ a → a ≤ 0x7E → eqb (mark m b) a ≡ true → marks end (step end m b) s ≡ marks end One s
met-rest end m b a s low high e =
    let q = met-one m b a (omega arith) e in
    rw (q.0, q.1, still_one end a low high)
