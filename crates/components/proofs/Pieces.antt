-- The specification's pieces, as the walk finds them. Assumes nothing.
use Prim.Native.Nat.{ℕ, zero, suc, ◌+◌, ◌≤◌, ◌<◌}
use native.Mathlib.Omega.{arith}
use mathlib.Core.Path.{◌≡◌, refl, sym, ap, ◌∙◌}
use mathlib.Core.List.{List, [], ◌∷◌}
use mathlib.Core.Bool.{Bool, true, false, ◌||◌}
use borrow.Author.Tests.{eqb-true, lt-ltb, le-ltb}
use lib.Dec.{eqb, ltb, leb-suc-suc}
use lib.ListN.{length, drop}
use Rattle.rules.specs.declared.Delims.{Delims}
use Rattle.rules.specs.Lists.{split, onto, has, nth}
use Rattle.rules.specs.Proper.{Proper}
use Rattle.rules.proofs.Logic.{cases, never, neither, or-false}
use Rattle.rules.proofs.Lists.{has-nil, has_here, has_there, has_first}
use Rattle.rules.proofs.Split.{split-nil, split-here, split-there, split-none, pieces-length}
use Rattle.plain_bytes.specs.Bytes.{until, is_byte}
use Rattle.scan.specs.Scan.{ends, after_sep, onward, next, next_from}
use Rattle.scan.proofs.Laws.{until-yes, until-no, until-nil, first_piece}
use Rattle.components.specs.Components.{ends_repetition, forward}

-- ---- the n-th piece
onto-tail : (x n : ℕ) (ps : List (List ℕ)) → nth (onto x ps) (suc n) ≡ nth ps (suc n)
unfolding onto
onto-tail x n [] = refl
onto-tail x n (p ∷ ps) = refl

blank-piece : (n : ℕ) → nth ([] ∷ []) n ≡ []
blank-piece zero = refl
blank-piece (suc n) = refl

later-piece : (sep n : ℕ) (s : List ℕ) → nth (split sep s) (suc n) ≡ nth (split sep (after_sep sep s)) n
unfolding split after_sep
later-piece sep n [] = sym (blank-piece n)
later-piece sep n (x ∷ s) = cases (eqb x sep) (λ e. cc) (λ e. cc (onto-tail x n (split sep s), later-piece sep n s))

pub piece-at : (sep n : ℕ) (s : List ℕ) → nth (split sep s) n ≡ until (is_byte sep) (onward sep n s)
unfolding onward
piece-at sep zero s = first_piece sep s
piece-at sep (suc n) s = later-piece sep n s ∙ piece-at sep n (after_sep sep s)

-- ---- the first piece and the others
pub split_after : (sep : ℕ) (s : List ℕ) → has sep s ≡ true → split sep s ≡ until (is_byte sep) s ∷ split sep (after_sep sep s)
unfolding until after_sep onto
split_after sep [] h = never (sym h ∙ has-nil sep)
split_after sep (x ∷ s) h =
    cases (eqb x sep) (λ e. cc (split-here sep x s e))
    (λ e. cc (split-there sep x s e, split_after sep s (sym (has_there sep x s e) ∙ h)))

after-within : (sep : ℕ) (s : List ℕ) → length (after_sep sep s) ≤ length s
unfolding after_sep
after-within sep [] = omega arith
after-within sep (x ∷ s) = cases (eqb x sep) (λ e. rw (e, after_sep) (omega arith)) (λ e. rw (e, after_sep) (omega (arith, after-within sep s)))

pub after-short : (sep : ℕ) (s : List ℕ) → 0 < length s → length (after_sep sep s) < length s
unfolding after_sep
after-short sep [] h = absurd (omega arith)
after-short sep (x ∷ s) h = cases (eqb x sep) (λ e. rw (e, after_sep) (omega arith)) (λ e. rw (e, after_sep) (omega (arith, after-within sep s)))

pub after_free : (sep x : ℕ) (s : List ℕ) → has x s ≡ false → has x (after_sep sep s) ≡ false
unfolding after_sep
after_free sep x [] h = h
after_free sep x (b ∷ s) h = let q = has_first x b s h in cases (eqb b sep) (λ e. cc q.1) (λ e. cc (after_free sep x s q.1))

-- from one separator to a later one
pub onward-within : (sep n : ℕ) (s : List ℕ) → length (onward sep n s) ≤ length s
unfolding onward
onward-within sep zero s = omega arith
onward-within sep (suc n) s = omega (arith, onward-within sep n (after_sep sep s), after-within sep s)

-- ---- how many pieces there are
pub after_none : (sep : ℕ) (s : List ℕ) → has sep s ≡ false → after_sep sep s ≡ []
unfolding after_sep
after_none sep [] h = refl
after_none sep (x ∷ s) h = let q = has_first sep x s h in cc (q.0, after_none sep s q.1)

after-some : (sep : ℕ) (s : List ℕ) → has sep s ≡ true → length (split sep s) ≡ suc (length (split sep (after_sep sep s)))
after-some sep s h = ap length (split_after sep s h)

-- more than n + 1 pieces: a separator after the n-th
pieces-over : (sep n : ℕ) (s : List ℕ) → ltb (suc n) (length (split sep s)) ≡ has sep (onward sep n s)
unfolding onward
pieces-over sep zero s =
    cases (has sep s)
    (λ e. lt-ltb 1 (length (split sep s)) (omega (arith, after-some sep s e, pieces-length sep (after_sep sep s))) ∙ sym e)
    (λ e. ap (λ (l : List (List ℕ)). ltb 1 (length l)) (split-none sep s e) ∙ sym e)
pieces-over sep (suc n) s =
    cases (has sep s)
    (λ e. ap (ltb (suc (suc n))) (after-some sep s e) ∙ leb-suc-suc (suc (suc n)) (length (split sep (after_sep sep s))) ∙ pieces-over sep n (after_sep sep s))
    (λ e. ap (λ (l : List (List ℕ)). ltb (suc (suc n)) (length l)) (split-none sep s e)
    ∙ le-ltb (suc (suc n)) 1 (omega arith) ∙ sym (le-ltb (suc n) 1 (omega arith))
    ∙ ap (λ (l : List (List ℕ)). ltb (suc n) (length l)) (sym (split-nil sep)) ∙ pieces-over sep n [] ∙ ap (λ (l : List ℕ). has sep (onward sep n l)) (sym (after_none sep s e)))

-- ---- a stretch up to a byte, and up to another
until-both : (p q r : ℕ → Bool) → ((b : ℕ) → r b ≡ (p b || q b)) → (s : List ℕ) → until q (until p s) ≡ until r s
unfolding until
until-both p q r w [] = refl
until-both p q r w (x ∷ s) =
    cases (p x) (λ e. cc (w x)) (λ e. cases (q x) (λ f. cc (w x)) (λ f. cc (w x, until-both p q r w s)))

pub until_none : (sep : ℕ) (s : List ℕ) → has sep s ≡ false → until (is_byte sep) s ≡ s
unfolding until
until_none sep [] h = refl
until_none sep (x ∷ s) h = let q = has_first sep x s h in cc (q.0, until_none sep s q.1)

pub until-free : (sep : ℕ) (s : List ℕ) → has sep (until (is_byte sep) s) ≡ false
unfolding until
until-free sep [] = has-nil sep
until-free sep (x ∷ s) = cases (eqb x sep) (λ e. cc (has-nil sep)) (λ e. cc (has_there sep x (until (is_byte sep) s) e, until-free sep s))

-- a field's repetition; a repetition's component
pub repetition-is : (d : Delims) (m : List ℕ) → until (is_byte d.repetition) (until (is_byte d.field) m) ≡ until (ends_repetition d) m
repetition-is d m = until-both (is_byte d.field) (is_byte d.repetition) (ends_repetition d) (λ b. refl) m

component-is : (d : Delims) (m : List ℕ) → until (is_byte d.component) (until (ends_repetition d) m) ≡ until (ends d) m
unfolding ends
component-is d m = until-both (ends_repetition d) (is_byte d.component) (ends d) (λ b. refl) m

-- ---- one component on
ends-no : (d : Delims) (x : ℕ) → ends d x ≡ false → (ends_repetition d x ≡ false) × (eqb x d.component ≡ false)
unfolding ends
ends-no d x e = neither (ends_repetition d x) (eqb x d.component) e

ends-yes : (d : Delims) (x : ℕ) → ends d x ≡ true → eqb x d.component ≡ false → ends_repetition d x ≡ true
unfolding ends
ends-yes d x e f = sym (or-false (ends_repetition d x)) ∙ ap (λ (t : Bool). ends_repetition d x || t) (sym f) ∙ e

next-there : (d : Delims) (x : ℕ) (m : List ℕ) → ends d x ≡ false → next d (x ∷ m) ≡ next d m
unfolding next
next-there d x m e = rw (until-no (ends d) x m e)

next_here : (d : Delims) (x : ℕ) (m : List ℕ) → ends d x ≡ true → next d (x ∷ m) ≡ next_from d (x ∷ m)
unfolding next
next_here d x m e = rw (until-yes (ends d) x m e)

next-nil : (d : Delims) → next d [] ≡ []
unfolding next next_from
next-nil d = rw (until-nil (ends d))

-- a byte stands inside a component, between two, or ends the repetition
byte_cases : {P : Type 0} (d : Delims) → Proper d → (x : ℕ) (m : List ℕ)
    → (eqb x d.field ≡ false → eqb x d.repetition ≡ false → eqb x d.component ≡ false → next d (x ∷ m) ≡ next d m → P)
    → (eqb x d.field ≡ false → eqb x d.repetition ≡ false → eqb x d.component ≡ true → next d (x ∷ m) ≡ m → P)
    → (ends_repetition d x ≡ true → next d (x ∷ m) ≡ x ∷ m → P) → P
unfolding next_from
byte_cases d p x m inside between past =
    cases (ends d x)
    (λ e. cases (eqb x d.component)
    (λ f. let q : x ≡ d.component = eqb-true x d.component f in
    between (rw q p.component-field) (rw q p.component-repetition) f (next_here d x m e ∙ cc))
    (λ f. past (ends-yes d x e f) (next_here d x m e ∙ cc)))
    (λ e. let q = ends-no d x e in
    let r = neither (eqb x d.field) (eqb x d.repetition) q.0 in
    inside r.0 r.1 q.1 (next-there d x m e))

module _ (d : Delims) (p : Proper d) where
  -- in the repetition at the start
  after_next : (m : List ℕ) → after_sep d.component (until (ends_repetition d) m) ≡ until (ends_repetition d) (next d m)
  unfolding after_sep until
  after_next [] = rw (next-nil d)
  after_next (x ∷ m) =
      byte_cases d p x m (λ f r c n. cc (after_next m)) (λ f r c n. cc) (λ e n. cc)

  onward-forward : (n : ℕ) (m : List ℕ) → onward d.component n (until (ends_repetition d) m) ≡ until (ends_repetition d) (forward d n m)
  unfolding onward forward
  onward-forward zero m = refl
  onward-forward (suc n) m = ap (onward d.component n) (after_next m) ∙ onward-forward n (next d m)

  -- its components
  pub component-at : (n : ℕ) (m : List ℕ) → nth (split d.component (until (ends_repetition d) m)) n ≡ until (ends d) (forward d n m)
  component-at n m = piece-at d.component n (until (ends_repetition d) m) ∙ ap (until (is_byte d.component)) (onward-forward n m) ∙ component-is d (forward d n m)

  -- in the field at the start
  next-repeats : (m : List ℕ) → has d.repetition (until (is_byte d.field) (next d m)) ≡ has d.repetition (until (is_byte d.field) m)
  unfolding until
  next-repeats [] = rw (next-nil d)
  next-repeats (x ∷ m) =
      byte_cases d p x m
      (λ f r c n. cc (has_there d.repetition x (until (is_byte d.field) m) r, next-repeats m))
      (λ f r c n. cc (has_there d.repetition x (until (is_byte d.field) m) r))
      (λ e n. cc)

  next-long : (m : List ℕ) → length m + length (until (is_byte d.field) (next d m)) ≡ length (next d m) + length (until (is_byte d.field) m)
  unfolding until
  next-long [] = rw (next-nil d)
  next-long (x ∷ m) =
      byte_cases d p x m
      (λ f r c n. let z : until (is_byte d.field) (x ∷ m) ≡ x ∷ until (is_byte d.field) m = cc in rw (n, z) (omega (arith, next-long m)))
      (λ f r c n. let z : until (is_byte d.field) (x ∷ m) ≡ x ∷ until (is_byte d.field) m = cc in rw (n, z) (omega arith))
      (λ e n. rw n)

  next-short : (m : List ℕ) → length (next d m) ≤ length m
  next-short [] = rw (next-nil d) (omega arith)
  next-short (x ∷ m) =
      byte_cases d p x m (λ f r c n. rw n (omega (arith, next-short m))) (λ f r c n. rw n (omega arith)) (λ e n. rw n (omega arith))

  pub forward-repeats : (n : ℕ) (m : List ℕ) → has d.repetition (until (is_byte d.field) (forward d n m)) ≡ has d.repetition (until (is_byte d.field) m)
  unfolding forward
  forward-repeats zero m = refl
  forward-repeats (suc n) m = forward-repeats n (next d m) ∙ next-repeats m

  pub forward-long : (n : ℕ) (m : List ℕ) → length m + length (until (is_byte d.field) (forward d n m)) ≡ length (forward d n m) + length (until (is_byte d.field) m)
  unfolding forward
  forward-long zero m = refl
  forward-long (suc n) m = omega (arith, forward-long n (next d m), next-long m)

  pub forward-short : (n : ℕ) (m : List ℕ) → length (forward d n m) ≤ length m
  unfolding forward
  forward-short zero m = omega arith
  forward-short (suc n) m = omega (arith, forward-short n (next d m), next-short m)

-- a field without repetitions is its first repetition
pub whole-field : (d : Delims) (m : List ℕ) → has d.repetition (until (is_byte d.field) m) ≡ false → until (is_byte d.field) m ≡ until (ends_repetition d) m
whole-field d m h = sym (until_none d.repetition (until (is_byte d.field) m) h) ∙ repetition-is d m

-- more than n + 1 components: another after the n-th
pub components-over : (d : Delims) → Proper d → (n : ℕ) (m : List ℕ) → has d.repetition (until (is_byte d.field) m) ≡ false
    → ltb (suc n) (length (split d.component (until (is_byte d.field) m))) ≡ has d.component (until (is_byte d.field) (forward d n m))
components-over d p n m h =
    pieces-over d.component n (until (is_byte d.field) m)
    ∙ ap (has d.component) (ap (onward d.component n) (whole-field d m h) ∙ onward-forward d p n m ∙ sym (whole-field d (forward d n m) (forward-repeats d p n m ∙ h)))

-- ---- one component on
pub forward-next : (d : Delims) (k : ℕ) (m : List ℕ) → forward d (suc k) m ≡ next d (forward d k m)
unfolding forward
forward-next d zero m = refl
forward-next d (suc k) m = forward-next d k (next d m)

-- ---- the rest of the field, from the end of its first component on
pub rest-long : (d : Delims) (m : List ℕ)
    → length (until (is_byte d.field) m) ≡ length (until (ends d) m) + length (until (is_byte d.field) (drop (length (until (ends d) m)) m))
rest-long d [] = rw (until-nil (is_byte d.field), until-nil (ends d)) (rw (until-nil (is_byte d.field)))
rest-long d (x ∷ m) =
    cases (ends d x)
    (λ e. rw (until-yes (ends d) x m e) (omega arith))
    (λ e. let q = neither (eqb x d.field) (eqb x d.repetition) (ends-no d x e).0 in
    rw (until-no (ends d) x m e, until-no (is_byte d.field) x m q.0) (omega (arith, rest-long d m)))

pub rest_more : (d : Delims) (m : List ℕ)
    → has d.repetition (until (is_byte d.field) m) ≡ has d.repetition (until (is_byte d.field) (drop (length (until (ends d) m)) m))
rest_more d [] = rw (until-nil (ends d))
rest_more d (x ∷ m) =
    cases (ends d x)
    (λ e. rw (until-yes (ends d) x m e))
    (λ e. let q = neither (eqb x d.field) (eqb x d.repetition) (ends-no d x e).0 in
    rw (until-no (ends d) x m e, until-no (is_byte d.field) x m q.0, has_there d.repetition x (until (is_byte d.field) m) q.1) (rest_more d m))

-- without repetitions, what is left of the field are further components
pub rest-none : (d : Delims) (m : List ℕ) → has d.repetition (until (is_byte d.field) m) ≡ false
    → ltb 0 (length (until (is_byte d.field) (drop (length (until (ends d) m)) m))) ≡ has d.component (until (is_byte d.field) m)
unfolding ends
rest-none d [] h = rw (until-nil (ends d), until-nil (is_byte d.field), has-nil d.component)
rest-none d (x ∷ m) h =
    cases (ends d x)
    (λ e. cases (eqb x d.field)
    (λ f. rw (until-yes (ends d) x m e, until-yes (is_byte d.field) x m f, has-nil d.component))
    (λ f. let u = until-no (is_byte d.field) x m f in
    let r = has_first d.repetition x (until (is_byte d.field) m) (rw u at h) in
    let c : eqb x d.component ≡ true = rw (f, r.0) at e in
    rw (until-yes (ends d) x m e, u, has_here d.component x (until (is_byte d.field) m) c) (lt-ltb 0 (suc (length (until (is_byte d.field) m))) (omega arith))))
    (λ e. let q = ends-no d x e in
    let f = (neither (eqb x d.field) (eqb x d.repetition) q.0).0 in
    let u = until-no (is_byte d.field) x m f in
    rw (until-no (ends d) x m e, u, has_there d.component x (until (is_byte d.field) m) q.1) (rest-none d m (has_first d.repetition x (until (is_byte d.field) m) (rw u at h)).1))
