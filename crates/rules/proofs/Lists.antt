-- Laws of plain lists of bytes. Assumes nothing.
use mathlib.Core.Path.{◌≡◌, refl, sym, ap, ◌∙◌}
use mathlib.Core.Bool.{Bool, true, false, ◌&&◌, ◌||◌, false≢true}
use mathlib.Core.List.{List, [], ◌∷◌, ◌++◌}
use Prim.Native.Nat.{ℕ, zero, suc, ◌+◌, ◌-◌, ◌≤◌, ◌<◌}
use native.Mathlib.Numerals.{add-one}
use native.Mathlib.Omega.{arith}
use borrow.Author.Tests.{eqb-true, eqb-false}
use lib.Dec.{eqb}
use lib.ListN.{length, get_or, take, drop, drop_of_length-le, length-drop}
use lib.Seq.{drop-cons, drop-drop, take_all, length-take-le}
pub use lib.Seq.{drop-append_seam as drop_own, take-append_seam as take_own}
use Rattle.rules.specs.Lists.{empty, nth, same, starts, all, any, has}
use Rattle.rules.proofs.Logic.{cases, never, eqb-self, neither}

-- ---- a walk by an index
pub here : {A : Type 0} (d : A) (s : List A) (i : ℕ) → i < length s → drop i s ≡ get_or s i d ∷ drop (i + 1) s
here d s i h = rw (add-one, drop-cons s i d)

pub over : {A : Type 0} (s : List A) (i : ℕ) → length s ≤ i → drop i s ≡ []
over s i h = drop_of_length-le s h

-- the part from a on, as code takes it
pub rest-is : {A : Type 0} (s : List A) (a : ℕ) → take (length s - a) (drop a s) ≡ drop a s
rest-is s a = take_all (length s - a) (drop a s) (omega (arith, length-drop a s))

pub rest-length : {A : Type 0} (s : List A) (a : ℕ) → length (take (length s - a) (drop a s)) ≡ length s - a
rest-length s a = ap length (rest-is s a) ∙ length-drop a s

-- it is no longer than the whole, and what lies in it lies in the whole
pub rest-shorter : (s : List ℕ) (a k : ℕ) → length s ≤ k → length (take (length s - a) (drop a s)) ≤ k
rest-shorter s a k h = omega (arith, rest-length s a)

pub rest-within : (s : List ℕ) (a k : ℕ) → a ≤ length s → k ≤ length (take (length s - a) (drop a s)) → a + k ≤ length s
rest-within s a k h e = omega (arith, rest-length s a)

-- n elements of it stand before a separator, so it goes on behind that
pub rest-inside : {A : Type 0} (s : List A) (a n : ℕ) → n ≤ length (take (length s - a) (drop a s)) → (n ≡ length (take (length s - a) (drop a s)) → ⊥) → n < length (drop a s)
rest-inside s a n h e = let q : length (take (length s - a) (drop a s)) ≡ length (drop a s) = ap length (rest-is s a) in omega arith

pub rest-further : {A : Type 0} (s : List A) (a n : ℕ) → n < length (drop a s) → a + (n + 1) ≤ length s
rest-further s a n h = omega (arith, length-drop a s)

pub rest-on : {A : Type 0} (s : List A) (a n : ℕ) → drop (suc n) (drop a s) ≡ drop (a + (n + 1)) s
rest-on s a n = rw (drop-drop, add-one)

pub rest_end : {A : Type 0} (s : List A) (a n : ℕ) → n < length (drop a s) → a + suc (length (take n (drop a s))) ≡ a + (n + 1)
rest_end s a n h = omega (arith, length-take-le n (drop a s) (omega arith))

pub part_length : {A : Type 0} (n : ℕ) (s : List A) → n ≤ length s → n ≡ length (take n s)
part_length n s h = sym (length-take-le n s h)

-- ---- equal, starting with, empty
pub same-eq : (s t : List ℕ) → same s t ≡ true → s ≡ t
unfolding same
same-eq [] [] h = refl
same-eq [] (b ∷ t) h = cc
same-eq (a ∷ s) [] h = cc
same-eq (a ∷ s) (b ∷ t) h = cases (eqb a b) (λ e. cc (eqb-true a b e, same-eq s t (cc))) (λ e. cc)

pub same_self : (s : List ℕ) → same s s ≡ true
unfolding same
same_self [] = refl
same_self (a ∷ s) = cc (eqb-self a, same_self s)

pub starts-eq : (k t : List ℕ) → starts k t ≡ true → t ≡ k ++ drop (length k) t
unfolding starts
starts-eq [] t h = refl
starts-eq (b ∷ k) [] h = cc
starts-eq (b ∷ k) (a ∷ t) h = cases (eqb a b) (λ e. cc (eqb-true a b e, starts-eq k t (cc))) (λ e. cc)

pub starts-own : (k w : List ℕ) → starts k (k ++ w) ≡ true
unfolding starts
starts-own [] w = refl
starts-own (b ∷ k) w = cc (eqb-self b, starts-own k w)

-- a text shorter than a word doesn't start with it
pub starts-short : (k s : List ℕ) → length s < length k → starts k s ≡ false
unfolding starts
starts-short [] s h = absurd (omega arith)
starts-short (x ∷ k) [] h = refl
starts-short (x ∷ k) (b ∷ s) h = cases (eqb b x) (λ e. cc (starts-short k s (omega arith))) (λ e. cc)

-- only the first bytes count
pub starts-prefix : (k p x : List ℕ) → length k ≤ length p → starts k (p ++ x) ≡ starts k p
unfolding starts
starts-prefix [] p x h = refl
starts-prefix (b ∷ k) [] x h = absurd (omega arith)
starts-prefix (b ∷ k) (a ∷ p) x h = cases (eqb a b) (λ e. rw (e, starts) (starts-prefix k p x (omega arith))) (λ e. rw (e, starts))

pub empty-is : {A : Type 0} (s : List A) → empty s ≡ true → s ≡ []
unfolding empty
empty-is [] h = refl
empty-is (b ∷ s) h = cc

pub empty-zero : {A : Type 0} (s : List A) → length s ≡ 0 → empty s ≡ true
unfolding empty
empty-zero [] h = refl
empty-zero (b ∷ s) h = absurd (omega arith)

pub filled-some : {A : Type 0} (s : List A) → (length s ≡ 0 → ⊥) → empty s ≡ false
unfolding empty
filled-some [] h = absurd (h refl)
filled-some (b ∷ s) h = refl

-- ---- every element, some element
pub all_cons : {A : Type 0} (p : A → Bool) (x : A) (s : List A) → all p (x ∷ s) ≡ (p x && all p s)
unfolding all
all_cons p x s = cases (p x) (λ e. cc) (λ e. cc)

pub all_first : {A : Type 0} (p : A → Bool) (x : A) (s : List A) → all p (x ∷ s) ≡ true → (p x ≡ true) × (all p s ≡ true)
unfolding all
all_first p x s h = cases (p x) (λ e. (e, rw (e, all) at h)) (λ e. absurd (false≢true (rw (e, all) at h)))

pub any-cons : {A : Type 0} (p : A → Bool) (x : A) (s : List A) → any p (x ∷ s) ≡ (p x || any p s)
unfolding any
any-cons p x s = cases (p x) (λ e. cc) (λ e. cc)

pub any-nil : {A : Type 0} (p : A → Bool) → any p [] ≡ false
unfolding any
any-nil p = refl

pub any-first : {A : Type 0} (p : A → Bool) (x : A) (s : List A) → any p (x ∷ s) ≡ false → (p x ≡ false) × (any p s ≡ false)
unfolding any
any-first p x s h = cases (p x) (λ e. never (rw (e, any) at h)) (λ e. (e, rw (e, any) at h))

-- ---- x is an element
pub has-nil : (x : ℕ) → has x [] ≡ false
unfolding has any
has-nil x = refl

pub has-cons : (x b : ℕ) (s : List ℕ) → has x (b ∷ s) ≡ (eqb b x || has x s)
unfolding has
has-cons x b s = any-cons (λ (c : ℕ). eqb c x) b s

pub has_here : (x b : ℕ) (s : List ℕ) → eqb b x ≡ true → has x (b ∷ s) ≡ true
has_here x b s e = rw (has-cons x b s, e)

pub has_there : (x b : ℕ) (s : List ℕ) → eqb b x ≡ false → has x (b ∷ s) ≡ has x s
has_there x b s e = rw (has-cons x b s, e)

pub has_first : (x b : ℕ) (s : List ℕ) → has x (b ∷ s) ≡ false → (eqb b x ≡ false) × (has x s ≡ false)
has_first x b s h = cases (eqb b x) (λ e. never (sym (has_here x b s e) ∙ h)) (λ e. (e, sym (has_there x b s e) ∙ h))

pub has-append : (x : ℕ) (a b : List ℕ) → has x (a ++ b) ≡ (has x a || has x b)
has-append x [] b = rw (has-nil x)
has-append x (y ∷ a) b =
    cases (eqb y x)
    (λ e. cc (has_here x y a e, has_here x y (a ++ b) e))
    (λ e. cc (has_there x y a e, has_there x y (a ++ b) e, has-append x a b))

pub one_free : (x b : ℕ) → eqb b x ≡ false → has x (b ∷ []) ≡ false
one_free x b e = has_there x b [] e ∙ has-nil x

pub has-neither : (x : ℕ) (a b : List ℕ) → has x a ≡ false → has x b ≡ false → has x (a ++ b) ≡ false
has-neither x a b h k = rw (has-append x a b, h, k)

pub has_parts : (x : ℕ) (a b c : List ℕ) → has x (a ++ (b ++ c)) ≡ false → (has x a ≡ false) × (has x b ≡ false)
has_parts x a b c h =
    let p = neither (has x a) (has x (b ++ c)) (sym (has-append x a (b ++ c)) ∙ h) in
    (p.0, (neither (has x b) (has x c) (sym (has-append x b c) ∙ p.1)).0)

-- ---- what holds of each, of one
pub in_all : (p : ℕ → Bool) (x : ℕ) (s : List ℕ) → has x s ≡ true → all p s ≡ true → p x ≡ true
in_all p x [] h k = never (sym h ∙ has-nil x)
in_all p x (b ∷ s) h k =
    let q = all_first p b s k in
    cases (eqb b x) (λ e. rw (eqb-true b x e) at q.0) (λ e. in_all p x s (sym (has_there x b s e) ∙ h) q.1)

pub all_append : (p : ℕ → Bool) (s t : List ℕ) → all p s ≡ true → all p t ≡ true → all p (s ++ t) ≡ true
unfolding all
all_append p [] t h k = k
all_append p (x ∷ s) t h k = let q = all_first p x s h in cc (all_append p s t q.1 k)

pub all-each : (p q : ℕ → Bool) → ((b : ℕ) → p b ≡ true → q b ≡ true) → (s : List ℕ) → all p s ≡ true → all q s ≡ true
unfolding all
all-each p q f [] h = refl
all-each p q f (b ∷ s) h = let r = all_first p b s h in cc (f b r.0, all-each p q f s r.1)

-- one of some words
pub one_of : (p : List ℕ → Bool) (v : List ℕ) (ps : List (List ℕ)) → any (same v) ps ≡ true → all p ps ≡ true → p v ≡ true
unfolding any
one_of p v [] h k = never (sym h)
one_of p v (q ∷ ps) h k =
    let r = all_first p q ps k in
    cases (same v q) (λ e. rw (same-eq v q e) r.0) (λ e. one_of p v ps (rw (e, any) at h) r.1)

pub one_word : (v w : List ℕ) → any (same v) (w ∷ []) ≡ true → v ≡ w
unfolding any
one_word v w h = cases (same v w) (λ e. same-eq v w e) (λ e. cc)

-- what holds for each number of a range
unfoldable pub range : ℕ → ℕ → List ℕ
range low zero = []
range low (suc n) = low ∷ range (suc low) n

pub in-range : (p : ℕ → Bool) (low n : ℕ) → all p (range low n) ≡ true → (b : ℕ) → low ≤ b → b < low + n → p b ≡ true
unfolding range
in-range p low zero h b l u = absurd (omega arith)
in-range p low (suc n) h b l u =
    let q = all_first p low (range (suc low) n) h in
    cases (eqb low b) (λ e. rw (eqb-true low b e) at q.0) (λ e. in-range p (suc low) n q.1 b (omega (arith, eqb-false low b e)) (omega arith))

-- ---- the n-th of some texts
-- where another is altered; where empty ones are put last
pub nth-other : (ps : List (List ℕ)) (x y : List ℕ) (r : List (List ℕ)) (j : ℕ) → (j ≡ length ps → ⊥) → nth (ps ++ (x ∷ r)) j ≡ nth (ps ++ (y ∷ r)) j
nth-other [] x y r zero h = absurd (h refl)
nth-other [] x y r (suc j) h = refl
nth-other (p ∷ ps) x y r zero h = refl
nth-other (p ∷ ps) x y r (suc j) h = nth-other ps x y r j (λ e. h (ap suc e))

pub nth-more : (ps xs : List (List ℕ)) (j : ℕ) → ((i : ℕ) → j ≡ length ps + i → nth xs i ≡ []) → nth (ps ++ xs) j ≡ nth ps j
nth-more [] xs j h = h j (omega arith)
nth-more (p ∷ ps) xs zero h = refl
nth-more (p ∷ ps) xs (suc j) h = nth-more ps xs j (λ i e. h i (omega arith))

-- where it is the one
pub nth-at : (ps : List (List ℕ)) (x : List ℕ) (r : List (List ℕ)) → nth (ps ++ (x ∷ r)) (length ps) ≡ x
nth-at [] x r = refl
nth-at (p ∷ ps) x r = nth-at ps x r

pub nth-zero : (ps : List (List ℕ)) (x : List ℕ) (r : List (List ℕ)) → length ps ≡ 0 → nth (ps ++ (x ∷ r)) 0 ≡ x
nth-zero [] x r h = refl
nth-zero (p ∷ ps) x r h = absurd (omega arith)

pub nth-first : (ps : List (List ℕ)) (x y : List ℕ) (r s : List (List ℕ)) → 0 < length ps → nth (ps ++ (x ∷ r)) 0 ≡ nth (ps ++ (y ∷ s)) 0
nth-first [] x y r s h = absurd (omega arith)
nth-first (p ∷ ps) x y r s h = refl

-- a list of a known length is the list of its elements
unfoldable pub from : List (List ℕ) → ℕ → ℕ → List (List ℕ)
from ws k zero = []
from ws k (suc n) = get_or ws k [] ∷ from ws (suc k) n

pub exactly : (ws : List (List ℕ)) (k n : ℕ) → length ws ≡ k + n → drop k ws ≡ from ws k n
unfolding from
exactly ws k zero h = drop_of_length-le ws {i = k} (omega arith)
exactly ws k (suc n) h = drop-cons ws k [] (omega arith) ∙ ap (λ (r : List (List ℕ)). get_or ws k [] ∷ r) (exactly ws (suc k) n (omega arith))
