-- Laws of splitting at a separator, of joining, and of lines that are each ended. Assumes nothing.
use mathlib.Core.Path.{◌≡◌, refl, sym, ap, ◌∙◌}
use mathlib.Core.Bool.{Bool, true, false, not, ◌&&◌}
use mathlib.Core.List.{List, [], ◌∷◌, ◌++◌, append-nil, append_assoc}
use Prim.Native.Nat.{ℕ, suc}
use borrow.Author.Tests.{eqb-true}
use lib.Dec.{eqb}
use lib.ListN.{length, drop}
use Rattle.rules.specs.Lists.{empty, nth, has, onto, split, all_but_last, last, front, later, before, since, led, join, ended}
use Rattle.rules.proofs.Logic.{cases, both, not-true, eqb-self}
use Rattle.rules.proofs.Lists.{empty-is, has_first, has-nil, has_there, one_free, has-neither}

-- ---- one byte on
pub split-nil : (sep : ℕ) → split sep [] ≡ [] ∷ []
unfolding split
split-nil sep = refl

pub split-here : (sep b : ℕ) (s : List ℕ) → eqb b sep ≡ true → split sep (b ∷ s) ≡ [] ∷ split sep s
unfolding split
split-here sep b s e = rw (e, split)

pub split-there : (sep b : ℕ) (s : List ℕ) → eqb b sep ≡ false → split sep (b ∷ s) ≡ onto b (split sep s)
unfolding split
split-there sep b s e = rw (e, split)

onto-cons : (x : ℕ) (ps : List (List ℕ)) → onto x ps ≡ nth (onto x ps) 0 ∷ drop 1 (onto x ps)
unfolding onto
onto-cons x [] = refl
onto-cons x (p ∷ ps) = refl

-- there is always a first piece
pub split-cons : (sep : ℕ) (s : List ℕ) → split sep s ≡ front sep s ∷ later sep s
unfolding front later
split-cons sep [] = rw (split-nil sep)
split-cons sep (x ∷ s) = cases (eqb x sep) (λ e. rw (split-here sep x s e)) (λ e. rw (split-there sep x s e) (onto-cons x (split sep s)))

-- ---- a stretch without separators
pub split-free : (sep : ℕ) (v q : List ℕ) → has sep v ≡ false → split sep (v ++ q) ≡ (v ++ front sep q) ∷ later sep q
unfolding onto
split-free sep [] q h = split-cons sep q
split-free sep (b ∷ v) q h =
    let g = has_first sep b v h in
    cc (split-there sep b (v ++ q) g.0, split-free sep v q g.1)

pub front-free : (sep : ℕ) (v q : List ℕ) → has sep v ≡ false → front sep (v ++ q) ≡ v ++ front sep q
unfolding front
front-free sep v q h = cc (split-free sep v q h)

pub later-free : (sep : ℕ) (v q : List ℕ) → has sep v ≡ false → later sep (v ++ q) ≡ later sep q
unfolding later
later-free sep v q h = cc (split-free sep v q h)

pub split-none : (sep : ℕ) (s : List ℕ) → has sep s ≡ false → split sep s ≡ s ∷ []
unfolding onto
split-none sep [] h = split-nil sep
split-none sep (b ∷ v) h = let g = has_first sep b v h in cc (split-there sep b v g.0, split-none sep v g.1)

-- a separator first; after a stretch without one
pub split_at : (sep : ℕ) (q : List ℕ) → split sep (sep ∷ q) ≡ [] ∷ split sep q
split_at sep q = split-here sep sep q (eqb-self sep)

pub front-here : (sep : ℕ) (q : List ℕ) → front sep (sep ∷ q) ≡ []
unfolding front
front-here sep q = cc (split_at sep q)

pub front-there : (sep b : ℕ) (q : List ℕ) → eqb b sep ≡ false → front sep (b ∷ q) ≡ b ∷ front sep q
front-there sep b q e = front-free sep (b ∷ []) q (one_free sep b e)

pub split-next : (sep : ℕ) (p s : List ℕ) → has sep p ≡ false → split sep (p ++ (sep ∷ s)) ≡ p ∷ split sep s
unfolding onto
split-next sep [] s h = split_at sep s
split-next sep (b ∷ p) s h =
    let g = has_first sep b p h in
    cc (split-there sep b (p ++ (sep ∷ s)) g.0, split-next sep p s g.1)

-- ---- the pieces of two texts, one after the other: the last of the one and the first of the other are one piece
onto-glue : (b : ℕ) (ps : List (List ℕ)) (x : List ℕ) (r : List (List ℕ))
    → onto b (all_but_last ps ++ ((last ps ++ x) ∷ r)) ≡ all_but_last (onto b ps) ++ ((last (onto b ps) ++ x) ∷ r)
unfolding onto all_but_last last
onto-glue b [] x r = refl
onto-glue b (p ∷ []) x r = refl
onto-glue b (p ∷ q ∷ ps) x r = refl

glue-cons : (p : List ℕ) (ps : List (List ℕ)) (q : List ℕ) (qs : List (List ℕ)) → ps ≡ q ∷ qs
    → (all_but_last (p ∷ ps) ≡ p ∷ all_but_last ps) × (last (p ∷ ps) ≡ last ps)
unfolding all_but_last last
glue-cons p [] q qs e = (cc, cc)
glue-cons p (x ∷ ps) q qs e = (refl, refl)

pub split-glue : (sep : ℕ) (p q : List ℕ)
    → split sep (p ++ q) ≡ all_but_last (split sep p) ++ ((last (split sep p) ++ front sep q) ∷ later sep q)
split-glue sep [] q = unfold all_but_last last split in split-cons sep q
split-glue sep (b ∷ p) q =
    cases (eqb b sep)
    (λ e. let g = glue-cons [] (split sep p) (front sep p) (later sep p) (split-cons sep p) in cc (split-here sep b p e, split-here sep b (p ++ q) e, split-glue sep p q, g.0, g.1))
    (λ e. cc (split-there sep b p e, split-there sep b (p ++ q) e, split-glue sep p q, onto-glue b (split sep p) (front sep q) (later sep q)))

-- the pieces of a v r, with v without separators
pub split-three : (sep : ℕ) (a v r : List ℕ) → has sep v ≡ false
    → split sep (a ++ (v ++ r)) ≡ all_but_last (split sep a) ++ ((since sep a ++ (v ++ front sep r)) ∷ later sep r)
unfolding since
split-three sep a v r h = cc (split-glue sep a (v ++ r), front-free sep v r h, later-free sep v r h)

pub but_last-glue : (a : List (List ℕ)) (x : List ℕ) (r : List (List ℕ)) → all_but_last (a ++ (x ∷ r)) ≡ a ++ all_but_last (x ∷ r)
unfolding all_but_last
but_last-glue [] x r = refl
but_last-glue (p ∷ []) x r = refl
but_last-glue (p ∷ q ∷ a) x r = ap (λ (t : List (List ℕ)). p ∷ t) (but_last-glue (q ∷ a) x r)

-- a text that begins with a separator, or is empty, puts pieces at the end
rejoin : (p : List ℕ) (ps r : List (List ℕ)) → all_but_last (p ∷ ps) ++ (last (p ∷ ps) ∷ r) ≡ (p ∷ ps) ++ r
unfolding all_but_last last
rejoin p [] r = refl
rejoin p (q ∷ ps) r = ap (λ (t : List (List ℕ)). p ∷ t) (rejoin q ps r)

pub split-added : (sep : ℕ) (a x : List ℕ) → front sep x ≡ [] → split sep (a ++ x) ≡ split sep a ++ later sep x
split-added sep a x h =
    rw (split-glue sep a x, h, append-nil (last (split sep a)), split-cons sep a) (rejoin (front sep a) (later sep a) (later sep x))

-- ---- all but the last, and the last
but_last_lem : (p : List ℕ) (ps : List (List ℕ)) → length (p ∷ ps) ≡ suc (length (all_but_last (p ∷ ps)))
unfolding all_but_last
but_last_lem p [] = refl
but_last_lem p (q ∷ ps) = ap suc (but_last_lem q ps)

pub pieces-length : (sep : ℕ) (s : List ℕ) → length (split sep s) ≡ suc (length (all_but_last (split sep s)))
pieces-length sep s = rw (split-cons sep s) (but_last_lem (front sep s) (later sep s))

-- a first piece with more after it is before the last
pub but_last-split : (sep : ℕ) (p s : List ℕ) → all_but_last (p ∷ split sep s) ≡ p ∷ all_but_last (split sep s)
but_last-split sep p s = (glue-cons p (split sep s) (front sep s) (later sep s) (split-cons sep s)).0

pub last-split : (sep : ℕ) (p s : List ℕ) → last (p ∷ split sep s) ≡ last (split sep s)
last-split sep p s = (glue-cons p (split sep s) (front sep s) (later sep s) (split-cons sep s)).1

pub but_last-snoc : (ps : List (List ℕ)) → all_but_last (ps ++ ([] ∷ [])) ≡ ps
unfolding all_but_last
but_last-snoc [] = refl
but_last-snoc (p ∷ []) = refl
but_last-snoc (p ∷ q ∷ ps) = ap (λ (r : List (List ℕ)). p ∷ r) (but_last-snoc (q ∷ ps))

pub last_snoc : (ps : List (List ℕ)) → last (ps ++ ([] ∷ [])) ≡ []
unfolding last
last_snoc [] = refl
last_snoc (p ∷ []) = refl
last_snoc (p ∷ q ∷ ps) = last_snoc (q ∷ ps)

-- ---- joined again
onto-join : (sep b : ℕ) (ps : List (List ℕ)) → join sep (onto b ps) ≡ b ∷ join sep ps
unfolding onto join led
onto-join sep b [] = refl
onto-join sep b (p ∷ ps) = refl

led-join : (sep : ℕ) (p : List ℕ) (ps : List (List ℕ)) → led sep (p ∷ ps) ≡ sep ∷ join sep (p ∷ ps)
unfolding led join
led-join sep p ps = refl

pub join-empty : (sep : ℕ) (s : List ℕ) → join sep ([] ∷ split sep s) ≡ sep ∷ join sep (split sep s)
unfolding join
join-empty sep s = rw (split-cons sep s) (led-join sep (front sep s) (later sep s))

pub join-split : (sep : ℕ) (s : List ℕ) → join sep (split sep s) ≡ s
join-split sep [] = rw (split-nil sep) (unfold join led in refl)
join-split sep (b ∷ s) =
    cases (eqb b sep)
    (λ e. cc (split-here sep b s e, join-empty sep s, join-split sep s, eqb-true b sep e))
    (λ e. rw (split-there sep b s e, onto-join sep b (split sep s), join-split sep s))

-- no piece has the separator
unfoldable pub frees : ℕ → List (List ℕ) → Bool
frees sep [] = true
frees sep (p ∷ ps) = not (has sep p) && frees sep ps

pub frees-first : (sep : ℕ) (p : List ℕ) (ps : List (List ℕ)) → has sep p ≡ false → frees sep ps ≡ true → frees sep (p ∷ ps) ≡ true
unfolding frees
frees-first sep p ps h k = rw (h, k)

pub frees-both : (sep : ℕ) (p : List ℕ) (ps : List (List ℕ)) → frees sep (p ∷ ps) ≡ true → (has sep p ≡ false) × (frees sep ps ≡ true)
unfolding frees
frees-both sep p ps h = let a = both (not (has sep p)) (frees sep ps) h in (not-true (has sep p) a.0, a.1)

pub frees-left : (sep : ℕ) (ps qs : List (List ℕ)) → frees sep (ps ++ qs) ≡ true → frees sep ps ≡ true
frees-left sep [] qs h = unfold frees in refl
frees-left sep (p ∷ ps) qs h =
    let a = frees-both sep p (ps ++ qs) h in
    frees-first sep p ps a.0 (frees-left sep ps qs a.1)

pub frees-right : (sep : ℕ) (ps qs : List (List ℕ)) → frees sep (ps ++ qs) ≡ true → frees sep qs ≡ true
frees-right sep [] qs h = h
frees-right sep (p ∷ ps) qs h = frees-right sep ps qs (frees-both sep p (ps ++ qs) h).1

onto-frees : (x b : ℕ) (ps : List (List ℕ)) → eqb b x ≡ false → frees x ps ≡ true → frees x (onto b ps) ≡ true
unfolding onto frees
onto-frees x b [] e h = cc (has_there x b [] e, has-nil x)
onto-frees x b (p ∷ ps) e h = cc (has_there x b p e)

pub split-frees : (x : ℕ) (s : List ℕ) → frees x (split x s) ≡ true
unfolding frees
split-frees x [] = rw (split-nil x, has-nil x)
split-frees x (b ∷ s) =
    cases (eqb b x)
    (λ e. rw (split-here x b s e, has-nil x) (split-frees x s))
    (λ e. rw (split-there x b s e) (onto-frees x b (split x s) e (split-frees x s)))

pub but_last-frees : (x : ℕ) (ps : List (List ℕ)) → frees x ps ≡ true → frees x (all_but_last ps) ≡ true
unfolding frees all_but_last
but_last-frees x [] h = refl
but_last-frees x (p ∷ []) h = refl
but_last-frees x (p ∷ q ∷ ps) h =
    let r = both (not (has x p)) (frees x (q ∷ ps)) h in
    cc (r.0, but_last-frees x (q ∷ ps) r.1)

pub has-led : (x y : ℕ) → eqb y x ≡ false → (ps : List (List ℕ)) → frees x ps ≡ true → has x (led y ps) ≡ false
unfolding led frees
has-led x y n [] h = has-nil x
has-led x y n (p ∷ ps) h =
    let q = both (not (has x p)) (frees x ps) h in
    has_there x y (p ++ led y ps) n ∙ has-neither x p (led y ps) (not-true (has x p) q.0) (has-led x y n ps q.1)

pub has_join : (x y : ℕ) → eqb y x ≡ false → (ps : List (List ℕ)) → frees x ps ≡ true → has x (join y ps) ≡ false
unfolding join frees
has_join x y n [] h = has-nil x
has_join x y n (p ∷ ps) h =
    let q = both (not (has x p)) (frees x ps) h in
    has-neither x p (led y ps) (not-true (has x p) q.0) (has-led x y n ps q.1)

pub split-join : (sep : ℕ) (p : List ℕ) (ps : List (List ℕ)) → frees sep (p ∷ ps) ≡ true → split sep (join sep (p ∷ ps)) ≡ p ∷ ps
unfolding frees join led
split-join sep p [] h =
    let q = both (not (has sep p)) true h in
    cc (append-nil p, split-none sep p (not-true (has sep p) q.0))
split-join sep p (r ∷ ps) h =
    let q = both (not (has sep p)) (frees sep (r ∷ ps)) h in
    cc (split-next sep p (r ++ led sep ps) (not-true (has sep p) q.0), split-join sep r ps q.1)

-- ---- lines, each ended
pub ended-append : (sep : ℕ) (ps qs : List (List ℕ)) → ended sep (ps ++ qs) ≡ ended sep ps ++ ended sep qs
unfolding ended
ended-append sep [] qs = refl
ended-append sep (p ∷ ps) qs = rw (ended-append sep ps qs, append_assoc)

ended-last : (sep : ℕ) (p : List ℕ) (ps : List (List ℕ)) → ended sep (all_but_last (p ∷ ps)) ++ last (p ∷ ps) ≡ join sep (p ∷ ps)
unfolding ended all_but_last last join led
ended-last sep p [] = sym (append-nil p)
ended-last sep p (q ∷ ps) =
    append_assoc p (sep ∷ ended sep (all_but_last (q ∷ ps))) (last (q ∷ ps)) ∙ ap (λ (r : List ℕ). p ++ (sep ∷ r)) (ended-last sep q ps)

-- a text is its ended lines, and what stands after the last
pub ended-split : (sep : ℕ) (s : List ℕ) → ended sep (all_but_last (split sep s)) ++ last (split sep s) ≡ s
ended-split sep s = cc (split-cons sep s, ended-last sep (front sep s) (later sep s), join-split sep s)

-- a text that is cut at its ends and ended again
pub ended-lines : (sep : ℕ) (s : List ℕ) → empty (last (split sep s)) ≡ true → ended sep (all_but_last (split sep s)) ≡ s
ended-lines sep s h = sym (append-nil (ended sep (all_but_last (split sep s)))) ∙ cc (empty-is (last (split sep s)) h, ended-split sep s)

pub split-ended : (sep : ℕ) (ps : List (List ℕ)) → frees sep ps ≡ true → split sep (ended sep ps) ≡ ps ++ ([] ∷ [])
unfolding frees ended
split-ended sep [] h = split-nil sep
split-ended sep (p ∷ ps) h =
    let q = both (not (has sep p)) (frees sep ps) h in
    cc (split-next sep p (ended sep ps) (not-true (has sep p) q.0), split-ended sep ps q.1)

-- ---- how many separators, and what stands after the last: one separator more; more bytes without one
pub before-next : (sep : ℕ) (p s : List ℕ) → has sep p ≡ false → before sep (p ++ (sep ∷ s)) ≡ suc (before sep s)
unfolding before
before-next sep p s h = rw (split-next sep p s h, but_last-split sep p s)

pub last_end : (ps : List (List ℕ)) (x : List ℕ) → last (ps ++ (x ∷ [])) ≡ x
unfolding last
last_end [] x = refl
last_end (p ∷ []) x = refl
last_end (p ∷ q ∷ ps) x = last_end (q ∷ ps) x
