-- One segment altered, segments of other names put in: the known segments pair up. Assumes nothing.
use mathlib.Core.Path.{◌≡◌, sym, ap, ◌∙◌}
use mathlib.Core.Bool.{true, false}
use mathlib.Core.List.{List, [], ◌∷◌, ◌++◌}
use Prim.Native.Nat.{ℕ, suc, ◌+◌, ◌≤◌}
use lib.ListN.{length}
use Rattle.rules.specs.declared.Delims.{Delims}
use Rattle.rules.specs.declared.Name.{Name}
use Rattle.rules.specs.declared.Name.TheVariants.{Other}
use Rattle.rules.specs.Lists.{all, has, split, all_but_last, last, front, later, since}
use Rattle.rules.specs.Shift.{met}
use Rattle.rules.specs.Frame.{delims_of, segments, name_of, is, Known, known_from, known, here}
use Rattle.rules.specs.View.{field_of}
use Rattle.rules.proofs.Logic.{cases}
use Rattle.rules.proofs.Lists.{all_first}
use Rattle.rules.proofs.Split.{split-cons, front-free, later-free, split-glue, but_last-glue}
use Rattle.rules.proofs.Header.{delims-stay}
use Rattle.unread.specs.Differs.{SegmentDiffers, Paired, none, pair, Differs}
use Rattle.unread.specs.Edits.{other_segment}
use Rattle.unread.proofs.Differs.{segment-refl}

-- ---- segments by their bytes: where one stands doesn't matter
unfoldable pub as_known : List ℕ → Known
as_known s = record { name = name_of s; start = 0; body = met s }

abbrev pub Alike : Delims → List ℕ → List ℕ → Type 0
Alike d x y = SegmentDiffers d (as_known x) (as_known y)

abbrev at : ℕ → List ℕ → Known
at i s = record { name = name_of s; start = i; body = met s }

moved : (d : Delims) (i j : ℕ) (x y : List ℕ) → Alike d x y → SegmentDiffers d (at i x) (at j y)
unfolding as_known field_of
moved d i j x y s = record { name = s.name; closed = s.closed; repeated = s.repeated; components = s.components }

-- ---- lists of segments, wherever the first of each stands
abbrev AllAlike : Delims → List (List ℕ) → List (List ℕ) → Type 0
AllAlike d xs ys = (i j : ℕ) → Paired d (known_from i xs) (known_from j ys)

one : (d : Delims) (x y : List ℕ) (xs ys : List (List ℕ)) → Alike d x y → AllAlike d xs ys → AllAlike d (x ∷ xs) (y ∷ ys)
unfolding known_from as_known
one d x y xs ys s a i j =
    let n : name_of x ≡ name_of y = s.name in
    cases (is (name_of x) Other)
    (λ e. let f : is (name_of y) Other ≡ true = sym (ap (λ (m : Name). is m Other) n) ∙ e in rw (e, f) (a (i + suc (length x)) (j + suc (length y))))
    (λ e. let f : is (name_of y) Other ≡ false = sym (ap (λ (m : Name). is m Other) n) ∙ e in
    rw (e, f) (pair (moved d i j x y s) (a (i + suc (length x)) (j + suc (length y)))))

alike_same : (d : Delims) (xs : List (List ℕ)) → AllAlike d xs xs
alike_same d [] i j = unfold known_from in none
alike_same d (x ∷ xs) i j = one d x x xs xs (segment-refl d (as_known x)) (alike_same d xs) i j

alike-after : (d : Delims) (ss xs ys : List (List ℕ)) → AllAlike d xs ys → AllAlike d (ss ++ xs) (ss ++ ys)
alike-after d [] xs ys a = a
alike-after d (s ∷ ss) xs ys a = one d s s (ss ++ xs) (ss ++ ys) (segment-refl d (as_known s)) (alike-after d ss xs ys a)

-- segments of other names before those of the one list, and of the other
others-left : (d : Delims) (vs xs ys : List (List ℕ)) → all other_segment vs ≡ true → AllAlike d xs ys → AllAlike d (vs ++ xs) ys
unfolding known_from
others-left d [] xs ys h a i j = a i j
others-left d (v ∷ vs) xs ys h a i j =
    let o = all_first other_segment v vs h in
    let n : is (name_of v) Other ≡ true = o.0 in
    rw n (others-left d vs xs ys o.1 a (i + suc (length v)) j)

others-right : (d : Delims) (ws xs ys : List (List ℕ)) → all other_segment ws ≡ true → AllAlike d xs ys → AllAlike d xs (ws ++ ys)
unfolding known_from
others-right d [] xs ys h a i j = a i j
others-right d (w ∷ ws) xs ys h a i j =
    let o = all_first other_segment w ws h in
    let n : is (name_of w) Other ≡ true = o.0 in
    rw n (others-right d ws xs ys o.1 a i (j + suc (length w)))

-- a segment that may be the last, so that it counts only where it is ended
last_one : (d : Delims) (x y : List ℕ) (r : List (List ℕ)) → Alike d x y → AllAlike d (all_but_last (x ∷ r)) (all_but_last (y ∷ r))
unfolding all_but_last
last_one d x y [] s = alike_same d []
last_one d x y (z ∷ r) s = one d x y (all_but_last (z ∷ r)) (all_but_last (z ∷ r)) s (alike_same d (all_but_last (z ∷ r)))

-- ---- messages
segments-glue : (p q : List ℕ) → segments (p ++ q) ≡ segments p ++ all_but_last ((here p ++ front 0x0D q) ∷ later 0x0D q)
unfolding segments since
segments-glue p q =
    cc (split-glue 0x0D p q, but_last-glue (all_but_last (split 0x0D p)) (last (split 0x0D p) ++ front 0x0D q) (later 0x0D q))

segments-start : (p x : List ℕ) → here p ≡ [] → segments (p ++ x) ≡ segments p ++ segments x
segments-start p x e = segments-glue p x ∙ rw e (unfold segments in (rw (← split-cons 0x0D x)))

-- two messages with the same first eight bytes
differs-by : (p a b : List ℕ) → 8 ≤ length p → AllAlike (delims_of p) (segments (p ++ a)) (segments (p ++ b)) → Differs (p ++ a) (p ++ b)
unfolding known
differs-by p a b h s = record { delimiters = delims-stay p a h ∙ sym (delims-stay p b h); segments = rw (delims-stay p a h) (s 0 0) }

-- a stretch within a segment, altered
pub altered : (p v w q : List ℕ) → 8 ≤ length p → has 0x0D v ≡ false → has 0x0D w ≡ false
    → Alike (delims_of p) (here p ++ (v ++ front 0x0D q)) (here p ++ (w ++ front 0x0D q)) → Differs (p ++ (v ++ q)) (p ++ (w ++ q))
altered p v w q l hv hw s =
    let d = delims_of p in
    differs-by p (v ++ q) (w ++ q) l
    (rw (
      segments-glue p (v ++ q),
      segments-glue p (w ++ q),
      front-free 0x0D v q hv,
      front-free 0x0D w q hw,
      later-free 0x0D v q hv,
      later-free 0x0D w q hw,
    )
    (alike-after d (segments p) _ _ (last_one d (here p ++ (v ++ front 0x0D q)) (here p ++ (w ++ front 0x0D q)) (later 0x0D q) s)))

-- segments of other names, where a segment starts
pub others-altered : (p v w q : List ℕ) → 8 ≤ length p → here p ≡ [] → here v ≡ [] → here w ≡ []
    → all other_segment (segments v) ≡ true → all other_segment (segments w) ≡ true → Differs (p ++ (v ++ q)) (p ++ (w ++ q))
others-altered p v w q l e ev ew hv hw =
    let d = delims_of p in
    differs-by p (v ++ q) (w ++ q) l
    (rw (segments-start p (v ++ q) e, segments-start p (w ++ q) e, segments-start v q ev, segments-start w q ew)
    (alike-after d (segments p) _ _
    (others-left d (segments v) _ _ hv (others-right d (segments w) _ _ hw (alike_same d (segments q))))))
