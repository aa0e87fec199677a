-- The claims of specs/Claims.antt. Assumes nothing.
use mathlib.Core.Path.{◌≡◌, refl, sym, ap, ◌∙◌}
use mathlib.Core.Bool.{true, false, ◌&&◌}
use mathlib.Core.List.{List, [], ◌∷◌, ◌++◌, append_assoc}
use Prim.Native.Nat.{ℕ, suc, ◌+◌, ◌<◌}
use native.Mathlib.Nat.{zero-add, suc-add}
use native.Mathlib.Omega.{arith}
use lib.ListN.{length, take, drop, length-append}
use Rattle.rules.specs.declared.Mode.{Mode}
use Rattle.rules.specs.declared.Mode.TheVariants.{One, Esc1, Esc2, Two, Second, Back1, Back2, Bad}
use Rattle.rules.specs.Lists.{empty, all, has, split, all_but_last, last, ended}
use Rattle.rules.specs.Shift.{step, is_one, walk, keeps}
use Rattle.rules.specs.Frame.{segments, segments_ok}
use Rattle.rules.proofs.Logic.{cases, list_cases, never, and-false}
use Rattle.rules.proofs.Lists.{all_cons, has-nil}
use Rattle.rules.proofs.Modes.{walk-append, walk-bad}
use Rattle.rules.proofs.Split.{frees, frees-both, split-none, split-frees, split-next, but_last-split, last-split, ended-split}
use Rattle.rules.proofs.Where.{segments-free}
use Rattle.frame.specs.Frame.{good_of}
use Rattle.spot.specs.Spot.{is_bad, kept_bytes, good_bytes}
use Rattle.spot.specs.Claims.{BytesBefore, ByteThere, SegmentThere, SegmentsBefore}
use Rattle.spot.proofs.Laws.{kept-bad, kept_next, good-bad, good-next}

-- ---- 12, 41
-- the mode is not broken where the kept bytes end
kept-walk : (end : ℕ) (m : Mode) (s : List ℕ) → is_bad m ≡ false → is_bad (walk end m (take (kept_bytes end m s) s)) ≡ false
unfolding kept_bytes walk
kept-walk end m [] h = h
kept-walk end m (b ∷ s) h =
    cases (is_bad (step end m b))
    (λ e. rw (kept-bad end m b s e) h)
    (λ e. rw (kept_next end m b s e) (kept-walk end (step end m b) s e))

-- from each mode but `Bad` there is a way back to one-byte mode
unfoldable back : Mode → List ℕ
back One = []
back Esc1 = 0x24 ∷ 0x42 ∷ 0x1B ∷ 0x28 ∷ 0x42 ∷ []
back Esc2 = 0x42 ∷ 0x1B ∷ 0x28 ∷ 0x42 ∷ []
back Two = 0x1B ∷ 0x28 ∷ 0x42 ∷ []
back Second = 0x21 ∷ 0x1B ∷ 0x28 ∷ 0x42 ∷ []
back Back1 = 0x28 ∷ 0x42 ∷ []
back Back2 = 0x42 ∷ []
back Bad = []

goes_back : (end : ℕ) (m : Mode) → is_bad m ≡ false → is_one (walk end m (back m)) ≡ true
unfolding back walk step is_one is_bad
goes_back end One h = refl
goes_back end Esc1 h = refl
goes_back end Esc2 h = refl
goes_back end Two h = refl
goes_back end Second h = refl
goes_back end Back1 h = refl
goes_back end Back2 h = refl
goes_back end Bad h = never h

pub bytes-before : BytesBefore
unfolding keeps
bytes-before end s =
    let before = take (kept_bytes end One s) s in
    let mode = walk end One before in
    record {
      rest = back mode;
      kept = ap is_one (walk-append end One before (back mode)) ∙ goes_back end mode (kept-walk end One s (unfold is_bad in refl));
    }

bad-is : (m : Mode) → is_bad m ≡ true → m ≡ Bad
unfolding is_bad
bad-is One h = cc
bad-is Esc1 h = cc
bad-is Esc2 h = cc
bad-is Two h = cc
bad-is Second h = cc
bad-is Back1 h = cc
bad-is Back2 h = cc
bad-is Bad h = refl

broken : (end : ℕ) (m : Mode) (s t : List ℕ) → kept_bytes end m s < length s → walk end m (take (suc (kept_bytes end m s)) s ++ t) ≡ Bad
unfolding kept_bytes walk
broken end m [] t h = absurd (omega arith)
broken end m (b ∷ s) t h =
    cases (is_bad (step end m b))
    (λ e. rw (kept-bad end m b s e, bad-is (step end m b) e) (walk-bad end t))
    (λ e. rw (kept_next end m b s e) (broken end (step end m b) s t (omega (arith, kept_next end m b s e))))

pub byte-there : ByteThere
unfolding keeps is_one
byte-there end s t h = rw (broken end One s t h)

-- ---- 13
last-free : (x : ℕ) (ps : List (List ℕ)) → frees x ps ≡ true → has x (last ps) ≡ false
unfolding last
last-free x [] h = has-nil x
last-free x (p ∷ []) h = (frees-both x p [] h).0
last-free x (p ∷ q ∷ ps) h = last-free x (q ∷ ps) (frees-both x p (q ∷ ps) h).1

-- past a text and one byte more
module _ (x : ℕ) (r : List ℕ) (n : ℕ) where
  take_past : (p : List ℕ) → take (suc (length p) + n) (p ++ (x ∷ r)) ≡ p ++ (x ∷ take n r)
  take_past [] = rw (suc-add, zero-add)
  take_past (b ∷ p) = rw suc-add (ap (λ (l : List ℕ). b ∷ l) (take_past p))

  drop_past : (p : List ℕ) → drop (suc (length p) + n) (p ++ (x ∷ r)) ≡ drop n r
  drop_past [] = rw (suc-add, zero-add)
  drop_past (b ∷ p) = rw suc-add (drop_past p)

-- a segment, and what follows it
module _ (p : List ℕ) (free : has 0x0D p ≡ false) (r : List ℕ) where
  segments-past : segments (p ++ (0x0D ∷ r)) ≡ p ∷ segments r
  unfolding segments
  segments-past = ap all_but_last (split-next 0x0D p r free) ∙ but_last-split 0x0D p r

  ok-past : (bar : ℕ) → segments_ok bar (p ++ (0x0D ∷ r)) ≡ (good_of bar p && segments_ok bar r)
  unfolding segments_ok
  ok-past bar =
      rw (segments-past, split-next 0x0D p r free, last-split 0x0D p r, all_cons (good_of bar) p (segments r))
      (cases (good_of bar p) (λ e. rw e) (λ e. rw e (and-false (empty (last (split 0x0D r))))))

ok-nil : (bar : ℕ) → segments_ok bar [] ≡ true
unfolding segments_ok segments split all_but_last last empty all
ok-nil bar = refl

past-good : (bar : ℕ) (p r : List ℕ) (n : ℕ) → has 0x0D p ≡ false → good_of bar p ≡ true → SegmentThere bar r n
    → SegmentThere bar (p ++ (0x0D ∷ r)) (suc (length p) + n)
past-good bar p r n f e h = record {
  before = rw (take_past 0x0D r n p) (ok-past p f (take n r) bar ∙ rw e h.before);
  bad = λ s ss q. h.bad s ss (ap segments (sym (drop_past 0x0D r n p)) ∙ q);
  inside = λ q. omega (arith, h.inside (sym (ok-past p f r bar ∙ rw e) ∙ q), length-append p (0x0D ∷ r));
}

at-bad : (bar : ℕ) (p r : List ℕ) → has 0x0D p ≡ false → good_of bar p ≡ false → SegmentThere bar (p ++ (0x0D ∷ r)) 0
at-bad bar p r f e = record {
  before = ok-nil bar;
  bad = λ s ss q. let z : p ∷ segments r ≡ s ∷ ss = sym (segments-past p f r) ∙ q in cc;
  inside = λ q. omega (arith, length-append p (0x0D ∷ r));
}

-- what has no 0D
at_rest : (bar : ℕ) (z : List ℕ) → has 0x0D z ≡ false → SegmentThere bar z 0
unfolding segments all_but_last
at_rest bar z f = record {
  before = ok-nil bar;
  bad = λ s ss q. let e : ◌≡◌ {A = List (List ℕ)} [] (s ∷ ss) = sym (ap all_but_last (split-none 0x0D z f)) ∙ q in cc;
  inside = λ q. list_cases z (λ e. never (sym (ok-nil bar) ∙ rw e at q)) (λ x r e. omega (arith, ap length e));
}

first-bad : (bar : ℕ) (ps : List (List ℕ)) (z : List ℕ) → frees 0x0D ps ≡ true → has 0x0D z ≡ false → SegmentThere bar (ended 0x0D ps ++ z) (good_bytes bar ps)
unfolding ended good_bytes
first-bad bar [] z h f = at_rest bar z f
first-bad bar (p ∷ ps) z h f =
    let q = frees-both 0x0D p ps h in
    rw (append_assoc p (0x0D ∷ ended 0x0D ps) z)
    (cases (good_of bar p)
    (λ e. rw (good-next bar p ps e) (past-good bar p (ended 0x0D ps ++ z) (good_bytes bar ps) q.0 e (first-bad bar ps z q.1 f)))
    (λ e. rw (good-bad bar p ps e) (at-bad bar p (ended 0x0D ps ++ z) q.0 e)))

pub segments-before : SegmentsBefore
unfolding segments
segments-before bar m =
    rw (ended-split 0x0D m) at (first-bad bar (segments m) (last (split 0x0D m)) (segments-free m) (last-free 0x0D (split 0x0D m) (split-frees 0x0D m)))
