-- Where the pieces of a text stand, by their bytes and in which mode: the n-th piece between separators that act.
-- Assumes nothing.
use mathlib.Core.Path.{◌≡◌, refl, sym, ap, ◌∙◌}
use mathlib.Core.Bool.{true, false}
use mathlib.Core.List.{List, [], ◌∷◌, ◌++◌, append-nil, append_assoc}
use Prim.Native.Nat.{ℕ, zero, suc, ◌+◌, ◌<◌, ◌≤◌}
use native.Mathlib.Omega.{arith}
use borrow.Author.Tests.{ltb-true, ltb-false, lt-ltb, le-ltb}
use lib.Dec.{eqb, ltb}
use lib.ListN.{length, length-append}
use Rattle.rules.specs.declared.Mode.{Mode}
use Rattle.rules.specs.declared.Mode.TheVariants.{One}
use Rattle.rules.specs.Lists.{nth, has, split, later, before, since}
use Rattle.rules.specs.Shift.{step, is_one, walk, keeps, mark, marks, met}
use Rattle.rules.specs.Fetch.{span, start_of}
use Rattle.rules.proofs.Logic.{cases}
use Rattle.rules.proofs.Lists.{has-nil, has_there, has_parts}
use Rattle.rules.proofs.Split.{split-cons, split-none, split-next}
use Rattle.rules.proofs.Modes.{one-is, walk-append, walk_step, marks-nil, marks-cons, met-append, length-met, met-one, still_one}
use Rattle.rules.proofs.Clean.{met-cons}

-- ---- one separator after another
module _ (sep : ℕ) (low : 0x20 ≤ sep) (high : sep ≤ 0x7E) where
  pub met-sep : (a b : List ℕ) → keeps 0x0D a ≡ true → met (a ++ (sep ∷ b)) ≡ met a ++ (sep ∷ met b)
  met-sep a b h = met-append a (sep ∷ b) h ∙ ap (λ (t : List ℕ). met a ++ t) (met-cons sep (still_one 0x20 sep low high) b)

  pub keeps-sep : (a b : List ℕ) → keeps 0x0D a ≡ true → keeps 0x0D (a ++ (sep ∷ b)) ≡ keeps 0x0D b
  unfolding keeps walk
  keeps-sep a b h = rw (walk-append 0x0D One a (sep ∷ b), one-is (walk 0x0D One a) h, still_one 0x0D sep low high)

  -- the bytes up to the first separator that acts
  first-from : {P : Type 0} (m : Mode) (s : List ℕ) → (has sep (marks 0x0D m s) ≡ false → P)
      → ((a b : List ℕ) → s ≡ a ++ (sep ∷ b) → walk 0x0D m a ≡ One → has sep (marks 0x0D m a) ≡ false → P) → P
  first-from m [] f g = f (rw (marks-nil 0x0D m) (has-nil sep))
  first-from m (x ∷ s) f g =
      cases (eqb (mark m x) sep)
      (λ e. let q = met-one m x sep (omega arith) e in
      g [] s (rw q.1) (unfold walk in q.0) (rw (marks-nil 0x0D m) (has-nil sep)))
      (λ e. first-from (step 0x0D m x) s
      (λ h. f (rw (marks-cons 0x0D m x s) (has_there sep (mark m x) (marks 0x0D (step 0x0D m x) s) e ∙ h)))
      (λ a b k w h. g (x ∷ a) b (ap (λ (t : List ℕ). x ∷ t) k) (walk_step 0x0D m x a refl ∙ w)
      (rw (marks-cons 0x0D m x a) (has_there sep (mark m x) (marks 0x0D (step 0x0D m x) a) e ∙ h))))

  pub first-sep : {P : Type 0} (s : List ℕ) → (has sep (met s) ≡ false → P)
      → ((a b : List ℕ) → s ≡ a ++ (sep ∷ b) → keeps 0x0D a ≡ true → has sep (met a) ≡ false → P) → P
  unfolding met keeps is_one
  first-sep s f g = first-from One s f (λ a b e w h. g a b e (rw w) h)

-- ---- the n-th piece
-- where it begins, in a text with more pieces
pub start-next : (sep n : ℕ) (p s : List ℕ) → has sep p ≡ false → start_of sep (suc n) (p ++ (sep ∷ s)) ≡ length p + suc (start_of sep n s)
unfolding start_of span
start-next sep n p s h =
    rw (split-next sep p s h)
    (cases (ltb n (length (split sep s)))
    (λ t. let l = ltb-true n (length (split sep s)) t in rw (t, lt-ltb (suc n) (suc (length (split sep s))) (omega arith)) (omega arith))
    (λ t. let l = ltb-false n (length (split sep s)) t in rw (t, le-ltb (suc n) (suc (length (split sep s))) (omega arith)) (length-append p (sep ∷ s))))

pub start_first : (sep : ℕ) (s : List ℕ) → start_of sep 0 s ≡ 0
unfolding start_of span
start_first sep s = rw (split-cons sep s, lt-ltb 0 (suc (length (later sep s))) (omega arith))

pub start-over : (sep n : ℕ) (s : List ℕ) → has sep s ≡ false → start_of sep (suc n) s ≡ length s
unfolding start_of
start-over sep n s h = rw (split-none sep s h, le-ltb (suc n) 1 (omega arith))

-- The n-th piece of s, from 0: its bytes, with what stands before and after it. Where there are fewer it is empty, at the end.
pub record Piece (sep n : ℕ) (s : List ℕ) : Type 0 where
  pub left : List ℕ
  pub own : List ℕ
  pub right : List ℕ
  pub whole : s ≡ left ++ (own ++ right)
  pub left-kept : keeps 0x0D left ≡ true
  pub own-kept : keeps 0x0D own ≡ true
  pub is : met own ≡ nth (split sep (met s)) n
  pub at : length left ≡ start_of sep n (met s)
  -- it has no separator
  pub free : has sep (met own) ≡ false

-- what it does not hold
module _ {sep n : ℕ} {s : List ℕ} (c : Piece sep n s) (x : ℕ) where
  pub piece_bytes : has x s ≡ false → (has x c.left ≡ false) × (has x c.own ≡ false)
  piece_bytes h = has_parts x c.left c.own c.right (ap (has x) (sym c.whole) ∙ h)

module _ (sep : ℕ) (low : 0x20 ≤ sep) (high : sep ≤ 0x7E) where
  -- the first piece of a text with one; with more
  only : (s : List ℕ) → keeps 0x0D s ≡ true → has sep (met s) ≡ false → Piece sep 0 s
  unfolding keeps walk is_one before since
  only s k h =
      record {
        left = [];
        own = s;
        right = [];
        whole = sym (append-nil s);
        left-kept = refl;
        own-kept = k;
        is = rw (split-none sep (met s) h);
        at = sym (start_first sep (met s));
        free = h;
      }

  foremost : (a b : List ℕ) → keeps 0x0D a ≡ true → has sep (met a) ≡ false → Piece sep 0 (a ++ (sep ∷ b))
  unfolding keeps walk is_one before since
  foremost a b k h =
      record {
        left = [];
        own = a;
        right = sep ∷ b;
        whole = refl;
        left-kept = refl;
        own-kept = k;
        is = rw (met-sep sep low high a b k, split-next sep (met a) (met b) h);
        at = sym (start_first sep (met (a ++ (sep ∷ b))));
        free = h;
      }

  -- a later one, of a text with one
  beyond : (n : ℕ) (s : List ℕ) → keeps 0x0D s ≡ true → has sep (met s) ≡ false → Piece sep (suc n) s
  unfolding keeps walk is_one met marks
  beyond n s k h =
      let z : length (split sep (met s)) ≡ 1 = rw (split-none sep (met s) h) in
      record {
        left = s;
        own = [];
        right = [];
        whole = sym (append-nil s);
        left-kept = k;
        own-kept = refl;
        is = rw (split-none sep (met s) h);
        at = sym (start-over sep n (met s) h ∙ length-met s);
        free = has-nil sep;
      }

  onward : (n : ℕ) (a b : List ℕ) → keeps 0x0D a ≡ true → has sep (met a) ≡ false → Piece sep n b → Piece sep (suc n) (a ++ (sep ∷ b))
  onward n a b k h c =
      let z : split sep (met (a ++ (sep ∷ b))) ≡ met a ∷ split sep (met b) = rw (met-sep sep low high a b k) (split-next sep (met a) (met b) h) in
      record {
        left = a ++ (sep ∷ c.left);
        own = c.own;
        right = c.right;
        whole = rw c.whole (sym (append_assoc a (sep ∷ c.left) (c.own ++ c.right)));
        left-kept = keeps-sep sep low high a c.left k ∙ c.left-kept;
        own-kept = c.own-kept;
        is = rw z c.is;
        at = length-append a (sep ∷ c.left)
            ∙ rw (c.at, met-sep sep low high a b k, start-next sep n (met a) (met b) h) (omega (arith, length-met a));
        free = c.free;
      }
    where
      less : {i j : ℕ} → suc i < suc j → i < j
      less l = omega arith

  pub piece : (n : ℕ) (s : List ℕ) → keeps 0x0D s ≡ true → Piece sep n s
  piece zero s k = first-sep sep low high s (only s k) (λ a b e ka h. rw e (foremost a b ka h))
  piece (suc n) s k =
      first-sep sep low high s (beyond n s k)
      (λ a b e ka h. rw e (onward n a b ka h (piece n b (sym (keeps-sep sep low high a b ka) ∙ (rw e at k)))))
