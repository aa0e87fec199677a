-- The rows before a row, the nearest first: how they lie in the file, and how many runs they begin. Assumes nothing.
use mathlib.Core.Path.{◌≡◌, refl, sym, ap, ◌∙◌}
use mathlib.Core.Bool.{Bool, true, false, cond, ◌||◌}
use mathlib.Core.List.{List, [], ◌∷◌, ◌++◌, append_assoc}
use Prim.Native.Nat.{ℕ, ◌+◌, ◌≤◌}
use native.Mathlib.Omega.{arith}
use borrow.Author.Tests.{ltb-true}
use lib.Dec.{ltb}
use lib.ListN.{length}
use Rattle.rules.specs.Lists.{any, all}
use Rattle.rules.proofs.Logic.{cases, or_assoc}
use Rattle.rules.proofs.Lists.{all_first, any-cons, any-nil}
use Rattle.csv_rules.specs.Quote.{FileLine}
use Rattle.csv_rules.specs.Sheets.{same_number, Run, join_run, runs, bytes_in}

-- ---- in the file's order
-- the rows before, and then others
unfoldable pub back : List FileLine → List FileLine → List FileLine
back [] rest = rest
back (q ∷ seen) rest = back seen (q ∷ rest)

abbrev pub sized : FileLine → Bool
sized l = ltb 0 l.size

pub back-append : (seen rest : List FileLine) → back seen rest ≡ back seen [] ++ rest
unfolding back
back-append [] rest = refl
back-append (q ∷ seen) rest =
    back-append seen (q ∷ rest) ∙ sym (ap (λ (s : List FileLine). s ++ rest) (back-append seen (q ∷ [])) ∙ append_assoc (back seen []) (q ∷ []) rest)

-- each has a byte at least
pub few-sized : (seen : List FileLine) → all sized seen ≡ true → length seen ≤ bytes_in seen
unfolding bytes_in
few-sized [] h = omega arith
few-sized (l ∷ seen) h = let w = all_first sized l seen h in omega (arith, ltb-true 0 l.size w.0, few-sized seen w.1)

-- ---- a row among some
pub record In (w : FileLine) (s : List FileLine) : Type 0 where
  pub left : List FileLine
  pub right : List FileLine
  pub is : s ≡ left ++ (w ∷ right)

pub in-here : (w : FileLine) (s : List FileLine) → In w (w ∷ s)
in-here w s = record { left = []; right = s; is = refl }

pub in-there : (w q : FileLine) (s : List FileLine) → In w s → In w (q ∷ s)
in-there w q s h = record { left = q ∷ h.left; right = h.right; is = ap (λ (x : List FileLine). q ∷ x) h.is }

-- the first, or one of the others
pub in-cases : {P : Type 0} (w q : FileLine) (s a b : List FileLine) → q ∷ s ≡ a ++ (w ∷ b) → (q ≡ w → P) → (In w s → P) → P
in-cases w q s [] b e f g = f (cc)
in-cases w q s (x ∷ a) b e f g = g (record { left = a; right = b; is = cc })

-- a row is among none
pub not_in : {P : Type 0} (w : FileLine) (a b : List FileLine) → [] ≡ a ++ (w ∷ b) → P
not_in w [] b e = let z : ◌≡◌ {A = ℕ} 0 1 = cc in absurd (omega arith)
not_in w (x ∷ a) b e = let z : ◌≡◌ {A = ℕ} 0 1 = cc in absurd (omega arith)

pub in-any : (p : FileLine → Bool) (w : FileLine) (a b : List FileLine) → p w ≡ true → any p (a ++ (w ∷ b)) ≡ true
unfolding any
in-any p w [] b h = rw (h, any)
in-any p w (x ∷ a) b h = cases (p x) (λ e. rw (e, any)) (λ e. rw (e, any) (in-any p w a b h))

pub any_append : (p : FileLine → Bool) (a b : List FileLine) → any p (a ++ b) ≡ (any p a || any p b)
any_append p [] b = rw (any-nil p)
any_append p (x ∷ a) b = rw (any-cons p x (a ++ b), any-cons p x a, any_append p a b) (or_assoc (p x) (any p a) (any p b))

-- ---- runs
-- whether a row goes on with the number of the row before
unfoldable pub same_run : List FileLine → FileLine → Bool
same_run [] r = false
same_run (q ∷ seen) r = same_number q.items r.items

-- the runs that some rows begin
unfoldable pub begun_after : List FileLine → List FileLine → ℕ
begun_after seen [] = 0
begun_after seen (r ∷ rs) = cond (same_run seen r) 0 1 + begun_after (r ∷ seen) rs

joined-more : (q r : FileLine) (us : List Run) → length (join_run q (join_run r us)) ≡ cond (same_number q.items r.items) 0 1 + length (join_run r us)
unfolding join_run
joined-more q r [] = cases (same_number q.items r.items) (λ e. rw (e, join_run)) (λ e. rw (e, join_run))
joined-more q r (u ∷ us) =
    cases (same_number r.items u.row.items)
    (λ f. rw (f, join_run) (cases (same_number q.items r.items) (λ e. rw (e, join_run) (omega arith)) (λ e. rw (e, join_run) (omega arith))))
    (λ f. rw (f, join_run) (cases (same_number q.items r.items) (λ e. rw (e, join_run) (omega arith)) (λ e. rw (e, join_run) (omega arith))))

runs_after : (rs : List FileLine) (q : FileLine) (seen : List FileLine) → length (runs (q ∷ rs)) ≡ 1 + begun_after (q ∷ seen) rs
unfolding runs join_run begun_after same_run
runs_after [] q seen = refl
runs_after (r ∷ rs) q seen =
    let e = joined-more q r (runs rs) in
    let h = runs_after rs r (q ∷ seen) in
    omega (arith, e, h)

pub begun_all : (rows : List FileLine) → length (runs rows) ≡ begun_after [] rows
unfolding runs begun_after same_run
begun_all [] = refl
begun_all (q ∷ rs) = runs_after rs q []
