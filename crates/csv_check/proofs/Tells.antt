-- 53 and 54 are met where the lines that `Spot` names say so. Assumes nothing.
use mathlib.Core.Path.{◌≡◌, refl, sym, ap, ◌∙◌}
use mathlib.Core.Bool.{Bool, true, false, not, ◌&&◌, ◌||◌}
use mathlib.Core.List.{List, [], ◌∷◌}
use Prim.Native.Nat.{ℕ, suc}
use borrow.Author.Tests.{ne_eqb}
use native.Mathlib.Omega.{arith}
use lib.Dec.{eqb}
use Rattle.rules.specs.Lists.{any}
use Rattle.rules.proofs.Logic.{cases, never}
use Rattle.rules.proofs.Lists.{any-cons}
use Rattle.csv_rules.specs.Quote.{FileLine}
use Rattle.csv_rules.specs.Sheets.{same_number, clash, differ, runs, returns}
use Rattle.csv_rules.specs.Spot.{first_after, clashes, comes_back}
use Rattle.csv_rules.proofs.Behind.{differs_behind, differs-behind, number-sym, returns_behind, returns-behind}

-- a line that is named is some line
pub named : (k : ℕ) → eqb (suc k) 0 ≡ false
named k = ne_eqb (suc k) 0 (λ h. omega arith)

clash-after : (rows : List FileLine) (k : ℕ) (seen : List FileLine) → differs_behind seen rows ≡ not (eqb (first_after clashes (suc k) seen rows) 0)
unfolding differs_behind first_after
clash-after [] k seen = refl
clash-after (r ∷ rs) k seen =
    cases (any (clash r.items) seen) (λ e. rw (e, first_after, named k)) (λ e. rw (e, first_after) (clash-after rs (suc k) (r ∷ seen)))

pub clash-told : (rows : List FileLine) → differ rows ≡ not (eqb (first_after clashes 3 [] rows) 0)
clash-told rows = differs-behind rows ∙ clash-after rows 2 []

-- the row before may be left out: where it has the number, nothing returns
but-before : (a b t : Bool) → a ≡ b → (not a && (b || t)) ≡ (not a && t)
but-before true b t h = refl
but-before false true t h = never (sym h)
but-before false false t h = refl

abbrev back_behind : FileLine → List FileLine → FileLine → Bool
back_behind q seen r = not (same_number q.items r.items) && any (λ (x : FileLine). same_number r.items x.items) seen

back_one : (q r : FileLine) (seen : List FileLine) → back_behind q (q ∷ seen) r ≡ comes_back (q ∷ seen) r
unfolding comes_back
back_one q r seen =
    rw (any-cons (λ (x : FileLine). same_number r.items x.items) q seen)
    (but-before (same_number q.items r.items) (same_number r.items q.items) (any (λ (x : FileLine). same_number r.items x.items) seen) (number-sym q r))

back-after : (rows : List FileLine) (k : ℕ) (q : FileLine) (seen : List FileLine)
    → returns_behind q (q ∷ seen) rows ≡ not (eqb (first_after comes_back (suc k) (q ∷ seen) rows) 0)
unfolding returns_behind first_after
back-after [] k q seen = refl
back-after (r ∷ rs) k q seen =
    ap (λ (t : Bool). t || returns_behind r (r ∷ (q ∷ seen)) rs) (back_one q r seen)
    ∙ cases (comes_back (q ∷ seen) r) (λ e. rw (e, first_after, named k)) (λ e. rw (e, first_after) (back-after rs (suc k) r (q ∷ seen)))

pub back-told : (rows : List FileLine) → returns (runs rows) ≡ not (eqb (first_after comes_back 3 [] rows) 0)
unfolding first_after runs returns comes_back
back-told [] = refl
back-told (q ∷ rs) = returns-behind q rs ∙ back-after rs 3 q []
