-- Rows of one number, and those of another behind them: the first run, and whether its rows differ. Assumes nothing.
use mathlib.Core.Path.{◌≡◌, refl, sym, ap, ◌∙◌}
use mathlib.Core.Bool.{Bool, true, false, not, ◌&&◌, ◌||◌}
use mathlib.Core.List.{List, [], ◌∷◌, ◌++◌}
use Prim.Native.Nat.{ℕ}
use Rattle.rules.specs.declared.Name.TheVariants.{Pid, Pv1}
use Rattle.rules.specs.Lists.{same, all, any}
use Rattle.rules.proofs.Logic.{cases}
use Rattle.rules.proofs.Lists.{same-eq, same_self, all_first, any-first}
use Rattle.csv_rules.specs.Quote.{FileLine}
use Rattle.csv_rules.specs.Kanji.{convertible}
use Rattle.csv_rules.specs.Columns.{number_of}
use Rattle.csv_rules.specs.Sheets.{same_number, clash, differ, join_run, runs}
use Rattle.csv_rules.specs.Raw.{raw_agree}
use Rattle.csv_rules.proofs.Behind.{clash-sym, one-for-all, head_of}
use Rattle.csv_rules.proofs.Raw.{agree-raw}
use Rattle.csv_runs.specs.Next.{goes_on}

-- ---- one more at the end
pub all_snoc : {A : Type 0} (p : A → Bool) (s : List A) (x : A) → all p (s ++ (x ∷ [])) ≡ (all p s && p x)
unfolding all
all_snoc p [] x = cases (p x) (λ e. rw (e, all)) (λ e. rw (e, all))
all_snoc p (y ∷ s) x = cases (p y) (λ e. rw (e, all) (all_snoc p s x)) (λ e. rw (e, all))

pub any_snoc : {A : Type 0} (p : A → Bool) (s : List A) (x : A) → any p (s ++ (x ∷ [])) ≡ (any p s || p x)
unfolding any
any_snoc p [] x = cases (p x) (λ e. rw (e, any)) (λ e. rw (e, any))
any_snoc p (y ∷ s) x = cases (p y) (λ e. rw (e, any)) (λ e. rw (e, any) (any_snoc p s x))

-- ---- the first run
abbrev pub numbered : List ℕ → FileLine → Bool
numbered n l = same n (number_of l.items)

run_alone : (q : FileLine) (rest : List FileLine) → goes_on q.items rest ≡ false → runs (q ∷ rest) ≡ record { row = q; others = [] } ∷ runs rest
unfolding runs join_run goes_on
run_alone q [] h = refl
run_alone q (r ∷ rs) h =
    let W = head_of r (runs rs) in
    let e : same_number q.items W.run.row.items ≡ false = ap (λ (x : FileLine). same_number q.items x.items) W.row ∙ h in
    rw (W.are, e, join_run)

pub first_run : (q : FileLine) (done rest : List FileLine) → all (numbered (number_of q.items)) done ≡ true → goes_on q.items rest ≡ false
    → runs (q ∷ (done ++ rest)) ≡ record { row = q; others = done } ∷ runs rest
unfolding runs join_run goes_on
first_run q [] rest h k = run_alone q rest k
first_run q (d ∷ done) rest h k =
    let p = all_first (numbered (number_of q.items)) d done h in
    let e = same-eq (number_of q.items) (number_of d.items) p.0 in
    let I = first_run d done rest (ap (λ (n : List ℕ). all (numbered n) done) (sym e) ∙ p.1) (other-too d rest e k) in
    rw (I, p.0, join_run)
  where
    other-too : (d : FileLine) (rest : List FileLine) → number_of q.items ≡ number_of d.items → goes_on q.items rest ≡ false → goes_on d.items rest ≡ false
    other-too d [] e k = k
    other-too d (r ∷ rs) e k = ap (λ (n : List ℕ). same n (number_of r.items)) (sym e) ∙ k

-- ---- two of them differ where one differs from the first
none_differ : (q : FileLine) (done : List FileLine) → all (numbered (number_of q.items)) done ≡ true → any (clash q.items) done ≡ false → differ done ≡ false
unfolding differ
none_differ q [] h k = refl
none_differ q (d ∷ done) h k =
    let p = all_first (numbered (number_of q.items)) d done h in
    let c = any-first (clash q.items) d done k in
    let I = none_differ q done p.1 c.1 in
    let n : same_number d.items q.items ≡ true = rw (same-eq (number_of q.items) (number_of d.items) p.0) (same_self (number_of d.items)) in
    let a = one-for-all [] done q d (rw (c.1, I)) n ∙ clash-sym d q ∙ c.0 in
    rw ((any-first (clash d.items) q done a).1, I)

pub run-differs : (q : FileLine) (done : List FileLine) → all (numbered (number_of q.items)) done ≡ true → differ (q ∷ done) ≡ any (clash q.items) done
unfolding differ
run-differs q done h =
    cases (any (clash q.items) done) (λ e. rw e) (λ e. rw e (none_differ q done h e))

-- ---- by the bytes of the file
pub clash-raw : (q r : FileLine) → same_number q.items r.items ≡ true → all convertible q.items ≡ true → all convertible r.items ≡ true
    → clash q.items r ≡ not (raw_agree Pid q.items r.items && raw_agree Pv1 q.items r.items)
clash-raw q r n h k = rw (n, agree-raw Pid q.items r.items h k, agree-raw Pv1 q.items r.items h k)
