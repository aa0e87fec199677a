-- 53 and 54 found in one pass, by looking back: the laws that the pass stands on. Assumes nothing.
use mathlib.Core.Path.{◌≡◌, refl, sym, ap, ◌∙◌}
use mathlib.Core.Bool.{Bool, true, false, not, ◌&&◌, ◌||◌}
use mathlib.Core.List.{List, [], ◌∷◌, ◌++◌}
use Prim.Native.Nat.{ℕ}
use Rattle.rules.specs.declared.Name.TheVariants.{Pid, Pv1}
use Rattle.rules.specs.Lists.{same, any}
use Rattle.rules.proofs.Logic.{cases, both, neither, never, or-true, or-false}
use Rattle.rules.proofs.Lists.{same-eq, same_self, any-cons, any-first, any-nil}
use Rattle.csv_rules.specs.Quote.{FileLine}
use Rattle.csv_rules.specs.Columns.{keys, number_of}
use Rattle.csv_rules.specs.Sheets.{same_texts, agree, same_number, clash, differ, Run, join_run, runs, returns}

-- ---- equal texts
pub texts-eq : (vs ws : List (List ℕ)) → same_texts vs ws ≡ true → vs ≡ ws
unfolding same_texts
texts-eq [] [] h = refl
texts-eq [] (w ∷ ws) h = never (sym h)
texts-eq (v ∷ vs) [] h = never (sym h)
texts-eq (v ∷ vs) (w ∷ ws) h = let q = both (same v w) (same_texts vs ws) h in cc (same-eq v w q.0, texts-eq vs ws q.1)

pub texts-self : (vs : List (List ℕ)) → same_texts vs vs ≡ true
unfolding same_texts
texts-self [] = refl
texts-self (v ∷ vs) = rw (same_self v, texts-self vs)

pub same-sym : (v w : List ℕ) → same v w ≡ same w v
same-sym v w =
    cases (same v w) (λ e. cc (same-eq v w e, same_self w, e))
    (λ e. cases (same w v) (λ f. never (sym (same_self v) ∙ ap (λ (x : List ℕ). same v x) (sym (same-eq w v f)) ∙ e)) (λ f. e ∙ sym f))

pub texts-sym : (vs ws : List (List ℕ)) → same_texts vs ws ≡ same_texts ws vs
unfolding same_texts
texts-sym [] [] = refl
texts-sym [] (w ∷ ws) = refl
texts-sym (v ∷ vs) [] = refl
texts-sym (v ∷ vs) (w ∷ ws) = rw (same-sym v w, texts-sym vs ws)

-- ---- two rows that clash
pub clash-sym : (r q : FileLine) → clash r.items q ≡ clash q.items r
clash-sym r q =
    rw (
      same-sym (number_of r.items) (number_of q.items),
      texts-sym (keys Pid r.items) (keys Pid q.items),
      texts-sym (keys Pv1 r.items) (keys Pv1 q.items),
    )

-- ---- some of two lists, or of two tests
pub any-both : {A : Type 0} (p q : A → Bool) (s : List A) → any (λ (x : A). p x || q x) s ≡ (any p s || any q s)
any-both p q [] = rw (any-nil p, any-nil q, any-nil (λ x. p x || q x))
any-both p q (x ∷ s) =
    rw (any-cons (λ x. p x || q x) x s, any-cons p x s, any-cons q x s, any-both p q s) (shuffle (p x) (q x) (any p s) (any q s))
  where
    shuffle : (a b c d : Bool) → ((a || b) || (c || d)) ≡ ((a || c) || (b || d))
    shuffle true b c d = refl
    shuffle false true true d = refl
    shuffle false true false d = refl
    shuffle false false c d = refl

pub any_same : {A : Type 0} (p q : A → Bool) (s : List A) → ((x : A) → p x ≡ q x) → any p s ≡ any q s
any_same p q [] h = any-nil p ∙ sym (any-nil q)
any_same p q (x ∷ s) h = rw (any-cons p x s, any-cons q x s, h x, any_same p q s h)

-- ---- 53: looking back at the rows before, the nearest first
unfoldable pub differs_behind : List FileLine → List FileLine → Bool
differs_behind seen [] = false
differs_behind seen (r ∷ rs) = any (clash r.items) seen || differs_behind (r ∷ seen) rs

order-of : (a b c d : Bool) → (a || ((b || c) || d)) ≡ ((a || c) || (b || d))
order-of true b c d = refl
order-of false true true d = refl
order-of false true false d = refl
order-of false false c d = refl

behind-all : (rows seen : List FileLine) → differs_behind seen rows ≡ (any (λ (q : FileLine). any (clash q.items) seen) rows || differ rows)
unfolding differs_behind differ any
behind-all [] seen = refl
behind-all (r ∷ rs) seen =
    let back : FileLine → Bool = λ q. any (clash q.items) seen in
    let e : any (λ (q : FileLine). any (clash q.items) (r ∷ seen)) rs ≡ (any (clash r.items) rs || any back rs) =
    any_same (λ (q : FileLine). any (clash q.items) (r ∷ seen)) (λ q. clash r.items q || back q) rs (λ q. any-cons (clash q.items) r seen ∙ ap (λ t. t || back q) (clash-sym q r))
    ∙ any-both (clash r.items) back rs in
    rw (behind-all rs (r ∷ seen), e, any-cons back r rs) (order-of (back r) (any (clash r.items) rs) (any back rs) (differ rs))

pub differs-behind : (rows : List FileLine) → differ rows ≡ differs_behind [] rows
unfolding any
differs-behind rows = sym (behind-all rows [] ∙ ap (λ t. t || differ rows) (none_of rows))
  where
    none_of : (s : List FileLine) → any (λ (q : FileLine). false) s ≡ false
    none_of [] = refl
    none_of (q ∷ s) = none_of s

-- One row stands for all of its number: where no two of the rows before clash, a row clashes with one of them only if it clashes with any one of
-- its number among them.
pub no-clash : (r q : FileLine) → clash r.items q ≡ false → same_number r.items q.items ≡ true
    → (keys Pid r.items ≡ keys Pid q.items) × (keys Pv1 r.items ≡ keys Pv1 q.items)
no-clash r q h n =
    cases (agree Pid r.items q.items)
    (λ a.
    cases (agree Pv1 r.items q.items)
    (λ b. (texts-eq (keys Pid r.items) (keys Pid q.items) a, texts-eq (keys Pv1 r.items) (keys Pv1 q.items) b))
    (λ b. never (rw (n, a, b) at h)))
    (λ a. never (rw (n, a) at h))

pub clash-over : (r w x : FileLine) → same_number r.items w.items ≡ true → clash r.items w ≡ false → clash w.items x ≡ false → clash r.items x ≡ false
clash-over r w x n h k =
    let e = no-clash r w h n in
    let m = same-eq (number_of r.items) (number_of w.items) n in
    rw (m, e.0, e.1) k

pub none_over : (r w : FileLine) (s : List FileLine) → same_number r.items w.items ≡ true → clash r.items w ≡ false
    → any (clash w.items) s ≡ false → any (clash r.items) s ≡ false
none_over r w [] n h k = any-nil (clash r.items)
none_over r w (x ∷ s) n h k =
    let q = any-first (clash w.items) x s k in
    rw (any-cons (clash r.items) x s, clash-over r w x n h q.0, none_over r w s n h q.1)

some_of : (r w : FileLine) (a b : List FileLine) → clash r.items w ≡ true → any (clash r.items) (a ++ (w ∷ b)) ≡ true
some_of r w [] b h = rw (any-cons (clash r.items) w b, h)
some_of r w (x ∷ a) b h = rw (any-cons (clash r.items) x (a ++ (w ∷ b)), some_of r w a b h) (or-true (clash r.items x))

pub clash-self : (w : FileLine) → clash w.items w ≡ false
clash-self w = rw (same_self (number_of w.items), texts-self (keys Pid w.items), texts-self (keys Pv1 w.items))

-- what one row clashes with, of rows that don't clash among themselves
none-with : (a b : List FileLine) (w : FileLine) → differ (a ++ (w ∷ b)) ≡ false → any (clash w.items) (a ++ (w ∷ b)) ≡ false
unfolding differ
none-with [] b w h =
    rw (any-cons (clash w.items) w b, clash-self w) (neither (any (clash w.items) b) (differ b) h).0
none-with (x ∷ a) b w h =
    let q = neither (any (clash x.items) (a ++ (w ∷ b))) (differ (a ++ (w ∷ b))) h in
    let c : clash x.items w ≡ false = cases (clash x.items w) (λ e. never (sym (some_of x w a b e) ∙ q.0)) (λ e. e) in
    rw (any-cons (clash w.items) x (a ++ (w ∷ b)), clash-sym w x, c) (none-with a b w q.1)

pub one-for-all : (a b : List FileLine) (w r : FileLine) → differ (a ++ (w ∷ b)) ≡ false → same_number r.items w.items ≡ true
    → any (clash r.items) (a ++ (w ∷ b)) ≡ clash r.items w
one-for-all a b w r h n =
    cases (clash r.items w) (λ e. some_of r w a b e ∙ sym e)
    (λ e. none_over r w (a ++ (w ∷ b)) n e (none-with a b w h) ∙ sym e)

-- a new number clashes with none
pub new-agrees : (r : FileLine) (seen : List FileLine) → any (λ (q : FileLine). same_number r.items q.items) seen ≡ false → any (clash r.items) seen ≡ false
new-agrees r [] h = any-nil (clash r.items)
new-agrees r (q ∷ s) h =
    let p = any-first (λ (q : FileLine). same_number r.items q.items) q s h in
    rw (any-cons (clash r.items) q s, p.0, new-agrees r s p.1)

-- ---- 54: a run that begins is looked for among the rows before; q is the row before
unfoldable pub returns_behind : FileLine → List FileLine → List FileLine → Bool
returns_behind q seen [] = false
returns_behind q seen (r ∷ rs) =
    (not (same_number q.items r.items) && any (λ (x : FileLine). same_number r.items x.items) seen) || returns_behind r (r ∷ seen) rs

-- the number of x is among some rows
abbrev pub among : List FileLine → FileLine → Bool
among seen x = any (λ (y : FileLine). same_number x.items y.items) seen

-- some run's number is among them
abbrev touches : List FileLine → List Run → Bool
touches seen us = any (λ (w : Run). among seen w.row) us

pub number-sym : (x y : FileLine) → same_number x.items y.items ≡ same_number y.items x.items
number-sym x y = same-sym (number_of x.items) (number_of y.items)

pub number-over : (x y z : FileLine) → same_number x.items y.items ≡ true → same_number z.items y.items ≡ true → same_number x.items z.items ≡ true
number-over x y z h k =
    rw (same-eq (number_of x.items) (number_of y.items) h, same-eq (number_of z.items) (number_of y.items) k) (same_self (number_of y.items))

-- a row begins the first run of those that it begins
pub record Head (r : FileLine) (us : List Run) : Type 0 where
  pub run : Run
  pub others : List Run
  pub are : us ≡ run ∷ others
  pub row : run.row ≡ r

pub head_of : (r : FileLine) (us : List Run) → Head r (join_run r us)
unfolding join_run
head_of r [] = record { run = record { row = r; others = [] }; others = []; are = refl; row = refl }
head_of r (u ∷ us) =
    cases (same_number r.items u.row.items)
    (λ e. record { run = record { row = r; others = u.row ∷ u.others }; others = us; are = rw (e, join_run); row = refl })
    (λ e. record { run = record { row = r; others = [] }; others = u ∷ us; are = rw (e, join_run); row = refl })

touches-more : (r : FileLine) (seen : List FileLine) (us : List Run) → touches (r ∷ seen) us ≡ (any (λ (w : Run). same_number r.items w.row.items) us || touches seen us)
touches-more r seen us =
    any_same (λ (w : Run). among (r ∷ seen) w.row) (λ w. same_number r.items w.row.items || among seen w.row) us
    (λ w. any-cons (λ (y : FileLine). same_number w.row.items y.items) r seen ∙ ap (λ t. t || among seen w.row) (number-sym w.row r))
    ∙ any-both (λ (w : Run). same_number r.items w.row.items) (λ w. among seen w.row) us

-- the row before is among those before
abbrev Before : FileLine → List FileLine → Type 0
Before q seen = (x : FileLine) → same_number x.items q.items ≡ true → among seen x ≡ true

before-next : (r : FileLine) (seen : List FileLine) → Before r (r ∷ seen)
before-next r seen x h = rw (any-cons (λ (y : FileLine). same_number x.items y.items) r seen, h)

-- a row with the number of one that is among them adds nothing
touches-again : (q r : FileLine) (seen : List FileLine) (us : List Run) → Before q seen → same_number q.items r.items ≡ true → touches (r ∷ seen) us ≡ touches seen us
touches-again q r seen us H n =
    any_same (λ (w : Run). among (r ∷ seen) w.row) (λ w. among seen w.row) us
    (λ w.
    any-cons (λ (y : FileLine). same_number w.row.items y.items) r seen
    ∙ cases (same_number w.row.items r.items) (λ e. rw e (sym (H w.row (number-over w.row r q e n)))) (λ e. rw e))

-- one row more
returns-step : (q r : FileLine) (seen : List FileLine) (v : Run) (vs : List Run) (u : Run) (us : List Run) (t : Bool) → Before q seen → v.row ≡ r
    → join_run q (v ∷ vs) ≡ u ∷ us → t ≡ (touches (r ∷ seen) vs || returns vs)
    → ((not (same_number q.items r.items) && among seen r) || t) ≡ (touches seen us || returns us)
unfolding join_run returns
returns-step q r seen v vs u us t H e k I =
    let e' : same_number q.items v.row.items ≡ same_number q.items r.items = ap (λ (x : FileLine). same_number q.items x.items) e in
    cases (same_number q.items r.items)
    (λ n.
    let l : record { row = q; others = v.row ∷ v.others } ∷ vs ≡ u ∷ us = rw (e', n, join_run) at k in
    let z : vs ≡ us = cc in
    rw (n, I, touches-again q r seen vs H n) (ap (λ (x : List Run). touches seen x || returns x) z))
    (λ n.
    let l : record { row = q; others = [] } ∷ (v ∷ vs) ≡ u ∷ us = rw (e', n, join_run) at k in
    let z : v ∷ vs ≡ us = cc in
    let g : (any (λ (w : Run). same_number v.row.items w.row.items) vs) ≡ any (λ (w : Run). same_number r.items w.row.items) vs =
    ap (λ (x : FileLine). any (λ (w : Run). same_number x.items w.row.items) vs) e in
    rw (n, I, ← z, touches-more r seen vs, any-cons (λ (w : Run). among seen w.row) v vs, g, e)
    (order-of (among seen r) (any (λ (w : Run). same_number r.items w.row.items) vs) (touches seen vs) (returns vs)))

returns-from : (rs : List FileLine) (q : FileLine) (seen : List FileLine) (u : Run) (us : List Run) → Before q seen → runs (q ∷ rs) ≡ u ∷ us
    → returns_behind q seen rs ≡ (touches seen us || returns us)
unfolding returns_behind runs returns join_run
returns-from [] q seen u us H h = let e : ◌≡◌ {A = List Run} [] us = cc in rw (← e) (sym (ap (λ t. t || false) (any-nil (λ (w : Run). among seen w.row))))
returns-from (r ∷ rs) q seen u us H h =
    let W = head_of r (runs rs) in
    let v = W.run in
    let vs = W.others in
    let k : join_run q (v ∷ vs) ≡ u ∷ us = rw W.are at h in
    let I = returns-from rs r (r ∷ seen) v vs (before-next r seen) W.are in
    returns-step q r seen v vs u us (returns_behind r (r ∷ seen) rs) H W.row k I

no_touch : (s : List Run) → touches [] s ≡ false
unfolding any
no_touch [] = refl
no_touch (w ∷ s) = no_touch s

pub returns-behind : (q : FileLine) (rs : List FileLine) → returns (runs (q ∷ rs)) ≡ returns_behind q (q ∷ []) rs
unfolding runs returns
returns-behind q rs =
    let W = head_of q (runs rs) in
    let us = W.others in
    let e : returns (W.run ∷ us) ≡ (any (λ (w : Run). same_number q.items w.row.items) us || returns us) =
    ap (λ (x : FileLine). any (λ (w : Run). same_number x.items w.row.items) us || returns us) W.row in
    let b = any (λ (w : Run). same_number q.items w.row.items) us in
    let n : touches (q ∷ []) us ≡ b = touches-more q [] us ∙ ap (λ t. b || t) (no_touch us) ∙ or-false b in
    ap returns W.are ∙ e ∙ sym (returns-from rs q (q ∷ []) W.run us (before-next q []) W.are ∙ ap (λ t. t || returns us) n)
