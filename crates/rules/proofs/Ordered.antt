-- The segments of valid rows stand in order: no 15. Assumes nothing.
use mathlib.Core.Path.{◌≡◌, refl, sym}
use mathlib.Core.Bool.{true, ◌&&◌}
use mathlib.Core.List.{List, [], ◌∷◌, map}
use Prim.Native.Nat.{ℕ, suc}
use Rattle.rules.specs.declared.Delims.{Delims}
use Rattle.rules.specs.declared.Name.{Name}
use Rattle.rules.specs.declared.Name.TheVariants.{Msh, Pid, Pv1, Spm, Obr, Orc, Obx}
use Rattle.rules.specs.Lists.{any}
use Rattle.rules.specs.Frame.{is, after, Reached, past, may_follow, order_fault}
use Rattle.rules.specs.Row.{lines, Row, header, patient, visit, specimen, order, result, group_of, values}
use Rattle.rules.specs.Sheet.{past_group, good, valid}
use Rattle.rules.specs.Message.{Piece, Numbers, counted, pieces_of, pieces}
use Rattle.rules.proofs.Logic.{both, never}
use Rattle.rules.proofs.Names.{in_names}

abbrev names_in : List Piece → List Name
names_in ps = map (λ (p : Piece). p.name) ps

fault-step : (a : Reached) (g : Name) (i : ℕ) (gs : List Name) → may_follow a g ≡ true → order_fault a i (g ∷ gs) ≡ order_fault (past a g) (suc i) gs
unfolding order_fault
fault-step a g i gs h = rw (h, order_fault)

-- an order's OBR and ORC
orc-follows : (a : Reached) → may_follow (past a Obr) Orc ≡ true
unfolding may_follow past any
orc-follows a = refl

order-step : (a : Reached) (i : ℕ) (gs : List Name) → may_follow a Obr ≡ true → order_fault a i (Obr ∷ (Orc ∷ gs)) ≡ order_fault (past (past a Obr) Orc) (suc (suc i)) gs
order-step a i gs h = rw (fault-step a Obr i (Orc ∷ gs) h, fault-step (past a Obr) Orc (suc i) gs (orc-follows a))

-- a row, and those behind it
row_ok : (r : Row) (rs : List Row) (a : Reached) → may_follow a (group_of r) ≡ true
    → ((d : Delims) (n : Numbers) (i : ℕ) → order_fault (past_group a (group_of r)) i (names_in (pieces d n rs)) ≡ 0)
    → (δ : Delims) (n : Numbers) (i : ℕ) → order_fault a i (names_in (pieces δ n (r ∷ rs))) ≡ 0
unfolding pieces pieces_of past_group
row_ok (header a b c) rs α m k' δ n i = rw (fault-step α Msh i (names_in (pieces δ (counted n Msh) rs)) m) (k' δ (counted n Msh) (suc i))
row_ok (patient a b c d e f g) rs α m k' δ n i = rw (fault-step α Pid i (names_in (pieces δ (counted n Pid) rs)) m) (k' δ (counted n Pid) (suc i))
row_ok (visit a) rs α m k' δ n i = rw (fault-step α Pv1 i (names_in (pieces δ (counted n Pv1) rs)) m) (k' δ (counted n Pv1) (suc i))
row_ok (specimen a b) rs α m k' δ n i = rw (fault-step α Spm i (names_in (pieces δ (counted n Spm) rs)) m) (k' δ (counted n Spm) (suc i))
row_ok (order a b) rs α m k δ n i = rw (order-step α i (names_in (pieces δ (counted n Obr) rs)) m) (k δ (counted n Obr) (suc (suc i)))
row_ok (result a b c d e f g h k l) rs α m k' δ n i = rw (fault-step α Obx i (names_in (pieces δ (counted n Obx) rs)) m) (k' δ (counted n Obx) (suc i))

pub order-ok : (rows : List Row) (a : Reached) → valid a rows ≡ true → (d : Delims) (n : Numbers) (i : ℕ) → order_fault a i (names_in (pieces d n rows)) ≡ 0
unfolding valid
order-ok [] a v d n i = unfold order_fault pieces in rw v
order-ok (r ∷ rs) a v d n i =
    let p = both (may_follow a (group_of r)) (good (lines (group_of r)) [] (values r) && valid (past_group a (group_of r)) rs) v in
    let q = both (good (lines (group_of r)) [] (values r)) (valid (past_group a (group_of r)) rs) p.1 in
    row_ok r rs a p.0 (order-ok rs (past_group a (group_of r)) q.1) d n i

-- an ORC follows an OBR alone
pub orc-after : (a : Name) → any (is Orc) (after a) ≡ true → is a Obr ≡ true
unfolding any
orc-after a =
    in_names (λ a. any (is Orc) (after a) ≡ true → is a Obr ≡ true)
    (λ h. never (sym h)) (λ h. never (sym h)) (λ h. never (sym h)) (λ h. never (sym h)) (λ h. refl) (λ h. never (sym h)) (λ h. never (sym h)) (λ h. never (sym h)) a
