-- Each edit, and so any chain of edits, gives two messages that differ in unread places alone. Assumes nothing.
use mathlib.Core.Path.{◌≡◌, refl, sym, ◌∙◌}
use mathlib.Core.Bool.{Bool, true, false, not, ◌&&◌, ◌||◌, false≢true}
use mathlib.Core.List.{List, [], ◌∷◌, ◌++◌, append-nil}
use Prim.Native.Nat.{ℕ, suc, ◌≤◌}
use native.Mathlib.Omega.{arith}
use borrow.Author.Tests.{eqb-true, ltb-true, ltb-false}
use lib.Dec.{eqb, ltb}
use lib.ListN.{length, take, drop, take-append-drop}
use Rattle.rules.specs.declared.Mode.TheVariants.{One}
use Rattle.rules.specs.declared.Name.TheVariants.{Other}
use Rattle.rules.specs.Lists.{empty, all, has, split, last, front, later, since}
use Rattle.rules.specs.Shift.{step, is_one, keeps, mark, marks, met}
use Rattle.rules.specs.Frame.{header_ok, delims_of, segments, name_of, is, here}
use Rattle.rules.specs.Places.{is_closed, unread_field, unread_component}
use Rattle.rules.proofs.Logic.{cases, both, neither, not-true, eqb-sym, either}
use Rattle.rules.proofs.Lists.{empty-is, all_first, has_there, one_free}
use Rattle.rules.proofs.Split.{front-here, front-there}
use Rattle.rules.proofs.Header.{Header, header}
use Rattle.rules.proofs.Clean.{here-keeps}
use Rattle.unread.specs.Differs.{Differs}
use Rattle.unread.specs.Edits.{spot_in, spot, stands, in_segment, in_field, in_open_field, unread_at, may_stand, begins, other_segment, others, field_bytes, unread_from, new_fields, component_bytes, new_components, segment_edit, field_edit, fields_edit, component_edit, components_edit, unread, Edit, edit, Edits, none, next, Change, changed, changed_all, unread_all}
use Rattle.unread.proofs.Differs.{differs-same, differs-trans}
use Rattle.unread.proofs.Segments.{altered, others-altered}
use Rattle.unread.proofs.Fields.{field-altered, NewFields, fields-put}
use Rattle.unread.proofs.Components.{past-name, later-altered, component-altered, components-put}

-- ---- what stands before an edit, and the stretch and place taken apart
record Stood (p : List ℕ) : Type 0 where
  head : Header p
  long : 8 ≤ length p
  ends : keeps 0x0D (here p) ≡ true

stood : (p : List ℕ) → stands p ≡ true → Stood p
unfolding stands
stood p h =
    let a = both (header_ok p) (keeps 0x0D p) h in
    let b = header p a.0 in
    let l = b.long in
    record { head = b; long = omega arith; ends = here-keeps p a.1 }

-- none of some separators acts in v
abbrev Frees : List ℕ → List ℕ → Type 0
Frees [] v = Unit {0}
Frees (x ∷ seps) v = (has x (met v) ≡ false) × Frees seps v

frees : (seps v : List ℕ) → all (λ (x : ℕ). not (has x (met v))) seps ≡ true → Frees seps v
frees [] v h = tt
frees (x ∷ seps) v h = let a = all_first (λ (x : ℕ). not (has x (met v))) x seps h in (not-true (has x (met v)) a.0, frees seps v a.1)

record Stretch (seps v : List ℕ) : Type 0 where
  kept : keeps 0x0D v ≡ true
  endless : has 0x0D v ≡ false
  free : Frees seps v

stretched : (seps v : List ℕ) → may_stand seps v ≡ true → Stretch seps v
unfolding may_stand
stretched seps v h =
    let a = both (keeps 0x0D v && not (has 0x0D v)) (all (λ (x : ℕ). not (has x (met v))) seps) h in
    let b = both (keeps 0x0D v) (not (has 0x0D v)) a.0 in
    record { kept = b.0; endless = not-true (has 0x0D v) b.1; free = frees seps v a.1 }

in-segment : (p : List ℕ) → in_segment (spot p) ≡ true → is (name_of (here p)) Other ≡ false
unfolding in_segment spot_in
in-segment p h = not-true (is (name_of (here p)) Other) h

in_field_lem : (p : List ℕ) → in_field (spot p) ≡ true → is (name_of (here p)) Other ≡ false
unfolding in_field
in_field_lem p h = in-segment p (both (in_segment (spot p)) _ h).0

-- the rest of the segment is empty where its end comes next
ended : (q : List ℕ) → begins (0x0D ∷ []) q ≡ true → front 0x0D q ≡ []
unfolding begins
ended [] h = absurd (false≢true h)
ended (e ∷ q) h =
    cases (eqb 0x0D e)
    (λ t. rw (← eqb-true 0x0D e t) (front-here 0x0D q))
    (λ t. absurd (false≢true (sym (one_free e 0x0D t) ∙ h)))

-- the rest of the repetition is empty where its end comes next
nothing_left : (p q : List ℕ) → Header p → begins (0x0D ∷ ((delims_of p).field ∷ ((delims_of p).repetition ∷ []))) q ≡ true
    → front (delims_of p).repetition (front (delims_of p).field (met (front 0x0D q))) ≡ []
unfolding met marks mark is_one begins
nothing_left p [] g h = absurd (false≢true h)
nothing_left p (e ∷ q) g h =
    let d = delims_of p in
    let x : front d.field [] ≡ [] = unfold front split in refl in
    let y : front d.repetition [] ≡ [] = unfold front split in refl in
    cases (eqb 0x0D e)
    (λ t. rw (← eqb-true 0x0D e t, front-here 0x0D q, x) y)
    (λ t.
    let t' : eqb e 0x0D ≡ false = eqb-sym e 0x0D ∙ t in
    let h1 = sym (has_there e 0x0D (d.field ∷ (d.repetition ∷ [])) t) ∙ h in
    rw (front-there 0x0D e q t')
    (cases (eqb d.field e)
    (λ r. rw (← eqb-true d.field e r, front-here d.field (marks 0x0D (step 0x0D One d.field) (front 0x0D q))) y)
    (λ r.
    let h2 = sym (has_there e d.field (d.repetition ∷ []) r) ∙ h1 in
    cases (eqb d.repetition e)
    (λ z. rw (← eqb-true d.repetition e z, front-there d.field d.repetition (marks 0x0D (step 0x0D One d.repetition) (front 0x0D q)) g.proper.repetition-field) (front-here d.repetition _))
    (λ z. absurd (false≢true (sym (one_free e d.repetition z) ∙ h2))))))

-- ---- the edits
segment-differs : (p v w q : List ℕ) → Stood p → segment_edit p v w ≡ true → Differs (p ++ (v ++ q)) (p ++ (w ++ q))
unfolding segment_edit others
segment-differs p v w q g h =
    let a = both (empty (here p) && others v) (others w) h in
    let b = both (empty (here p)) (others v) a.0 in
    let x = both (empty (last (split 0x0D v))) (all other_segment (segments v)) b.1 in
    let y = both (empty (last (split 0x0D w))) (all other_segment (segments w)) a.1 in
    let ev : here v ≡ [] = unfold since in empty-is (last (split 0x0D v)) x.0 in
    let ew : here w ≡ [] = unfold since in empty-is (last (split 0x0D w)) y.0 in
    others-altered p v w q g.long (empty-is (here p) b.0) ev ew x.1 y.1

field-differs : (p v w q : List ℕ) → Stood p → field_edit (delims_of p) (spot p) v w ≡ true → Differs (p ++ (v ++ q)) (p ++ (w ++ q))
unfolding field_edit field_bytes unread_field spot_in
field-differs p v w q g h =
    let d = delims_of p in
    let s = here p in
    let x = spot p in
    let a = both (in_field x && unread_field x.name x.field && field_bytes d v) (field_bytes d w) h in
    let b = both (in_field x && unread_field x.name x.field) (field_bytes d v) a.0 in
    let c = both (in_field x) (unread_field x.name x.field) b.0 in
    let o = neither (is_closed x.name x.field) _ (not-true (is_closed x.name x.field || _) c.1) in
    let σ = stretched (d.field ∷ []) v b.1 in
    let τ = stretched (d.field ∷ []) w a.1 in
    altered p v w q g.long σ.endless τ.endless
    (field-altered d s v w (front 0x0D q) g.ends σ.kept τ.kept (in_field_lem p c.0) σ.free.0 τ.free.0 (past-name x.name _ o.0) c.1)

fields-new : (p v : List ℕ) → new_fields (delims_of p) (spot p).name (spot p).field v ≡ true → (has 0x0D v ≡ false) × NewFields (delims_of p) (here p) v
unfolding new_fields spot_in
fields-new p v h =
    let d = delims_of p in
    let x = spot p in
    let a = both (may_stand [] v && empty (front d.field (met v))) (unread_from (unread_field x.name) (suc x.field) (later d.field (met v))) h in
    let b = both (may_stand [] v) (empty (front d.field (met v))) a.0 in
    ((stretched [] v b.0).endless, record { leads = empty-is (front d.field (met v)) b.1; unreads = a.1 })

fields-differ : (p v w q : List ℕ) → Stood p → fields_edit (delims_of p) (spot p) v w q ≡ true → Differs (p ++ (v ++ q)) (p ++ (w ++ q))
unfolding fields_edit
fields-differ p v w q g h =
    let d = delims_of p in
    let x = spot p in
    let new : List ℕ → Bool = new_fields d x.name x.field in
    let a = both (in_segment x && new v && new w) (begins (0x0D ∷ []) q) h in
    let b = both (in_segment x && new v) (new w) a.0 in
    let c = both (in_segment x) (new v) b.0 in
    let νv = fields-new p v c.1 in
    let νw = fields-new p w b.1 in
    altered p v w q g.long νv.0 νw.0
    (rw (ended q a.1, append-nil v, append-nil w) (fields-put d (here p) g.ends (in-segment p c.0) v w νv.1 νw.1))

component-differs : (p v w q : List ℕ) → Stood p → component_edit (delims_of p) (spot p) v w ≡ true → Differs (p ++ (v ++ q)) (p ++ (w ++ q))
unfolding component_edit component_bytes in_open_field unread_at spot_in
component-differs p v w q g h =
    let d = delims_of p in
    let s = here p in
    let x = spot p in
    let a = both (in_open_field x && unread_at x x.component && component_bytes d v) (component_bytes d w) h in
    let b = both (in_open_field x && unread_at x x.component) (component_bytes d v) a.0 in
    let c = both (in_open_field x) (unread_at x x.component) b.0 in
    let e = both (in_field x) (not (is_closed x.name x.field)) c.0 in
    let i = in_field_lem p e.0 in
    let o = not-true (is_closed x.name x.field) e.1 in
    let seps : List ℕ = d.field ∷ (d.component ∷ (d.repetition ∷ [])) in
    let σ = stretched seps v b.1 in
    let τ = stretched seps w a.1 in
    altered p v w q g.long σ.endless τ.endless
    (cases (ltb 1 x.repetition)
    (λ t.
    later-altered d s v w (front 0x0D q) g.ends σ.kept τ.kept i σ.free.0 τ.free.0 σ.free.1.1.0 τ.free.1.1.0 o
    (omega (arith, ltb-true 1 x.repetition t)))
    (λ t.
    component-altered d s v w (front 0x0D q) g.ends σ.kept τ.kept i σ.free.0 τ.free.0 σ.free.1.1.0 τ.free.1.1.0 o
    (omega (arith, ltb-false 1 x.repetition t)) σ.free.1.0 τ.free.1.0 (rw t at c.1)))

record NewComponents (p v : List ℕ) : Type 0 where
  put : Stretch ((delims_of p).field ∷ ((delims_of p).repetition ∷ [])) v
  leads : front (delims_of p).component (met v) ≡ []
  unreads : unread_from (unread_at (spot p)) (suc (spot p).component) (later (delims_of p).component (met v)) ≡ true

components-new : (p v : List ℕ) → new_components (delims_of p) (spot p) v ≡ true → NewComponents p v
unfolding new_components
components-new p v k =
    let d = delims_of p in
    let x = spot p in
    let seps : List ℕ = d.field ∷ (d.repetition ∷ []) in
    let a = both (may_stand seps v && empty (front d.component (met v))) (unread_from (unread_at x) (suc x.component) (later d.component (met v))) k in
    let b = both (may_stand seps v) (empty (front d.component (met v))) a.0 in
    record { put = stretched seps v b.0; leads = empty-is (front d.component (met v)) b.1; unreads = a.1 }

first-unread : (p : List ℕ) (c : ℕ) → ltb 1 (spot p).repetition ≡ false → unread_at (spot p) c ≡ unread_component (spot p).name (spot p).field c
unfolding unread_at
first-unread p c t = rw t

components-differ : (p v w q : List ℕ) → Stood p → components_edit (delims_of p) (spot p) v w q ≡ true → Differs (p ++ (v ++ q)) (p ++ (w ++ q))
unfolding components_edit in_open_field spot_in
components-differ p v w q g h =
    let d = delims_of p in
    let s = here p in
    let x = spot p in
    let a = both (in_open_field x && new_components d x v && new_components d x w) (begins (0x0D ∷ (d.field ∷ (d.repetition ∷ []))) q) h in
    let b = both (in_open_field x && new_components d x v) (new_components d x w) a.0 in
    let c = both (in_open_field x) (new_components d x v) b.0 in
    let e = both (in_field x) (not (is_closed x.name x.field)) c.0 in
    let i = in_field_lem p e.0 in
    let o = not-true (is_closed x.name x.field) e.1 in
    let νv = components-new p v c.1 in
    let νw = components-new p w b.1 in
    let σ = νv.put in
    let τ = νw.put in
    altered p v w q g.long σ.endless τ.endless
    (cases (ltb 1 x.repetition)
    (λ t.
    later-altered d s v w (front 0x0D q) g.ends σ.kept τ.kept i σ.free.0 τ.free.0 σ.free.1.0 τ.free.1.0 o
    (omega (arith, ltb-true 1 x.repetition t)))
    (λ t.
    components-put d s v w (front 0x0D q) g.ends σ.kept τ.kept i σ.free.0 τ.free.0 σ.free.1.0 τ.free.1.0 o
    (omega (arith, ltb-false 1 x.repetition t)) (unread_at x) (λ c. first-unread p c t) (nothing_left p q g.head a.1)
    (νv.leads, νv.unreads) (νw.leads, νw.unreads)))

edit-differs : {m n : List ℕ} → Edit m n → Differs m n
edit-differs (edit p v w q h) = apart p v w q h
  where
    apart : (p v w q : List ℕ) → unread p v w q ≡ true → Differs (p ++ (v ++ q)) (p ++ (w ++ q))
    apart p v w q h =
        unfold unread in
        (let d = delims_of p in
        let x = spot p in
        let a = both (stands p) _ h in
        let g = stood p a.0 in
        either (segment_edit p v w) _ a.1 (segment-differs p v w q g)
        (λ b. either (field_edit d x v w) _ b (field-differs p v w q g)
        (λ c. either (fields_edit d x v w q) _ c (fields-differ p v w q g)
        (λ e. either (component_edit d x v w) (components_edit d x v w q) e (component-differs p v w q g) (components-differ p v w q g)))))

-- any number of them
pub edits-differ : {m n : List ℕ} → Edits m n → Differs m n
edits-differ {m = m} none = differs-same m
edits-differ (next {m = m} {n = n} {o = o} e es) = differs-trans m n o (edit-differs e) (edits-differ es)

-- ---- changes at places are edits
cut_up : (c : Change) (m : List ℕ) → take c.at m ++ (take c.out (drop c.at m) ++ drop c.out (drop c.at m)) ≡ m
cut_up c m = rw (take-append-drop c.out (drop c.at m), take-append-drop c.at m)

pub edits : (cs : List Change) (m : List ℕ) → unread_all cs m ≡ true → Edits m (changed_all cs m)
unfolding unread_all changed_all changed
edits [] m h = none
edits (c ∷ cs) m h =
    let a = both (unread (take c.at m) (take c.out (drop c.at m)) c.put (drop c.out (drop c.at m))) (unread_all cs (changed c m)) h in
    next (rw (cut_up c m) at (edit (take c.at m) (take c.out (drop c.at m)) c.put (drop c.out (drop c.at m)) a.0))
    (edits cs (changed c m) a.1)
