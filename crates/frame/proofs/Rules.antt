-- What the frame's definitions say in terms of the rules: the pass counts what the rules count, and the check goes on from the frame.
-- Assumes nothing.
use mathlib.Core.Path.{◌≡◌, refl, sym, ap, ◌∙◌}
use mathlib.Core.Bool.{Bool, true, false, cond, not}
use mathlib.Core.List.{List, [], ◌∷◌, map}
use Prim.Native.Nat.{ℕ, zero, suc, ◌+◌}
use native.Mathlib.Nat.{add_assoc, add-zero, zero-add}
use native.Mathlib.Numerals.{add-one}
use native.Mathlib.Omega.{arith}
use borrow.Author.Tests.{ne_eqb}
use lib.Dec.{eqb, ltb}
use lib.ListN.{length}
use Rattle.std.specs.declared.option.Option.{Option}
use Rattle.std.specs.declared.option.Option.TheVariants.{Some, None}
use Rattle.std.specs.Bool.{then_some}
use Rattle.std.specs.Option.{option_or}
use Rattle.rules.specs.declared.Delims.{Delims}
use Rattle.rules.specs.declared.Counts.{Counts}
use Rattle.rules.specs.declared.Name.{Name}
use Rattle.rules.specs.declared.Name.TheVariants.{Spm, Obr, Obx, Other}
use Rattle.rules.specs.Told.{Told, gives, refused, refuse◌if◌else◌, ◌>>◌, ◌>>=◌, ◌when◌}
use Rattle.rules.specs.Lists.{count}
use Rattle.rules.specs.Frame.{delims_of, segments, name_of, is, known_from, known, Reached, start, past, may_follow, may_end, order_fault}
use Rattle.rules.specs.View.{Segment, segment_of, view}
use Rattle.rules.specs.Check.{frame_told, names_of, counts_told, unsaid, places_told, view_told, check_told}
use Rattle.rules.proofs.Logic.{cases, told_cases, then-gives}
use Rattle.rules.proofs.Header.{header}
use Rattle.rules.proofs.Where.{passes}
use Rattle.order.specs.Order.{reached_of, code_reached}
use Rattle.frame.specs.Frame.{frame_of, Sound, nothing_seen, tallied, counted_of, seen_after, closing}
use Rattle.frame.specs.declared.Opened.{Opened}
use Rattle.frame.specs.declared.all_segments.Seen.{Seen}

-- ---- the names of the known segments
unfoldable names_from : Delims → ℕ → List (List ℕ) → List Name
names_from d at ss = map (λ (s : Segment). s.name) (map (segment_of d) (known_from at ss))

names-nil : (d : Delims) (at : ℕ) → names_from d at [] ≡ []
unfolding names_from known_from
names-nil d at = refl

module _ (d : Delims) (at : ℕ) (s : List ℕ) (ss : List (List ℕ)) where
  names-other : is (name_of s) Other ≡ true → names_from d at (s ∷ ss) ≡ names_from d (at + suc (length s)) ss
  unfolding names_from known_from
  names-other e = rw e

  names-known : is (name_of s) Other ≡ false → names_from d at (s ∷ ss) ≡ name_of s ∷ names_from d (at + suc (length s)) ss
  unfolding names_from known_from segment_of
  names-known e = rw e

-- ---- the pass
pub counted-skipped : (v : Seen) (n : Name) → is n Other ≡ true
    → counted_of v n ≡ record { segments = v.segments + 1; known = v.known; reached = v.reached; fault = v.fault; counts = v.counts }
unfolding counted_of
counted-skipped v n e = rw e

pub counted_next : (v : Seen) (n : Name) → is n Other ≡ false
    → counted_of v n
    ≡ record { segments = v.segments + 1; known = v.known + 1; reached = code_reached (past (reached_of v.reached) n); fault = option_or v.fault (then_some (not (may_follow (reached_of v.reached) n)) (v.known + 1)); counts = tallied v.counts n }
unfolding counted_of
counted_next v n e = rw e

-- 14
counted-one : (v : Seen) (n : Name) → (counted_of v n).segments ≡ v.segments + 1
counted-one v n = cases (is n Other) (λ e. ap (λ w. w.segments) (counted-skipped v n e)) (λ e. ap (λ w. w.segments) (counted_next v n e))

seen-segments : (v : Seen) (ss : List (List ℕ)) → (seen_after v ss).segments ≡ v.segments + length ss
unfolding seen_after
seen-segments v [] = omega arith
seen-segments v (s ∷ ss) = omega (arith, seen-segments (counted_of v (name_of s)) ss, counted-one v (name_of s))

-- the counts
abbrev tallied_all : Counts → List Name → Counts
tallied_all c ns = record { spm = c.spm + count (is Spm) ns; obr = c.obr + count (is Obr) ns; obx = c.obx + count (is Obx) ns }

tallied-next : (c : Counts) (n : Name) (ns : List Name) → tallied_all (tallied c n) ns ≡ tallied_all c (n ∷ ns)
unfolding tallied count
tallied-next c n ns = rw (add_assoc c.spm (1 when is Spm n), add_assoc c.obr (1 when is Obr n), add_assoc c.obx (1 when is Obx n))

seen-counts : (d : Delims) (at : ℕ) (v : Seen) (ss : List (List ℕ)) → (seen_after v ss).counts ≡ tallied_all v.counts (names_from d at ss)
unfolding seen_after count
seen-counts d at v [] = rw (names-nil d at, add-zero v.counts.spm, add-zero v.counts.obr, add-zero v.counts.obx)
seen-counts d at v (s ∷ ss) =
    let n : Name = name_of s in
    let ns : List Name = names_from d (at + suc (length s)) ss in
    let r : (seen_after (counted_of v n) ss).counts ≡ tallied_all (counted_of v n).counts ns = seen-counts d (at + suc (length s)) (counted_of v n) ss in
    cases (is n Other)
    (λ e. r ∙ rw (counted-skipped v n e, names-other d at s ss e))
    (λ e. r ∙ rw (counted_next v n e, names-known d at s ss e) (tallied-next v.counts n ns))

-- 15: the rules' number of a fault, 0 for none, as the pass has it
abbrev fault_at : ℕ → Option ℕ
fault_at zero = None
fault_at (suc n) = Some (suc n)

unfoldable order_end : Seen → Option ℕ
order_end v = option_or v.fault (then_some (not (may_end (reached_of v.reached))) (v.known + 1))

or-next : (f : Option ℕ) (k : ℕ) (a : Reached) (n : Name) (ns : List Name)
    → option_or (option_or f (then_some (not (may_follow a n)) (k + 1))) (fault_at (order_fault (past a n) (k + 1 + 1) ns)) ≡ option_or f (fault_at (order_fault a (k + 1) (n ∷ ns)))
unfolding order_fault
or-next (Some x) k a n ns = refl
or-next None k a n ns = cases (may_follow a n) (λ e. rw (e, order_fault, add-one (k + 1))) (λ e. rw (e, order_fault, add-one k))

seen-order : (d : Delims) (at : ℕ) (v : Seen) (ss : List (List ℕ)) → order_end (seen_after v ss) ≡ option_or v.fault (fault_at (order_fault (reached_of v.reached) (v.known + 1) (names_from d at ss)))
unfolding seen_after order_end order_fault
seen-order d at v [] = rw (names-nil d at) (cases (may_end (reached_of v.reached)) (λ e. rw e) (λ e. rw (e, add-one v.known)))
seen-order d at v (s ∷ ss) =
    let n : Name = name_of s in
    let ns : List Name = names_from d (at + suc (length s)) ss in
    let r : order_end (seen_after (counted_of v n) ss) ≡ option_or (counted_of v n).fault (fault_at (order_fault (reached_of (counted_of v n).reached) ((counted_of v n).known + 1) ns)) = seen-order d (at + suc (length s)) (counted_of v n) ss in
    cases (is n Other)
    (λ e. r ∙ rw (counted-skipped v n e, names-other d at s ss e))
    (λ e. r ∙ rw (counted_next v n e, names-known d at s ss e) (or-next v.fault v.known (reached_of v.reached) n ns))

fault-or-not : {A : Type 0} (n : ℕ) (x : Told A) → elim (fault_at n) [ None ↦ x | Some at ↦ refused 15 at 0 ] ≡ cond (eqb n 0) x (refused 15 n 0)
fault-or-not zero x = refl
fault-or-not (suc n) x = rw (ne_eqb (suc n) 0 (λ z. omega arith))

-- so 14 and 15 are the rules' own
closing-with : (d : Delims) (v : Seen) (n : ℕ) → order_end v ≡ fault_at n
    → closing d v ≡ (refuse 14 if ltb 512 v.segments else cond (eqb n 0) (gives (record { delims = d; counts = v.counts })) (refused 15 n 0))
unfolding closing order_end
closing-with d v n e =
    ap (λ (x : Option ℕ). refuse 14 if ltb 512 v.segments else elim x [ None ↦ gives (record { delims = d; counts = v.counts }) | Some at ↦ refused 15 at 0 ]) e
    ∙ ap (λ (x : Told Opened). refuse 14 if ltb 512 v.segments else x) (fault-or-not n (gives (record { delims = d; counts = v.counts })))

pub closing-is : (m : List ℕ) (d : Delims) → closing d (seen_after nothing_seen (segments m))
    ≡ (refuse 14 if ltb 512 (length (segments m)) else
    cond (eqb (order_fault start 1 (names_of (view m))) 0) (counts_told (names_of (view m)) >>= λ c. gives (record { delims = d; counts = c })) (refused 15 (order_fault start 1 (names_of (view m))) 0))
unfolding names_from view known counts_told
closing-is m d =
    let w : Seen = seen_after nothing_seen (segments m) in
    let ns : List Name = names_of (view m) in
    let en : names_from (delims_of m) 0 (segments m) ≡ ns = refl in
    let eo : order_end w ≡ fault_at (order_fault start 1 ns) = seen-order (delims_of m) 0 nothing_seen (segments m) ∙ ap (λ l. fault_at (order_fault start 1 l)) en in
    let ec : w.counts ≡ record { spm = count (is Spm) ns; obr = count (is Obr) ns; obx = count (is Obx) ns }
    = seen-counts (delims_of m) 0 nothing_seen (segments m) ∙ rw (en, zero-add (count (is Spm) ns), zero-add (count (is Obr) ns), zero-add (count (is Obx) ns)) in
    let es : w.segments ≡ length (segments m) = seen-segments nothing_seen (segments m) ∙ zero-add (length (segments m)) in
    closing-with d w (order_fault start 1 ns) eo ∙ rw (ec, es)

-- ---- what a message that passes is
pick_gives : {A : Type 0} (b : Bool) (x a : A) (n s f : ℕ) → cond b (gives x) (refused n s f) ≡ gives a → x ≡ a
pick_gives true x a n s f h = cc
pick_gives false x a n s f h = cc

pub sound : (m : List ℕ) (o : Opened) → frame_of m ≡ gives o → Sound m o.delims
unfolding frame_of counts_told
sound m o h =
    let at : ℕ = order_fault start 1 (names_of (view m)) in
    let ns : List Name = names_of (view m) in
    let d : Delims = delims_of m in
    let x : Opened = record { delims = d; counts = record { spm = count (is Spm) ns; obr = count (is Obr) ns; obx = count (is Obx) ns } } in
    let q = then-gives (frame_told m) (cond (eqb at 0) (gives x) (refused 15 at 0)) o h in
    let p = passes m q.0 in
    let ed : o.delims ≡ d = ap (λ y. y.delims) (sym (pick_gives (eqb at 0) x o 15 at 0 q.1)) in
    rw ed (record { delims = refl; proper = (header m p.headed).proper; short = p.short; shifts = p.kept; whole = p.cut })

-- ---- the check goes on from the frame
pub check-from : (m : List ℕ) → check_told m ≡ (frame_of m >>= λ (o : Opened). places_told o.delims unsaid 1 (view m).segs >> gives o.counts)
unfolding check_told frame_of view_told view counts_told
check-from m =
    told_cases (frame_told m)
    (λ u e. rw e (cases (eqb (order_fault start 1 (names_of (view m))) 0) (λ q. rw q) (λ q. rw q)))
    (λ n s f e. rw e)

-- so a refusal of the frame is the check's
pub check-refused : (m : List ℕ) (n s f : ℕ) → frame_of m ≡ refused n s f → check_told m ≡ refused n s f
check-refused m n s f e = check-from m ∙ rw e

pub check-given : (m : List ℕ) (o : Opened) → frame_of m ≡ gives o → check_told m ≡ (places_told o.delims unsaid 1 (view m).segs >> gives o.counts)
check-given m o e = check-from m ∙ rw e

-- ---- two answers that are told the same are the same
