-- An accepted message: its rows are those of a sheet that is accepted, under 57,000 bytes. Assumes nothing.
use mathlib.Core.Path.{◌≡◌, refl, sym, ap, ◌∙◌}
use mathlib.Core.Bool.{true, false, cond}
use mathlib.Core.List.{List, [], ◌∷◌, ◌++◌, map}
use Prim.Native.Nat.{ℕ, suc, ◌+◌, ◌*◌, ◌≤◌, ◌<◌}
use native.Mathlib.Omega.{arith}
use lib.ListN.{length, drop, length-append}
use Rattle.rules.specs.declared.Delims.{Delims}
use Rattle.rules.specs.declared.Counts.{Counts}
use Rattle.rules.specs.declared.Mode.TheVariants.{One}
use Rattle.rules.specs.declared.Name.{Name}
use Rattle.rules.specs.declared.Name.TheVariants.{Msh, Pid, Pv1, Spm, Obr, Orc, Obx, Other}
use Rattle.rules.specs.Told.{gives, accepted}
use Rattle.rules.specs.Lists.{nth, any, count, split, ended, front}
use Rattle.rules.specs.Shift.{met}
use Rattle.rules.specs.Frame.{delims_of, segments, spelling, name_of, is, known_from, known, after, Reached, start, past, may_follow, may_end, order_fault}
use Rattle.rules.specs.Proper.{Delim, Proper}
use Rattle.rules.specs.Places.{places}
use Rattle.rules.specs.View.{part_of, Segment, segment_of, view}
use Rattle.rules.specs.Check.{Context, unsaid, parts_told, context_after, places_told, counts_told, view_told, frame_told, check_told}
use Rattle.rules.specs.Row.{lines, Row, row_of, rows_from, rows_of}
use Rattle.rules.specs.Sheet.{lines_text, row_lines, sheet_of, past_group, valid}
use Rattle.rules.proofs.Logic.{cases, never, then-gives}
use Rattle.rules.proofs.Split.{ended-append}
use Rattle.rules.proofs.Modes.{length-marks}
use Rattle.rules.proofs.Names.{in_names, name-is, spelling-of, name-split}
use Rattle.rules.proofs.Reading.{row-of}
use Rattle.rules.proofs.Header.{header}
use Rattle.rules.proofs.Clean.{Clean, Cleans, end-0D, ended-cleans}
use Rattle.rules.proofs.Ordered.{orc-after}
use Rattle.rules.proofs.Where.{view-passes, passes, framed, ended-segments, segments-free}
use Rattle.returns.proofs.Groups.{facts-good}
use Rattle.returns.proofs.Messages.{Tidy, counted}
use Rattle.returns.proofs.Whole.{Whole}
use Rattle.returns.proofs.Accepted.{Zeros, zeros, GoodSeg, sources, seg, spm-good, pv1-good, obr-good, msh-good}
use Rattle.returns.proofs.AcceptedClosed.{pid-good, obx-good}

-- ---- a known segment's first piece has its name, of three bytes
named : (x : ℕ) → Delim x → (s : List ℕ) → is (name_of s) Other ≡ false → 3 ≤ length (nth (split x (met s)) 0)
named x i s h =
    let t = front x (met (drop 3 s)) in
    rw (name-split x i s h) (omega (arith, length-append (spelling (name_of s)) t, (spelling-of (name_of s) h).three))

-- ---- one segment
seg-good : (d : Delims) → Proper d → (ctx : Context) (at : ℕ) (body : List ℕ) → Whole body → (n : Name) → 3 ≤ length (nth (split d.field body) 0)
    → Zeros d ctx (seg n at body) (places n) → GoodSeg (seg n at body) (sources d (seg n at body))
unfolding lines
seg-good d p ctx at body W Msh b Z = msh-good d ctx at body Z
seg-good d p ctx at body W Pid b Z = pid-good d p ctx at body W b Z
seg-good d p ctx at body W Pv1 b Z = pv1-good d ctx at body Z
seg-good d p ctx at body W Spm b Z = spm-good d ctx at body Z
seg-good d p ctx at body W Obr b Z = obr-good d ctx at body Z
seg-good d p ctx at body W Orc b Z = record { ok = tt; tidy = tt; size = unfold lines_text ended in omega arith }
seg-good d p ctx at body W Obx b Z = obx-good d p ctx at body W b Z
seg-good d p ctx at body W Other b Z = record { ok = tt; tidy = tt; size = unfold lines_text ended in omega arith }

-- ---- the order, by groups: at an OBR, its ORC is passed as well
abbrev group_at : Reached → Reached
group_at a = cond (is a.last Obr) (past a Orc) a

order-step : (a : Reached) (g : Name) (n : ℕ) (gs : List Name) → order_fault a (suc n) (g ∷ gs) ≡ 0 → (may_follow a g ≡ true) × (order_fault (past a g) (suc (suc n)) gs ≡ 0)
unfolding order_fault
order-step a g n gs h = cases (may_follow a g) (λ e. (e, cc)) (λ e. absurd (let z : ◌≡◌ {A = ℕ} (suc n) 0 = cc in omega arith))

may-after : (a : Reached) (g : Name) → may_follow a g ≡ true → any (is g) (after a.last) ≡ true
unfolding may_follow
may-after a g h = h

-- after an OBR comes an ORC alone, an ORC after an OBR alone, and no message ends with an OBR
not-obr : (a g : Name) → any (is g) (after a) ≡ true → is g Orc ≡ false → is a Obr ≡ false
unfolding any
not-obr a g =
    in_names (λ a. any (is g) (after a) ≡ true → is g Orc ≡ false → is a Obr ≡ false)
    (λ h o. refl) (λ h o. refl) (λ h o. refl) (λ h o. refl) (λ h o. never (sym h ∙ rw (o, any))) (λ h o. refl) (λ h o. refl) (λ h o. refl) a

ends : (a : Reached) → may_end a ≡ true → is a.last Obr ≡ false
unfolding may_end
ends a h = cases (is a.last Obr) (λ e. never (sym (rw (name-is a.last Obr e) at h))) (λ e. e)

group_at_lem : (a : Reached) (g : Name) → group_at (past a g) ≡ past_group a g
unfolding past past_group
group_at_lem a g = cases (is g Obr) (λ e. let q = name-is g Obr e in rw q) (λ e. rw e)

has-lines : (g : Name) → is g Orc ≡ false → is g Other ≡ false → 0 < length (lines g)
unfolding lines
has-lines g =
    in_names (λ g. is g Orc ≡ false → is g Other ≡ false → 0 < length (lines g))
    (λ o h. omega arith) (λ o h. omega arith) (λ o h. omega arith) (λ o h. omega arith) (λ o h. omega arith) (λ o h. never o) (λ o h. omega arith) (λ o h. never h) g

-- ---- the rows of some segments, where those before have led to a
record RowsOk (a : Reached) (names : List Name) (rows : List Row) (room : ℕ) : Type 0 where
  ok : valid (group_at a) rows ≡ true
  tidy : Tidy rows
  size : length (sheet_of rows) ≤ room
  counts : (g : Name) → is g Orc ≡ false → counted g rows ≡ count (is g) names

-- a segment that has a row; an ORC has none
row_step : (a : Reached) (g : Name) (ns : List Name) (ws : List (List ℕ)) (rows : List Row) (at room : ℕ) (body : List ℕ) → may_follow a g ≡ true → is g Orc ≡ false → is g Other ≡ false
    → GoodSeg (seg g at body) ws → RowsOk (past a g) ns rows room → RowsOk a (g ∷ ns) (row_of g ws ++ rows) (length body + 48 + room)
unfolding valid sheet_of row_lines count
row_step a g ns ws rows at room body h o t G R =
    let k = facts-good (lines g) [] ws G.ok in
    let ρ = row-of ws g (has-lines g o t) k in
    let n = not-obr a.last g (may-after a g h) o in
    let v : valid (past_group a g) rows ≡ true = rw (group_at_lem a g) at R.ok in
    let l : length (ended 0x0A (lines_text (lines g) ws ++ row_lines rows)) ≤ length body + 48 + room =
    rw (ended-append, length-append) (omega (arith, G.size, R.size)) in
    rw ρ.is
    (record {
      ok = rw (n, ρ.group, ρ.vals, h, k, v);
      tidy = (rw ρ.vals G.tidy, R.tidy);
      size = rw (ρ.group, ρ.vals) l;
      counts = λ x e. rw (ρ.group, R.counts x e);
    })

orc-step : (a : Reached) (ns : List Name) (ws : List (List ℕ)) (rows : List Row) (room : ℕ) (body : List ℕ) → may_follow a Orc ≡ true → RowsOk (past a Orc) ns rows room
    → RowsOk a (Orc ∷ ns) (row_of Orc ws ++ rows) (length body + 48 + room)
unfolding row_of count past
orc-step a ns ws rows room body h R =
    record { ok = rw (orc-after a.last (may-after a Orc h)) R.ok; tidy = R.tidy; size = omega (arith, R.size); counts = λ x e. rw e (R.counts x e ∙ (let z : count (is x) ns ≡ 0 + count (is x) ns = omega arith in z)) }

seg-step : (a : Reached) (g : Name) (ns : List Name) (ws : List (List ℕ)) (rows : List Row) (at room : ℕ) (body : List ℕ) → may_follow a g ≡ true → is g Other ≡ false
    → GoodSeg (seg g at body) ws → RowsOk (past a g) ns rows room → RowsOk a (g ∷ ns) (row_of g ws ++ rows) (length body + 48 + room)
seg-step a g ns ws rows at room body h t G R =
    cases (is g Orc)
    (λ e. let q = name-is g Orc e in rw q (orc-step a ns ws rows room body (rw q at h) (rw q at R)))
    (λ e. row_step a g ns ws rows at room body h e t G R)

more_room : (a : Reached) (ns : List Name) (rows : List Row) (x y : ℕ) → x ≤ y → RowsOk a ns rows x → RowsOk a ns rows y
more_room a ns rows x y h R = record { ok = R.ok; tidy = R.tidy; size = omega (arith, R.size); counts = R.counts }

module _ (d : Delims) (p : Proper d) where
  abbrev seen : ℕ → List (List ℕ) → List Segment
  seen at ss = map (segment_of d) (known_from at ss)

  abbrev names : List Segment → List Name
  names l = map (λ (s : Segment). s.name) l

  abbrev seg_at : ℕ → List ℕ → Segment
  seg_at at s = segment_of d (seg (name_of s) at (met s))

  known-one : (at : ℕ) (s : List ℕ) (ss : List (List ℕ)) → is (name_of s) Other ≡ false → seen at (s ∷ ss) ≡ seg_at at s ∷ seen (at + suc (length s)) ss
  unfolding known_from
  known-one at s ss h = rw h

  known-skip : (at : ℕ) (s : List ℕ) (ss : List (List ℕ)) → is (name_of s) Other ≡ true → seen at (s ∷ ss) ≡ seen (at + suc (length s)) ss
  unfolding known_from
  known-skip at s ss h = rw h

  one-places : (ctx : Context) (i at : ℕ) (s : List ℕ) (l : List Segment) → Clean s → is (name_of s) Other ≡ false → places_told d ctx i (seg_at at s ∷ l) ≡ gives tt
      → GoodSeg (seg (name_of s) at (met s)) (sources d (seg (name_of s) at (met s))) × (places_told d (context_after d ctx (seg_at at s)) (suc i) l ≡ gives tt)
  unfolding places_told segment_of
  one-places ctx i at s l h t P =
      let k = seg (name_of s) at (met s) in
      let z = then-gives (parts_told d ctx i (segment_of d k) (map (part_of d k) (places (name_of s)))) (places_told d (context_after d ctx (segment_of d k)) (suc i) l) tt P in
      let W : Whole (met s) = record { text = s; is = refl; clean = h } in
      (seg-good d p ctx at (met s) W (name_of s) (named d.field p.field s t) (zeros d p ctx i k (places (name_of s)) W z.0), z.1)

  one-order : (a : Reached) (at n : ℕ) (s : List ℕ) (l : List Segment) → order_fault a (suc n) (names (seg_at at s ∷ l)) ≡ 0
      → (may_follow a (name_of s) ≡ true) × (order_fault (past a (name_of s)) (suc (suc n)) (names l) ≡ 0)
  unfolding segment_of
  one-order a at n s l O = order-step a (name_of s) n (names l) O

  one-rows : (at : ℕ) (s : List ℕ) (l : List Segment)
      → (rows_from d (seg_at at s ∷ l) ≡ row_of (name_of s) (sources d (seg (name_of s) at (met s))) ++ rows_from d l) × (names (seg_at at s ∷ l) ≡ name_of s ∷ names l)
  unfolding rows_from segment_of
  one-rows at s l = (refl, refl)

  rows_ok : (ss : List (List ℕ)) → Cleans ss → (at i n : ℕ) (a : Reached) (ctx : Context)
      → places_told d ctx i (seen at ss) ≡ gives tt → order_fault a (suc n) (names (seen at ss)) ≡ 0
      → RowsOk a (names (seen at ss)) (rows_from d (seen at ss)) (length (ended 0x0D ss) + 47 * length ss)
  unfolding ended
  rows_ok [] c at i n a ctx P O = unfold known_from rows_from sheet_of row_lines in none-ok a n O
    where
      none-ok : (a : Reached) (n : ℕ) → order_fault a (suc n) [] ≡ 0 → RowsOk a [] [] 0
      none-ok a n O =
          record {
            ok = unfold order_fault valid in cases (may_end a) (λ e. rw (ends a e) e) (λ e. absurd (let z : ◌≡◌ {A = ℕ} (suc n) 0 = cc in omega arith));
            tidy = tt;
            size = unfold sheet_of row_lines in omega arith;
            counts = λ g e. unfold count in refl;
          }
  rows_ok (s ∷ ss) c at i n a ctx P O =
      let e = length-append s (0x0D ∷ ended 0x0D ss) in
      let at' = at + suc (length s) in
      cases (is (name_of s) Other)
      (λ t.
      let k = known-skip at s ss t in
      let r = rows_ok ss c.1 at' i n a ctx (rw k at P) (rw k at O) in
      rw k (more_room a _ _ _ _ (omega arith) r))
      (λ t.
      let k = known-one at s ss t in
      let z = one-places ctx i at s (seen at' ss) c.0 t (rw k at P) in
      let w = one-order a at n s (seen at' ss) (rw k at O) in
      let r = rows_ok ss c.1 at' (suc i) (suc n) (past a (name_of s)) (context_after d ctx (seg_at at s)) z.1 w.1 in
      let l : length (met s) ≡ length s = unfold met in length-marks 0x0D One s in
      let q = one-rows at s (seen at' ss) in
      rw (k, q.0, q.1)
      (more_room a _ _ _ _ (omega arith) (seg-step a (name_of s) _ (sources d (seg (name_of s) at (met s))) _ at _ (met s) w.0 t z.0 r)))

-- THE ROWS OF AN ACCEPTED MESSAGE
pub record RowsOf (m : List ℕ) (c : Counts) (rows : List Row) : Type 0 where
  pub ok : valid start rows ≡ true
  pub tidy : Tidy rows
  pub size : length (sheet_of rows) < 57000
  pub counts : accepted (counted Spm rows) (counted Obr rows) (counted Obx rows) ≡ gives c

pub rows-of-accepted : (m : List ℕ) (c : Counts) → check_told m ≡ gives c → RowsOf m c (rows_of (view m))
unfolding check_told view known rows_of counts_told
rows-of-accepted m c h =
    let z = then-gives (frame_told m) (view_told (view m)) c h in
    let F = passes m z.0 in
    let e = ended-segments m (framed m z.0) in
    let w = view-passes (view m) c z.1 in
    let p = (header m F.headed).proper in
    let c = ended-cleans 0x0D end-0D (segments m) (segments-free m) (rw e F.kept) in
    let R = rows_ok (delims_of m) p (segments m) c 0 1 0 start unsaid w.1 w.0 in
    record {
      ok = R.ok;
      tidy = R.tidy;
      size = omega (arith, R.size, F.short, F.few, ap length e);
      counts = rw (R.counts Spm refl, R.counts Obr refl, R.counts Obx refl) w.2;
    }
