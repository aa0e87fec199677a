-- The written message as a whole: its segments, its view, its rows, its order and its counts. Assumes nothing.
use mathlib.Core.Path.{◌≡◌, refl, sym}
use mathlib.Core.Bool.{true, false, cond, ◌&&◌}
use mathlib.Core.List.{List, [], ◌∷◌, ◌++◌, map}
use Prim.Native.Nat.{ℕ, suc, ◌+◌}
use native.Mathlib.Omega.{arith}
use borrow.Author.Tests.{le-leb}
use lib.ListN.{length}
use Rattle.rules.specs.declared.Delims.{Delims}
use Rattle.rules.specs.declared.Name.{Name}
use Rattle.rules.specs.declared.Name.TheVariants.{Spm, Obr, Orc, Obx, Other}
use Rattle.rules.specs.Told.{gives, accepted}
use Rattle.rules.specs.Lists.{bytes, empty, starts, any, count, split, last, led, join, ended}
use Rattle.rules.specs.Shift.{keeps}
use Rattle.rules.specs.Frame.{delims_ok, header_ok, delims_of, segments, name_ok, capital, capital_or_digit, known_names, spelling, name_among, name_of, is, known_from, known, Reached, start, may_follow, may_end}
use Rattle.rules.specs.Proper.{Proper}
use Rattle.rules.specs.Places.{places}
use Rattle.rules.specs.View.{part_of, Segment, segment_of, view}
use Rattle.rules.specs.Check.{Context, unsaid, parts_told, places_told, counts_told, view_told}
use Rattle.rules.specs.Row.{lines, Row, header, patient, visit, specimen, order, result, group_of, values, rows_from, rows_of}
use Rattle.rules.specs.Sheet.{past_group, good, valid}
use Rattle.rules.specs.Message.{blanks, encoding, Piece, piece, Numbers, zeros, counted as numbered, pieces_of, pieces, segment_text, written, message_of}
use Rattle.rules.proofs.Logic.{cases, never, both, or-true, eqb-self}
use Rattle.rules.proofs.Split.{split-ended, but_last-snoc, last_snoc}
use Rattle.rules.proofs.Names.{in_names}
use Rattle.rules.proofs.Ordered.{order-ok}
use Rattle.rules.proofs.Header.{proper}
use Rattle.rules.proofs.Clean.{Cleans, cleans-free, cleans-ended, end-0D}
use Rattle.returns.proofs.Fields.{segment-clean}
use Rattle.returns.proofs.Groups.{Facts, facts}
use Rattle.returns.proofs.Segments.{Said, none, more, known_as, meets, spm, pv1, obr, orc, msh}
use Rattle.returns.proofs.Closed.{pid, obx}

-- ---- rows: the first of them and the rest
pub record First (a : Reached) (r : Row) (rs : List Row) : Type 0 where
  pub follows : may_follow a (group_of r) ≡ true
  pub holds : good (lines (group_of r)) [] (values r) ≡ true
  pub rest : valid (past_group a (group_of r)) rs ≡ true

pub first : (a : Reached) (r : Row) (rs : List Row) → valid a (r ∷ rs) ≡ true → First a r rs
unfolding valid
first a r rs v =
    let q = both (may_follow a (group_of r)) (good (lines (group_of r)) [] (values r) && valid (past_group a (group_of r)) rs) v in
    let w = both (good (lines (group_of r)) [] (values r)) (valid (past_group a (group_of r)) rs) q.1 in
    record { follows = q.0; holds = w.0; rest = w.1 }

-- every value keeps the shift rule by itself
abbrev pub Tidy : List Row → Type 0
Tidy [] = Unit
Tidy (r ∷ rs) = Cleans (values r) × Tidy rs

-- ---- every row says itself
module _ (d : Delims) (p : Proper d) where
  row-said : (r : Row) (n : Numbers) (rs : List Row) (qs : List Piece) → Facts (lines (group_of r)) [] (values r) → Cleans (values r)
      → ((c : Context) → Said d c qs rs) → (c : Context) → Said d c (pieces_of d n r ++ qs) (r ∷ rs)
  unfolding pieces_of values
  row-said (header x1 x2 x3) n rs qs F C D c = more (msh d p n x1 x2 x3 c F C) (D c)
  row-said (patient x1 x2 x3 x4 x5 x6 x7) n rs qs F C D c = more (pid d p n x1 x2 x3 x4 x5 x6 x7 c F C) (D c)
  row-said (visit x1) n rs qs F C D c = more (pv1 d p n x1 c F C) (D c)
  row-said (specimen x1 x2) n rs qs F C D c = more (spm d p n x1 x2 c F C) (D c)
  row-said (order x1 x2) n rs qs F C D c = more (obr d p n x1 x2 c F C) (more (orc d p n x1 x2 F C) (D (record { order = x1 })))
  row-said (result x1 x2 x3 x4 x5 x6 x7 x8 x9 x10) n rs qs F C D c = more (obx d p n x1 x2 x3 x4 x5 x6 x7 x8 x9 x10 c F C) (D c)

  said : (a : Reached) (n : Numbers) (rows : List Row) → valid a rows ≡ true → Tidy rows → (c : Context) → Said d c (pieces d n rows) rows
  unfolding pieces
  said a n [] v t c = none
  said a n (r ∷ rs) v t c =
      let f = first a r rs v in
      let m = numbered n (group_of r) in
      row-said r m rs (pieces d m rs) (facts (lines (group_of r)) [] (values r) f.holds) t.0 (said (past_group a (group_of r)) m rs f.rest t.1) c

  -- ---- the segments
  abbrev texts : List Piece → List (List ℕ)
  texts qs = map (segment_text d) qs

  said-cleans : {c : Context} {qs : List Piece} {rows : List Row} → Said d c qs rows → Cleans (texts qs)
  unfolding segment_text
  said-cleans none = tt
  said-cleans (more x y) = (segment-clean d p x.oks, said-cleans y)

  module _ (c : Context) (qs : List Piece) (rows : List Row) (S : Said d c qs rows) where
    cut : split 0x0D (ended 0x0D (texts qs)) ≡ texts qs ++ ([] ∷ [])
    cut = split-ended 0x0D (texts qs) (cleans-free 0x0D end-0D (texts qs) (said-cleans S))

    pub segments-are : segments (ended 0x0D (texts qs)) ≡ texts qs
    unfolding segments
    segments-are = rw cut (but_last-snoc (texts qs))

    pub all-ended : empty (last (split 0x0D (ended 0x0D (texts qs)))) ≡ true
    unfolding empty
    all-ended = rw (cut, last_snoc (texts qs))

    pub message-keeps : keeps 0x0D (ended 0x0D (texts qs)) ≡ true
    message-keeps = cleans-ended 0x0D end-0D (texts qs) (said-cleans S)

-- a segment begins with its name
name_back : (d : Delims) (n : Name) (fs : List (List ℕ)) → is n Other ≡ false → name_of (segment_text d (piece n fs)) ≡ n
unfolding name_of name_among known_names starts spelling bytes segment_text join
name_back d n fs =
    in_names (λ n. is n Other ≡ false → name_of (segment_text d (piece n fs)) ≡ n)
    (λ h. refl) (λ h. refl) (λ h. refl) (λ h. refl) (λ h. refl) (λ h. refl) (λ h. refl) (λ h. never h) n

three : (bar x y z : ℕ) (fs : List (List ℕ)) → (capital x && capital_or_digit y && capital_or_digit z) ≡ true → name_ok bar (join bar ((x ∷ y ∷ z ∷ []) ∷ fs)) ≡ true
unfolding name_ok join led
three bar x y z [] h =
    let p = both (capital x && capital_or_digit y) (capital_or_digit z) h in
    let q = both (capital x) (capital_or_digit y) p.0 in
    rw (q.0, q.1, p.1)
three bar x y z (f ∷ fs) h =
    let p = both (capital x && capital_or_digit y) (capital_or_digit z) h in
    let q = both (capital x) (capital_or_digit y) p.0 in
    rw (le-leb 3 (length (x ∷ y ∷ z ∷ bar ∷ (f ++ led bar fs))) (omega arith), q.0, q.1, p.1, eqb-self bar, or-true)

pub name-ok : (d : Delims) (n : Name) (fs : List (List ℕ)) → is n Other ≡ false → name_ok d.field (segment_text d (piece n fs)) ≡ true
unfolding segment_text spelling bytes
name-ok d n fs =
    let t = three d.field in
    in_names (λ n. is n Other ≡ false → name_ok d.field (segment_text d (piece n fs)) ≡ true)
    (λ h. t 77 83 72 fs refl) (λ h. t 80 73 68 fs refl) (λ h. t 80 86 49 fs refl) (λ h. t 83 80 77 fs refl)
    (λ h. t 79 66 82 fs refl) (λ h. t 79 82 67 fs refl) (λ h. t 79 66 88 fs refl) (λ h. never h) n

-- ---- the segments as they are seen
unfoldable segs_from : Delims → ℕ → List Piece → List Segment
segs_from d at [] = []
segs_from d at (q ∷ qs) = segment_of d (known_as d at q) ∷ segs_from d (at + suc (length (segment_text d q))) qs

module _ (d : Delims) (p : Proper d) where
  seen-segs : {c : Context} {qs : List Piece} {rows : List Row} → Said d c qs rows → (at : ℕ) → map (segment_of d) (known_from at (map (segment_text d) qs)) ≡ segs_from d at qs
  unfolding known_from segs_from
  seen-segs none at = refl
  seen-segs (more {q} x y) at = rw (name_back d q.name q.fields x.known, x.known, seen-segs y (at + suc (length (segment_text d q))))

  seen-rows : {c : Context} {qs : List Piece} {rows : List Row} → Said d c qs rows → (at : ℕ) → rows_from d (segs_from d at qs) ≡ rows
  unfolding segs_from rows_from segment_of
  seen-rows none at = refl
  seen-rows (more {q} x y) at = rw (x.row at, seen-rows y (at + suc (length (segment_text d q))))

  seen-places : {c : Context} {qs : List Piece} {rows : List Row} → Said d c qs rows → (at n : ℕ) → places_told d c n (segs_from d at qs) ≡ gives tt
  unfolding segs_from places_told segment_of
  seen-places none at n = refl
  seen-places (more {q} {qs} {ctx} x y) at n =
      let k = known_as d at q in
      let m : parts_told d ctx n (segment_of d k) (map (part_of d k) (places q.name)) ≡ gives tt = meets d p ctx n k (places q.name) (x.faults at) in
      rw (m, x.context at) (seen-places y (at + suc (length (segment_text d q))) (suc n))

segs-names : (d : Delims) (at : ℕ) (qs : List Piece) → map (λ (s : Segment). s.name) (segs_from d at qs) ≡ map (λ (q : Piece). q.name) qs
unfolding segs_from segment_of
segs-names d at [] = refl
segs-names d at (q ∷ qs) = rw (segs-names d (at + suc (length (segment_text d q))) qs)

-- ---- the counts: an ORC stands after each OBR
abbrev names_in : List Piece → List Name
names_in qs = map (λ (q : Piece). q.name) qs

abbrev orc_after : Name → List Name
orc_after g = cond (is g Obr) (Orc ∷ []) []

row-names : (d : Delims) (n : Numbers) (r : Row) (qs : List Piece) → names_in (pieces_of d n r ++ qs) ≡ group_of r ∷ (orc_after (group_of r) ++ names_in qs)
unfolding pieces_of
row-names d n (header x1 x2 x3) qs = refl
row-names d n (patient x1 x2 x3 x4 x5 x6 x7) qs = refl
row-names d n (visit x1) qs = refl
row-names d n (specimen x1 x2) qs = refl
row-names d n (order x1 x2) qs = refl
row-names d n (result x1 x2 x3 x4 x5 x6 x7 x8 x9 x10) qs = refl

abbrev pub counted : Name → List Row → ℕ
counted g rows = count (λ (r : Row). is g (group_of r)) rows

counts-are : (d : Delims) (g : Name) → is g Orc ≡ false → (n : Numbers) (rows : List Row) → count (is g) (names_in (pieces d n rows)) ≡ counted g rows
unfolding count pieces
counts-are d g o n [] = refl
counts-are d g o n (r ∷ rs) =
    let m = numbered n (group_of r) in
    let ih = counts-are d g o m rs in
    rw (row-names d m r (pieces d m rs)) (cases (is (group_of r) Obr) (λ e. rw (e, o) (omega (arith, ih))) (λ e. rw (e, ih)))

-- ---- the header
pub record Front (d : Delims) (m : List ℕ) : Type 0 where
  pub tail : List ℕ
  pub is : m ≡ 77 ∷ 83 ∷ 72 ∷ d.field ∷ d.component ∷ d.repetition ∷ d.escape ∷ d.sub ∷ d.field ∷ tail

pub front : (d : Delims) (rows : List Row) → valid start rows ≡ true → Front d (message_of d rows)
unfolding valid any may_follow may_end message_of written pieces pieces_of segment_text spelling bytes encoding blanks join led ended
front d [] v = never (sym v)
front d (header x1 x2 x3 ∷ rs) v = record { tail = _; is = refl }
front d (patient x1 x2 x3 x4 x5 x6 x7 ∷ rs) v = never (sym v)
front d (visit x1 ∷ rs) v = never (sym v)
front d (specimen x1 x2 ∷ rs) v = never (sym v)
front d (order x1 x2 ∷ rs) v = never (sym v)
front d (result x1 x2 x3 x4 x5 x6 x7 x8 x9 x10 ∷ rs) v = never (sym v)

module _ (d : Delims) (m : List ℕ) (f : Front d m) where
  pub delims-are : delims_of m ≡ d
  unfolding delims_of
  delims-are = rw f.is

  pub header_is : delims_ok d ≡ true → header_ok m ≡ true
  unfolding header_ok starts bytes
  header_is h =
      rw (delims-are, h, f.is)
      (rw (le-leb 9 (length (77 ∷ 83 ∷ 72 ∷ d.field ∷ d.component ∷ d.repetition ∷ d.escape ∷ d.sub ∷ d.field ∷ f.tail)) (omega arith), eqb-self d.field))

-- ---- THE VIEW of the written message
module _ (d : Delims) (ok : delims_ok d ≡ true) (rows : List Row) (v : valid start rows ≡ true) (t : Tidy rows) where
  pub all_said : Said d unsaid (pieces d zeros rows) rows
  all_said = said d (proper d ok) start zeros rows v t unsaid

  view-is : view (message_of d rows) ≡ record { delims = d; segs = segs_from d 0 (pieces d zeros rows) }
  unfolding view known message_of written
  view-is =
      rw (delims-are d (message_of d rows) (front d rows v), segments-are d (proper d ok) unsaid (pieces d zeros rows) rows all_said, seen-segs d (proper d ok) all_said 0)

  -- it says the rows, is in order, and has no fault
  pub rows-return : rows_of (view (message_of d rows)) ≡ rows
  unfolding rows_of
  rows-return = rw view-is (seen-rows d (proper d ok) all_said 0)

  pub view-accepted : view_told (view (message_of d rows)) ≡ accepted (counted Spm rows) (counted Obr rows) (counted Obx rows)
  unfolding view_told counts_told
  view-accepted =
      rw (
        view-is,
        segs-names d 0 (pieces d zeros rows),
        order-ok rows start v d zeros 1,
        seen-places d (proper d ok) all_said 0 1,
        counts-are d Spm refl zeros rows,
        counts-are d Obr refl zeros rows,
        counts-are d Obx refl zeros rows,
      )
