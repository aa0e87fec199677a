-- Each segment as it is written: it says its row, and no part of it is at fault. Assumes nothing.
use mathlib.Core.Path.{◌≡◌, refl, ◌∙◌}
use mathlib.Core.Bool.{true, false}
use mathlib.Core.List.{List, [], ◌∷◌, ◌++◌, map}
use Prim.Native.Nat.{ℕ, zero, suc, ◌+◌, ◌-◌, ◌/◌, ◌%◌, ◌<◌}
use native.Mathlib.Nat.{mod-lt}
use native.Mathlib.Omega.{arith}
use borrow.Author.Tests.{ltb-true}
use lib.Dec.{ltb}
use lib.ListN.{get_or}
use Rattle.rules.specs.declared.Delims.{Delims}
use Rattle.rules.specs.declared.Name.TheVariants.{Msh, Pv1, Spm, Obr, Orc, Other}
use Rattle.rules.specs.Told.{gives}
use Rattle.rules.specs.Lists.{bytes, empty, same, has, any, all, split, onto, nth, is_one_of, decimal_to, decimal}
use Rattle.rules.specs.Shift.{step, is_one, mark, marks, met}
use Rattle.rules.specs.Value.{fault, too_long, holds}
use Rattle.rules.specs.Frame.{spelling, Known, is}
use Rattle.rules.specs.Proper.{Proper}
use Rattle.rules.specs.Places.{Place, Field, reads, closed, places, entry_in, entry_of}
use Rattle.rules.specs.View.{piece_of, field_of, component_of, first_repetition, seen_in, part_of, Segment, segment_of, Part, whole, seen_at, part_at}
use Rattle.rules.specs.Judge.{plain_of, judge_all}
use Rattle.rules.specs.Check.{Context, own_fault, later_fault, part_fault, part_no, fault_told, parts_told, context_after}
use Rattle.rules.specs.Row.{Line, line, lines, four_at, Row, header, visit, specimen, order, row_of}
use Rattle.rules.specs.Message.{blanks, encoding, Piece, Numbers, piece, pieces_of, segment_text}
use Rattle.rules.proofs.Logic.{cases}
use Rattle.rules.proofs.Lists.{same_self, in-range, all_append}
use Rattle.rules.proofs.Clean.{Cleans}
use Rattle.rules.proofs.Escaped.{plain_byte}
use Rattle.rules.proofs.Plain.{bytewise}
use Rattle.returns.proofs.Fields.{Ok, Oks, last, next, also, end, FieldIs, escaped, plain, nothing, comp-ok, single, several, value-at, judge-at, field_at, oks-blanks, ok-cons}
use Rattle.returns.proofs.Groups.{Keeps, no-fault, Facts}

-- ---- a read field is not at fault where each of its places keeps its rule
abbrev pub Kept : List (List ℕ) → List Place → Type 0
Kept vs [] = Unit
Kept vs (q ∷ qs) = Keeps q.required q.rule (nth vs (q.component - 1)) × Kept vs qs

pub data Read (d : Delims) (k : Known) (n : ℕ) (qs : List Place) : Type 0 where
  seen : {f : List ℕ} {cs vs : List (List ℕ)} → FieldIs d f cs vs → field_of d k n ≡ met f → Kept vs qs → Read d k n qs

-- the table of a segment's places, one by one
abbrev pub Meets : Delims → Context → Known → List Field → Type 0
Meets d ctx k [] = Unit
Meets d ctx k (reads n qs ∷ fs) = Read d k n qs × (later_fault d ctx (segment_of d k) n ≡ 0) × Meets d ctx k fs
Meets d ctx k (closed n form ∷ fs) =
    (own_fault d (segment_of d k) (whole n form (field_of d k n)) ≡ 0) × (later_fault d ctx (segment_of d k) n ≡ 0) × Meets d ctx k fs

module _ (d : Delims) (p : Proper d) where
  judge-kept : {f : List ℕ} {cs vs : List (List ℕ)} → FieldIs d f cs vs → (qs : List Place) → Kept vs qs
      → judge_all d (map (seen_in d (first_repetition d (met f))) qs) ≡ 0
  unfolding judge_all seen_in
  judge-kept x [] h = refl
  judge-kept {f} {cs} {vs} x (q ∷ qs) h =
      rw (judge-at d p f cs vs x q.required q.rule q.component h.0.0, no-fault q.required q.rule (nth vs (q.component - 1)) h.0.1, judge-kept x qs h.1)

  read-own : (k : Known) (n : ℕ) (qs : List Place) → Read d k n qs → own_fault d (segment_of d k) (part_of d k (reads n qs)) ≡ 0
  unfolding own_fault part_of
  read-own k n qs (seen x e h) = rw (e, x.once, judge-kept x qs h)

  -- the value of a read component
  pub read-value : {f : List ℕ} {cs vs : List (List ℕ)} → FieldIs d f cs vs → (k : Known) (n c : ℕ) → field_of d k n ≡ met f
      → plain_of d (component_of d (first_repetition d (field_of d k n)) c) ≡ nth vs (c - 1)
  read-value {f} {cs} {vs} x k n c e = rw e (value-at d p f cs vs x c)

  part_gives : (ctx : Context) (i : ℕ) (s : Segment) (q : Part) (qs : List Part) → own_fault d s q ≡ 0 → later_fault d ctx s (part_no q) ≡ 0
      → parts_told d ctx i s qs ≡ gives tt → parts_told d ctx i s (q ∷ qs) ≡ gives tt
  unfolding parts_told part_fault fault_told
  part_gives ctx i s q qs h k g = rw (h, k) g

  pub meets : (ctx : Context) (i : ℕ) (k : Known) (fs : List Field) → Meets d ctx k fs → parts_told d ctx i (segment_of d k) (map (part_of d k) fs) ≡ gives tt
  unfolding part_of part_no
  meets ctx i k [] h = unfold parts_told in refl
  meets ctx i k (reads n qs ∷ fs) h = part_gives ctx i (segment_of d k) (part_of d k (reads n qs)) (map (part_of d k) fs) (read-own k n qs h.0) h.1 (meets ctx i k fs h.2)
  meets ctx i k (closed n form ∷ fs) h = part_gives ctx i (segment_of d k) (part_of d k (closed n form)) (map (part_of d k) fs) h.0 h.1 (meets ctx i k fs h.2)

-- ---- what is shown of a segment: its fields, its row, that it has no fault, and what is known before and after it
abbrev pub known_as : Delims → ℕ → Piece → Known
known_as d at q = record { name = q.name; start = at; body = met (segment_text d q) }

pub record Says (d : Delims) (q : Piece) (before after : Context) (rows : List Row) : Type 0 where
  pub known : is q.name Other ≡ false
  pub oks : Oks d (spelling q.name ∷ q.fields)
  pub row : (at : ℕ) → let s = segment_of d (known_as d at q) in row_of q.name (map (λ (l : Line). l.source d s) (lines q.name)) ≡ rows
  pub faults : (at : ℕ) → Meets d before (known_as d at q) (places q.name)
  pub context : (at : ℕ) → context_after d before (segment_of d (known_as d at q)) ≡ after

-- the pieces of a row, each with what it says
pub data Said (d : Delims) : Context → List Piece → List Row → Type 0 where
  none : {ctx : Context} → Said d ctx [] []
  more : {q : Piece} {qs : List Piece} {ctx next : Context} {new rows : List Row} → Says d q ctx next new → Said d next qs rows → Said d ctx (q ∷ qs) (new ++ rows)

abbrev pub piece_at : List Piece → ℕ → Piece
piece_at qs n = get_or qs n (piece Other [])

-- to unfold this name is to unfold the table of places, the lines and the writer, and what words and numbers are compared by
unfoldable pub tables : Unit {0}
unfolding pieces_of segment_text spelling blanks lines line row_of segment_of places part_of seen_in part_at seen_at piece_of entry_in entry_of bytes later_fault context_after same fault empty too_long holds is_one_of any split onto all plain_byte own_fault encoding four_at has is_one step
tables = tt

-- ---- a number's digits
digit-plain : (n : ℕ) → n < 10 → plain_byte (48 + n) ≡ true
digit-plain n h = in-range plain_byte 48 10 (unfold bytewise in refl) (48 + n) (omega arith) (omega arith)

decimal-plain : (k n : ℕ) → all plain_byte (decimal_to k n) ≡ true
unfolding decimal_to all
decimal-plain zero n = refl
decimal-plain (suc k) n =
    cases (ltb n 10)
    (λ e. cc (digit-plain n (ltb-true n 10 e)))
    (λ e.
    let z : all plain_byte ((48 + n % 10) ∷ []) ≡ true = cc (digit-plain (n % 10) (mod-lt n {m = 10} (omega arith))) in
    cc (all_append plain_byte (decimal_to k (n / 10)) ((48 + n % 10) ∷ []) (decimal-plain k (n / 10)) z))

module _ (d : Delims) (p : Proper d) where
  pub word_ok : (w : List ℕ) → all plain_byte w ≡ true → Ok d w
  word_ok w h = comp-ok d p (plain d p w h)

  pub count_ok : (n : ℕ) → Ok d (decimal n)
  unfolding decimal
  count_ok n = word_ok (decimal n) (decimal-plain (suc n) n)

  pub blank_ok : Ok d []
  blank_ok = comp-ok d p (nothing d p)

  pub spm : (n : Numbers) (kind collected : List ℕ) (ctx : Context) → Facts (lines Spm) [] (kind ∷ collected ∷ []) → Cleans (kind ∷ collected ∷ [])
      → Says d (piece_at (pieces_of d n (specimen kind collected)) 0) ctx ctx (specimen kind collected ∷ [])
  unfolding tables
  spm n kind collected ctx F C =
      let x4 = several d p (escaped d p kind C.0) (also (nothing d p) (also (plain d p (bytes "JC10") refl) end)) in
      let x17 = single d p (escaped d p collected C.1.0) in
      let o = next (word_ok (bytes "SPM") refl) (next (count_ok n.specimen) (next blank_ok (next blank_ok (next x4.ok (oks-blanks d p 12 (next x17.ok last)))))) in
      let e = field_at d p o Spm in
      record {
        known = refl;
        oks = o;
        row = λ at. rw (read-value d p x4 _ 4 1 (e at 4), read-value d p x17 _ 17 1 (e at 17));
        faults = λ at. (seen x4 (e at 4) (F.0, ((refl, refl), tt)), refl, (seen x17 (e at 17) (F.1.0, tt), refl, tt));
        context = λ at. refl;
      }

  pub pv1 : (n : Numbers) (class : List ℕ) (ctx : Context) → Facts (lines Pv1) [] (class ∷ []) → Cleans (class ∷ [])
      → Says d (piece_at (pieces_of d n (visit class)) 0) ctx ctx (visit class ∷ [])
  unfolding tables
  pv1 n class ctx F C =
      let x2 = single d p (escaped d p class C.0) in
      let o = next (word_ok (bytes "PV1") refl) (next blank_ok (next x2.ok last)) in
      let e = field_at d p o Pv1 in
      record {
        known = refl;
        oks = o;
        row = λ at. rw (read-value d p x2 _ 2 1 (e at 2));
        faults = λ at. (seen x2 (e at 2) (F.0, tt), refl, tt);
        context = λ at. refl;
      }

  pub obr : (n : Numbers) (id group : List ℕ) (ctx : Context) → Facts (lines Obr) [] (id ∷ group ∷ []) → Cleans (id ∷ group ∷ [])
      → Says d (piece_at (pieces_of d n (order id group)) 0) ctx (record { order = id }) (order id group ∷ [])
  unfolding tables
  obr n id group ctx F C =
      let x2 = single d p (escaped d p id C.0) in
      let x4 = several d p (escaped d p group C.1.0) (also (nothing d p) (also (plain d p (bytes "99003") refl) end)) in
      let o = next (word_ok (bytes "OBR") refl) (next blank_ok (next x2.ok (next blank_ok (next x4.ok last)))) in
      let e = field_at d p o Obr in
      record {
        known = refl;
        oks = o;
        row = λ at. rw (read-value d p x2 _ 2 1 (e at 2), read-value d p x4 _ 4 1 (e at 4));
        faults = λ at. (seen x2 (e at 2) (F.0, tt), refl, (seen x4 (e at 4) (F.1.0, ((refl, refl), tt)), refl, tt));
        context = λ at. rw (read-value d p x2 _ 2 1 (e at 2));
      }

  pub orc : (n : Numbers) (id group : List ℕ) → Facts (lines Obr) [] (id ∷ group ∷ []) → Cleans (id ∷ group ∷ [])
      → Says d (piece_at (pieces_of d n (order id group)) 1) (record { order = id }) (record { order = id }) []
  unfolding tables
  orc n id group F C =
      let x1 = single d p (plain d p (bytes "RE") refl) in
      let x2 = single d p (escaped d p id C.0) in
      let o = next (word_ok (bytes "ORC") refl) (next x1.ok (next x2.ok last)) in
      let e = field_at d p o Orc in
      record {
        known = refl;
        oks = o;
        row = λ at. refl;
        faults = λ at. (
          seen x1 (e at 1) ((refl, refl), tt),
          refl,
          (seen x2 (e at 2) (F.0, tt), rw (read-value d p x2 _ 2 1 (e at 2), same_self id), tt),
        );
        context = λ at. refl;
      }

  pub msh : (n : Numbers) (mode sent control : List ℕ) (ctx : Context) → Facts (lines Msh) [] (bytes "1" ∷ mode ∷ sent ∷ control ∷ [])
      → Cleans (bytes "1" ∷ mode ∷ sent ∷ control ∷ [])
      → Says d (piece_at (pieces_of d n (header mode sent control)) 0) ctx ctx (header mode sent control ∷ [])
  unfolding tables
  msh n mode sent control ctx F C =
      let x7 = single d p (escaped d p sent C.1.1.0) in
      let x9 = several d p (plain d p (bytes "OUL") refl) (also (plain d p (bytes "R22") refl) (also (plain d p (bytes "OUL_R22") refl) end)) in
      let x10 = single d p (escaped d p control C.1.1.1.0) in
      let x11 = single d p (escaped d p mode C.1.0) in
      let x12 = single d p (plain d p (bytes "2.5") refl) in
      let o2 = ok-cons d p d.sub [] p.sub p.sub-field blank_ok in
      let o2 = ok-cons d p d.escape _ p.escape p.escape-field o2.0 in
      let o2 = ok-cons d p d.repetition _ p.repetition p.repetition-field o2.0 in
      let o2 = ok-cons d p d.component _ p.component p.component-field o2.0 in
      let o18 = ok-cons d p d.repetition (bytes "ISO IR87") p.repetition p.repetition-field (word_ok (bytes "ISO IR87") refl) in
      let o =
      next (word_ok (bytes "MSH") refl) (next o2.0 (oks-blanks d p 4 (next x7.ok (next blank_ok (next x9.ok (next x10.ok (next x11.ok (next x12.ok
      (oks-blanks d p 5 (next o18.0 (next blank_ok (next (word_ok (bytes "ISO 2022-1994") refl) last)))))))))))) in
      let e = field_at d p o Msh in
      let m : met (bytes "ISO IR87") ≡ bytes "ISO IR87" = unfold met marks mark in refl in
      let e18 : (at : ℕ) → field_of d (known_as d at (piece_at (pieces_of d n (header mode sent control)) 0)) 18 ≡ d.repetition ∷ bytes "ISO IR87" =
      λ at. e at 18 ∙ (o18.1 ∙ rw m) in
      record {
        known = refl;
        oks = o;
        row = λ at. rw (read-value d p x11 _ 11 1 (e at 11), read-value d p x7 _ 7 1 (e at 7), read-value d p x10 _ 10 1 (e at 10));
        faults = λ at. (
          seen x7 (e at 7) (F.1.1.0, tt),
          refl,
          (
            seen x9 (e at 9) ((refl, refl), ((refl, refl), ((refl, refl), tt))),
            refl,
            (
              seen x10 (e at 10) (F.1.1.1.0, tt),
              refl,
              (
                seen x11 (e at 11) (F.1.0, tt),
                refl,
                (
                  seen x12 (e at 12) ((refl, refl), tt),
                  refl,
                  (rw (e18 at, same_self (d.repetition ∷ bytes "ISO IR87")), refl, tt),
                ),
              ),
            ),
          ),
        );
        context = λ at. refl;
      }
