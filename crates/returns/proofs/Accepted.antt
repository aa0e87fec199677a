-- An accepted segment: its values keep the rules of the sheet's lines and the shift rule, and its lines are hardly longer than it. Assumes
-- nothing.
use mathlib.Core.Path.{◌≡◌, refl}
use mathlib.Core.List.{List, [], ◌∷◌, map}
use Prim.Native.Nat.{ℕ, zero, suc, ◌+◌, ◌-◌, ◌≤◌}
use native.Mathlib.Omega.{arith}
use lib.ListN.{length}
use Rattle.rules.specs.declared.Delims.{Delims}
use Rattle.rules.specs.declared.Name.{Name}
use Rattle.rules.specs.declared.Name.TheVariants.{Msh, Pv1, Spm, Obr}
use Rattle.rules.specs.Told.{Told, gives, ◌>>◌, ◌when◌}
use Rattle.rules.specs.Lists.{bytes, empty, same, has, any, split, onto, nth, ended, is_one_of}
use Rattle.rules.specs.Shift.{walk, step}
use Rattle.rules.specs.Value.{fault, too_long, holds}
use Rattle.rules.specs.Frame.{Known}
use Rattle.rules.specs.Proper.{Proper}
use Rattle.rules.specs.Places.{Place, Field, reads, closed, places, entry_in, entry_of}
use Rattle.rules.specs.View.{piece_of, field_of, component_of, first_repetition, seen_in, part_of, Segment, segment_of, Part, whole, seen_at, part_at}
use Rattle.rules.specs.Judge.{plain_of, judge, judge_all}
use Rattle.rules.specs.Check.{Context, own_fault, later_fault, part_fault, part_no, fault_told, parts_told}
use Rattle.rules.specs.Row.{Line, line, lines, four_at}
use Rattle.rules.specs.Sheet.{key_of, lines_text}
use Rattle.rules.proofs.Logic.{then-none, not-given}
use Rattle.rules.proofs.Lists.{from}
use Rattle.rules.proofs.Clean.{Cleans}
use Rattle.rules.proofs.Measures.{sum, pieces-fit, nth-short}
use Rattle.returns.proofs.Groups.{Facts}
use Rattle.returns.proofs.Whole.{Whole, whole-nth, Fair, fair}
use Rattle.returns.proofs.Measures.{size_of, lines-size}

-- ---- the table of places, read backwards
abbrev pub Fairs : Delims → List ℕ → List Place → Type 0
Fairs d r [] = Unit
Fairs d r (q ∷ qs) = Fair q.required q.rule (component_of d r q.component) (plain_of d (component_of d r q.component)) × Fairs d r qs

abbrev pub Zeros : Delims → Context → Known → List Field → Type 0
Zeros d ctx k [] = Unit
Zeros d ctx k (reads n qs ∷ fs) = Fairs d (first_repetition d (field_of d k n)) qs × (later_fault d ctx (segment_of d k) n ≡ 0) × Zeros d ctx k fs
Zeros d ctx k (closed n form ∷ fs) =
    (own_fault d (segment_of d k) (whole n form (field_of d k n)) ≡ 0) × (later_fault d ctx (segment_of d k) n ≡ 0) × Zeros d ctx k fs

told-zero : (i f n : ℕ) (t : Told (Unit {0})) → (fault_told i f n >> t) ≡ gives tt → (n ≡ 0) × (t ≡ gives tt)
unfolding fault_told
told-zero i f zero t h = (refl, h)
told-zero i f (suc n) t h = not-given h

module _ (d : Delims) (p : Proper d) where
  pub whole-field : (k : Known) → Whole k.body → (n : ℕ) → Whole (field_of d k n)
  unfolding field_of
  whole-field k W n = whole-nth d.field p.field k.body W (piece_of k.name n)

  pub whole-component : (r : List ℕ) → Whole r → (c : ℕ) → Whole (component_of d r c)
  unfolding component_of
  whole-component r W c = whole-nth d.component p.component r W (c - 1)

  whole-first : (r : List ℕ) → Whole r → Whole (first_repetition d r)
  unfolding first_repetition
  whole-first r W = whole-nth d.repetition p.repetition r W 0

  fairs : (r : List ℕ) → Whole r → (qs : List Place) → judge_all d (map (seen_in d r) qs) ≡ 0 → Fairs d r qs
  unfolding judge_all seen_in
  fairs r W [] h = tt
  fairs r W (q ∷ qs) h =
      let z = then-none (judge d q.required q.rule (component_of d r q.component)) (judge_all d (map (seen_in d r) qs)) h in
      (fair d p q.required q.rule (component_of d r q.component) (whole-component r W q.component) z.0, fairs r W qs z.1)

  part-zero : (ctx : Context) (i : ℕ) (s : Segment) (q : Part) (qs : List Part) → parts_told d ctx i s (q ∷ qs) ≡ gives tt
      → (own_fault d s q ≡ 0) × (later_fault d ctx s (part_no q) ≡ 0) × (parts_told d ctx i s qs ≡ gives tt)
  unfolding parts_told part_fault
  part-zero ctx i s q qs h =
      let z = told-zero i (part_no q) (part_fault d ctx s q) (parts_told d ctx i s qs) h in
      let y = then-none (own_fault d s q) (later_fault d ctx s (part_no q)) z.0 in
      (y.0, y.1, z.1)

  own-fairs : (k : Known) (s : Segment) (n : ℕ) (qs : List Place) → Whole k.body → own_fault d s (part_of d k (reads n qs)) ≡ 0 → Fairs d (first_repetition d (field_of d k n)) qs
  unfolding own_fault part_of
  own-fairs k s n qs W h =
      fairs (first_repetition d (field_of d k n)) (whole-first (field_of d k n) (whole-field k W n)) qs
      (then-none (22 when has d.repetition (field_of d k n)) (judge_all d (map (seen_in d (first_repetition d (field_of d k n))) qs)) h).1

  pub zeros : (ctx : Context) (i : ℕ) (k : Known) (fs : List Field) → Whole k.body → parts_told d ctx i (segment_of d k) (map (part_of d k) fs) ≡ gives tt → Zeros d ctx k fs
  unfolding part_of part_no
  zeros ctx i k [] W h = tt
  zeros ctx i k (reads n qs ∷ fs) W h =
      let z = part-zero ctx i (segment_of d k) (part_of d k (reads n qs)) (map (part_of d k) fs) h in
      (own-fairs k (segment_of d k) n qs W z.0, z.1, zeros ctx i k fs W z.2)
  zeros ctx i k (closed n form ∷ fs) W h =
      let z = part-zero ctx i (segment_of d k) (part_of d k (closed n form)) (map (part_of d k) fs) h in
      (z.0, z.1, zeros ctx i k fs W z.2)

-- ---- each segment
pub record GoodSeg (k : Known) (vs : List (List ℕ)) : Type 0 where
  pub ok : Facts (lines k.name) [] vs
  pub tidy : Cleans vs
  pub size : length (ended 0x0A (lines_text (lines k.name) vs)) ≤ length k.body + 48

abbrev pub sources : Delims → Known → List (List ℕ)
sources d k = map (λ (l : Line). l.source d (segment_of d k)) (lines k.name)

abbrev pub seg : Name → ℕ → List ℕ → Known
seg n at body = record { name = n; start = at; body = body }

-- to unfold this name is to unfold the tables of places and lines, and the measures of pieces
unfoldable pub readings : Unit {0}
unfolding lines line four_at segment_of places part_of seen_in part_at seen_at entry_in entry_of size_of key_of bytes field_of piece_of sum from own_fault later_fault
readings = tt

module _ (d : Delims) where
  -- a component of a field's first repetition is no longer than the field
  pub component-short : (r : List ℕ) (c : ℕ) → length (component_of d (first_repetition d r) c) ≤ length r
  unfolding component_of first_repetition
  component-short r c = omega (arith, nth-short d.component (nth (split d.repetition r) 0) (c - 1), nth-short d.repetition r 0)

  module _ (ctx : Context) (at : ℕ) (body : List ℕ) where
    pub spm-good : Zeros d ctx (seg Spm at body) (places Spm) → GoodSeg (seg Spm at body) (sources d (seg Spm at body))
    unfolding readings
    spm-good Z =
        let k = seg Spm at body in
        let f4 = Z.0.0 in
        let f17 = Z.2.0.0 in
        record {
          ok = (f4.keeps, (f17.keeps, tt));
          tidy = (f4.clean, (f17.clean, tt));
          size = rw (lines-size (lines Spm) (sources d k))
              (omega (arith, pieces-fit d.field body 18, f4.size, f17.size, component-short (field_of d k 4) 1, component-short (field_of d k 17) 1));
        }

    pub pv1-good : Zeros d ctx (seg Pv1 at body) (places Pv1) → GoodSeg (seg Pv1 at body) (sources d (seg Pv1 at body))
    unfolding readings
    pv1-good Z =
        let k = seg Pv1 at body in
        let f2 = Z.0.0 in
        record {
          ok = (f2.keeps, tt);
          tidy = (f2.clean, tt);
          size = rw (lines-size (lines Pv1) (sources d k)) (omega (arith, pieces-fit d.field body 3, f2.size, component-short (field_of d k 2) 1));
        }

    pub obr-good : Zeros d ctx (seg Obr at body) (places Obr) → GoodSeg (seg Obr at body) (sources d (seg Obr at body))
    unfolding readings
    obr-good Z =
        let k = seg Obr at body in
        let f2 = Z.0.0 in
        let f4 = Z.2.0.0 in
        record {
          ok = (f2.keeps, (f4.keeps, tt));
          tidy = (f2.clean, (f4.clean, tt));
          size = rw (lines-size (lines Obr) (sources d k))
              (omega (arith, pieces-fit d.field body 5, f2.size, f4.size, component-short (field_of d k 2) 1, component-short (field_of d k 4) 1));
        }

    pub msh-good : Zeros d ctx (seg Msh at body) (places Msh) → GoodSeg (seg Msh at body) (sources d (seg Msh at body))
    unfolding readings same fault empty too_long holds is_one_of any split onto
    msh-good Z =
        let k = seg Msh at body in
        let f7 = Z.0.0 in
        let f10 = Z.2.2.0.0 in
        let f11 = Z.2.2.2.0.0 in
        record {
          ok = ((refl, refl), (f11.keeps, (f7.keeps, (f10.keeps, tt))));
          tidy = (unfold walk step in refl, (f11.clean, (f7.clean, (f10.clean, tt))));
          size = rw (lines-size (lines Msh) (sources d k))
              (omega (
                arith,
                pieces-fit d.field body 12,
                f7.size,
                f10.size,
                f11.size,
                component-short (field_of d k 7) 1,
                component-short (field_of d k 10) 1,
                component-short (field_of d k 11) 1,
              ));
        }
