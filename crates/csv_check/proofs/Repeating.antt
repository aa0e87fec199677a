-- The laws of 53 and 54 in the walk over the lines. Assumes nothing.
use mathlib.Core.Path.{◌≡◌, refl, sym, ◌∙◌}
use mathlib.Core.Bool.{Bool, true, false, cond, ◌&&◌}
use mathlib.Core.List.{List}
use Prim.Native.Nat.{ℕ, ◌+◌, ◌≤◌, ◌<◌}
use native.Mathlib.Omega.{arith}
use borrow.Author.Tests.{ltb-true, ltb-false, leb-true, le-leb, eqb-true, eqb-false, lt-ltb, le-ltb, lt-leb}
use lib.Dec.{eqb, leb, ltb}
use lib.ListN.{length}
use Rattle.rules.proofs.Logic.{cases, both, never, and-false}
use Rattle.csv_rules.specs.Sheets.{row_converts}
use Rattle.csv_rules.specs.Quote.{Items}
use Rattle.csv_rows.specs.declared.RowItems.{RowItems}
use Rattle.csv_rows.specs.Rows.{items_of, RowIs}
use Rattle.csv_rows.proofs.Laws.{rows_end}
use Rattle.csv_places.specs.Places.{Places}
use Rattle.csv_places.specs.Slots.{Nothing}
use Rattle.csv_repeats.specs.Looks.{WithRow}
use Rattle.csv_repeats.specs.Rounds.{Partly}
use Rattle.csv_repeats.proofs.Going.{Going, going-starts, going-places, going-ends, going-runs, going-met, going_on, with-few}
use Rattle.csv_check.specs.Walk.{first_found}
use Rattle.csv_check.specs.Repeats.{WalkedRows, RepeatsAre, Askable, WithRowIf}

-- ---- where 53 and 54 are still looked for
module _ (f : List ℕ) (at : ℕ) (places : List ℕ) (count : ℕ) (asked : Bool) (A : Askable f at places count asked) where
  pub ask-few : count ≤ at
  ask-few = A.few

  pub ask-place : at < length f
  ask-place = A.place

  pub ask-table : asked ≡ true → Places f places
  ask-table = A.table

module _ (f : List ℕ) (first at : ℕ) (before row : Items) (places : List ℕ) (unkept line k differs returns count : ℕ) (asked : Bool) where
  pub if-asked : asked ≡ true → (o m d r n : ℕ) (after : List ℕ) → WithRow f first at before row places unkept line k returns count o m d r n after
      → WithRowIf f first at before row places unkept line k differs returns count asked o m d r n after
  if-asked h o m d r n after R = record { with = λ e. R; kept = λ e. never (sym h ∙ e) }

  pub if-not : asked ≡ false → WithRowIf f first at before row places unkept line k differs returns count asked unkept line differs returns count places
  if-not h = record { with = λ e. never (sym e ∙ h); kept = λ e. (refl, refl, refl, refl, refl, refl) }

-- ---- the walk: 53 and 54 are looked for behind the heading line, as long as every line converts and no row differs
pub record Repeating (f places : List ℕ) (before : Items) (at lines unconverted first unkept line differs returns count : ℕ) : Type 0 where
  pub place : at ≤ length f
  pub few : count ≤ at
  pub lines-few : lines ≤ at
  pub heads : 2 ≤ lines → 2 ≤ first
  pub top : lines < 2 → (first ≡ at) × (unkept ≡ 0) × (differs ≡ 0) × (returns ≡ 0) × (count ≡ 0)
  pub none : lines < 2 → (length places ≡ 65536) × Nothing places
  pub going : 2 ≤ lines → unconverted ≡ 0 → differs ≡ 0 → Going f first 3 places before at unkept line (lines + 1) returns count
  pub met : 2 ≤ lines → unconverted ≡ 0 → (differs ≡ 0 → ⊥) → Partly f first 3 differs returns unkept line

pub rep-starts : (f places : List ℕ) (before : Items) → length places ≡ 65536 → Nothing places → Repeating f places before 0 0 0 0 0 0 0 0 0
rep-starts f places before m n = record {
  place = omega arith;
  few = omega arith;
  lines-few = omega arith;
  heads = λ h. absurd (omega arith);
  top = λ h. (refl, refl, refl, refl, refl);
  none = λ h. (m, n);
  going = λ h. absurd (omega arith);
  met = λ h. absurd (omega arith);
}

pub rep-broken : (f : List ℕ) (lines unconverted first differs returns count unkept line : ℕ) → RepeatsAre f true lines unconverted first differs returns count unkept line
rep-broken f lines unconverted first differs returns count unkept line = record { rows = λ h. never h }

module _ (f places : List ℕ) (before : Items) (at lines unconverted first unkept line differs returns count : ℕ)
    (P : Repeating f places before at lines unconverted first unkept line differs returns count) where
  over_none : 2 ≤ lines → unconverted ≡ 0 → length f ≤ at → differs ≡ 0 → WalkedRows f first differs returns count unkept line
  over_none l u h d =
      let G = P.going l u d in
      let e = (rows_end f at h).0 in
      record {
        partly = rw d (going-ends f first 3 places before at unkept line (lines + 1) returns count G e);
        runs = λ z. going-runs f first 3 places before at unkept line (lines + 1) returns count G e;
        heads = P.heads l;
      }

  pub rep-over : length f ≤ at → RepeatsAre f false lines unconverted first differs returns count unkept line
  rep-over h = record {
    rows = λ o l u. cases (eqb differs 0)
        (λ z. over_none l u h (eqb-true differs 0 z))
        (λ z. let d = eqb-false differs 0 z in record { partly = P.met l u d; runs = λ y. absurd (d y); heads = P.heads l });
  }

  module _ (read : RowItems) (size n : ℕ) (good : Bool) (T : RowIs f at false read size n good)
      (x u : ℕ) (w : x ≡ cond (ltb (lines + 1) 3) size 0) (i : u ≡ first_found unconverted (lines + 1) good) where
    abbrev asked : Bool
    asked = leb 3 (lines + 1) && eqb u 0 && eqb differs 0

    -- a row that is asked of: all before it convert, none differs, and the first row stays
    so_far : u ≡ 0 → (unconverted ≡ 0) × (good ≡ true)
    unfolding first_found
    so_far z =
        cases (eqb unconverted 0)
        (λ e. cases good (λ k. (eqb-true unconverted 0 e, k)) (λ k. absurd (let y : u ≡ lines + 1 = i ∙ rw (e, k) in omega arith)))
        (λ e. absurd (eqb-false unconverted 0 e (let y : u ≡ unconverted = i ∙ rw e in sym y ∙ z)))

    stays : 2 ≤ lines → first + x ≡ first
    stays l = let y : x ≡ 0 = w ∙ rw (le-ltb (lines + 1) 3 (omega arith)) in omega arith

    asked_of : asked ≡ true → (2 ≤ lines) × (u ≡ 0) × (differs ≡ 0)
    asked_of h =
        let p = both (leb 3 (lines + 1) && eqb u 0) (eqb differs 0) h in
        let q = both (leb 3 (lines + 1)) (eqb u 0) p.0 in
        let l = leb-true 3 (lines + 1) q.0 in
        (omega arith, eqb-true u 0 q.1, eqb-true differs 0 p.1)

    pub rep-ask : at < length f → Askable f at places count asked
    rep-ask h = record {
      few = P.few;
      place = h;
      table = λ h.
          let a = asked_of h in
          going-places f first 3 places before at unkept line (lines + 1) returns count (P.going a.0 (so_far a.1).0 a.2);
    }

    head-unasked : lines < 2 → asked ≡ false
    head-unasked l = rw (lt-leb 3 (lines + 1) (omega arith))

    differs-unasked : eqb differs 0 ≡ false → asked ≡ false
    differs-unasked z = rw z (and-false (leb 3 (lines + 1) && eqb u 0))

    rows-asked : 2 ≤ lines → u ≡ 0 → eqb differs 0 ≡ true → asked ≡ true
    rows-asked l y z = rw (le-leb 3 (lines + 1) (omega arith), y, z)

    module _ (o m d p c : ℕ) (after : List ℕ) (R : WithRowIf f (first + x) at before (items_of read) places unkept line (lines + 1) differs returns count asked o m d p c after) where
      -- the version line and the heading line
      module _ (l : lines < 2) where
        head-on : (first + x ≡ at + size) × (o ≡ 0) × (d ≡ 0) × (p ≡ 0) × (c ≡ 0)
        head-on =
            let q = R.kept (head-unasked l) in
            let z = P.top l in
            let y : x ≡ size = w ∙ rw (lt-ltb (lines + 1) 3 (omega arith)) in
            (omega (arith, z.0), q.3 ∙ z.1, q.0 ∙ z.2, q.1 ∙ z.3, q.2 ∙ z.4)

        head-none : (length after ≡ 65536) × Nothing after
        head-none = rw (R.kept (head-unasked l)).5 (P.none l)

        head-going : 2 ≤ lines + 1 → Going f (first + x) 3 after (items_of read) (at + size) o m ((lines + 1) + 1) p c
        head-going h =
            let z : (lines + 1) + 1 ≡ 3 = omega arith in
            let q = head-on in
            rw (q.0, q.1, q.3, q.4, z) (going-starts f (at + size) 3 after (items_of read) m (omega arith) head-none.0 head-none.1)

      -- a row
      module _ (l : 2 ≤ lines) (y : u ≡ 0) where
        module _ (z : eqb differs 0 ≡ true) where
          with : WithRow f first at before (items_of read) places unkept line (lines + 1) returns count o m d p c after
          with = rw (stays l) at (R.with (rows-asked l y z))

          going : Going f first 3 places before at unkept line (lines + 1) returns count
          going = P.going l (so_far y).0 (eqb-true differs 0 z)

          converts : row_converts (record { items = T.items; size = size }) ≡ true
          converts = sym T.converts ∙ (so_far y).1

          not_first : at ≡ 0 → ⊥
          not_first k = omega (arith, P.lines-few)

          with-on : d ≡ 0 → Going f first 3 after (items_of read) (at + size) o m ((lines + 1) + 1) p c
          with-on = going_on f first 3 places before at (lines + 1) returns count false read size n good T unkept line going converts not_first o m d p c after with

          with-met : (d ≡ 0 → ⊥) → Partly f first 3 d p o m
          with-met = going-met f first 3 places before at (lines + 1) returns count false read size n good T unkept line going converts not_first o m d p c after with

        row-going : d ≡ 0 → Going f (first + x) 3 after (items_of read) (at + size) o m ((lines + 1) + 1) p c
        row-going h =
            cases (eqb differs 0)
            (λ z. rw (stays l) (with-on z h))
            (λ z. absurd (eqb-false differs 0 z (sym (R.kept (differs-unasked z)).0 ∙ h)))

        row-met : (d ≡ 0 → ⊥) → Partly f (first + x) 3 d p o m
        row-met h =
            rw (stays l)
            (cases (eqb differs 0)
            (λ z. with-met z h)
            (λ z. let q = R.kept (differs-unasked z) in rw (q.0, q.1, q.3, q.4) (P.met l (so_far y).0 (eqb-false differs 0 z))))

      few-more : c ≤ count + 1
      few-more =
          cases asked
          (λ h. with-few f (first + x) 3 places before at (lines + 1) returns count false read size n good T unkept line o m d p c after (R.with h))
          (λ h. omega (arith, (R.kept h).2))

      pub rep-on : Repeating f after (items_of read) (at + size) (lines + 1) u (first + x) o m d p c
      rep-on = let y = T.moves in record {
        place = T.place;
        few = omega (arith, P.few, few-more);
        lines-few = omega (arith, P.lines-few);
        heads = λ h. cases (ltb lines 2) (λ q. omega (arith, ltb-true lines 2 q, (head-on (ltb-true lines 2 q)).0, P.lines-few)) (λ q. omega (arith, P.heads (ltb-false lines 2 q)));
        top = λ h. head-on (omega arith);
        none = λ h. head-none (omega arith);
        going = λ h y z. cases (ltb lines 2) (λ q. head-going (ltb-true lines 2 q) h) (λ q. row-going (ltb-false lines 2 q) y z);
        met = λ h y z. cases (ltb lines 2) (λ q. absurd (z (head-on (ltb-true lines 2 q)).2)) (λ q. row-met (ltb-false lines 2 q) y z);
      }
