-- The laws of a round, and of round after round. Assumes nothing.
use mathlib.Core.Path.{◌≡◌, refl, sym, ap, ◌∙◌}
use mathlib.Core.Bool.{Bool, true, false, cond, not, ◌&&◌}
use mathlib.Core.List.{List, [], ◌++◌}
use Prim.Native.Nat.{ℕ, ◌+◌, ◌-◌, ◌≤◌, ◌<◌}
use native.Mathlib.Omega.{arith}
use borrow.Author.Tests.{eqb-true, eqb-false, eq-eqb, ne_eqb, ltb-true, ltb-false}
use lib.Dec.{eqb, ltb}
use lib.ListN.{length, drop, length-drop}
use lib.Seq.{drop-drop}
use Rattle.rules.specs.Lists.{all}
use Rattle.rules.proofs.Logic.{cases, both, never}
use Rattle.rules.proofs.Lists.{all_first}
use Rattle.csv_rules.specs.Quote.{Items, broken, cut, FileLine, lines_in}
use Rattle.csv_rules.specs.Sheets.{row_converts}
use Rattle.csv_rules.specs.Spot.{first_after, clashes, comes_back}
use Rattle.csv_rules.proofs.Order.{all-parts}
use Rattle.csv_rows.specs.declared.RowItems.{RowItems}
use Rattle.csv_rows.specs.Rows.{lines_from, items_of, RowIs}
use Rattle.csv_rows.proofs.Laws.{row-lines, row-broken, rows_end}
use Rattle.csv_places.specs.Places.{Places}
use Rattle.csv_places.specs.Slots.{Nothing}
use Rattle.csv_repeats.specs.Looks.{WithRow}
use Rattle.csv_repeats.specs.Rounds.{first_line, left, Partly}
use Rattle.csv_repeats.proofs.Firsts.{least-none, least_zero, least-over}
use Rattle.csv_repeats.proofs.Going.{Going, going-starts, going-places, going-converts, going-ends, going-met, going_on, with-few}
use Rattle.csv_rounds.specs.Settled.{Unsettled, Settled}

-- ---- the first of two lines
pub first-none : (a b : ℕ) → a ≡ 0 → b ≡ first_line a b
unfolding first_line
first-none a b h = rw (eq-eqb a 0 h)

module _ (a b : ℕ) (z : a ≡ 0 → ⊥) (t : Bool) (e : t ≡ (not (eqb b 0) && ltb b a)) where
  pub first-other : t ≡ true → b ≡ first_line a b
  unfolding first_line
  first-other h =
      let q = both (not (eqb b 0)) (ltb b a) (sym e ∙ h) in
      let n : eqb b 0 ≡ false = cases (eqb b 0) (λ y. never (sym q.0 ∙ rw y)) (λ y. y) in
      rw (ne_eqb a 0 z, n, q.1)

  pub first-own : t ≡ false → a ≡ first_line a b
  unfolding first_line
  first-own h =
      rw (ne_eqb a 0 z)
      (cases (eqb b 0) (λ y. rw y) (λ y. let q : ltb b a ≡ false = sym (rw y at e) ∙ h in rw (y, q)))

-- ---- a place behind some bytes
pub behind-none : (n at : ℕ) → at ≡ 0 → 0 ≡ cond (eqb at 0) 0 (n + at)
behind-none n at h = rw (eq-eqb at 0 h)

pub behind-some : (n at : ℕ) → (at ≡ 0 → ⊥) → n + at ≡ cond (eqb at 0) 0 (n + at)
behind-some n at h = rw (ne_eqb at 0 h)

-- ---- one round
pub record Rounding (f : List ℕ) (k : ℕ) (places : List ℕ) (before : Items) (at passed unkept start differs returns count : ℕ) : Type 0 where
  pub one : 1 ≤ at
  pub few : count ≤ at
  pub passed-few : passed + 2 ≤ k + at
  pub going : differs ≡ 0 → Going f 1 k places before at unkept start (passed + 1) returns count
  pub met : (differs ≡ 0 → ⊥) → Partly f 1 k differs returns unkept start

pub round-starts : (f : List ℕ) (k : ℕ) (places : List ℕ) (before : Items) → 0 < k → length places ≡ 65536 → Nothing places
    → Rounding f k places before 1 (k - 1) 0 0 0 0 0
round-starts f k places before h m n =
    let z : (k - 1) + 1 ≡ k = omega arith in
    record {
      one = omega arith;
      few = omega arith;
      passed-few = omega arith;
      going = λ y. rw z (going-starts f 1 k places before 0 h m n);
      met = λ y. absurd (y refl);
    }

module _ (f : List ℕ) (k : ℕ) (places : List ℕ) (before : Items) (at passed unkept start differs returns count : ℕ)
    (P : Rounding f k places before at passed unkept start differs returns count) where
  -- the rows end, or a line that is badly quoted ends them
  ended : lines_from f at ≡ [] → Partly f 1 k differs returns unkept start
  ended e =
      cases (eqb differs 0)
      (λ q. let d = eqb-true differs 0 q in rw d (going-ends f 1 k places before at unkept start (passed + 1) returns count (P.going d) e))
      (λ q. P.met (eqb-false differs 0 q))

  pub round-over : (ltb at (length f) && eqb differs 0) ≡ false → Partly f 1 k differs returns unkept start
  round-over h =
      cases (ltb at (length f))
      (λ q. P.met (eqb-false differs 0 (rw q at h)))
      (λ q. ended (rows_end f at (ltb-false at (length f) q)).0)

  module _ (h : (ltb at (length f) && eqb differs 0) ≡ true) where
    pub round-inside : at < length f
    round-inside = ltb-true at (length f) (both (ltb at (length f)) (eqb differs 0) h).0

    none : differs ≡ 0
    none = eqb-true differs 0 (both (ltb at (length f)) (eqb differs 0) h).1

    pub round-passed : k + length f ≤ 18446744073709551617 → passed + 1 < 18446744073709551616
    round-passed l = omega (arith, P.passed-few, round-inside)

    pub round-table : Places f places
    round-table = going-places f 1 k places before at unkept start (passed + 1) returns count (P.going none)

    pub round-few : count ≤ at
    round-few = P.few

    pub round-broken : cut (drop at f) ≡ broken → Partly f 1 k differs returns unkept start
    round-broken b = ended (row-broken f at b).0

    module _ (read : RowItems) (size n : ℕ) (good : Bool) (T : RowIs f at true read size n good) where
      pub round-place : at + size ≤ length f
      round-place = T.place

      pub round-less : length f - (at + size) < length f - at
      round-less = omega (arith, T.place, T.moves)

      pub round-on : all row_converts (lines_from f 1) ≡ true → (o m d p c : ℕ) (after : List ℕ)
          → WithRow f 1 at before (items_of read) places unkept start (passed + 1) returns count o m d p c after
          → Rounding f k after (items_of read) (at + size) (passed + 1) o m d p c
      round-on v o m d p c after W =
          let G = P.going none in
          let y = T.moves in
          let ls = going-converts f 1 k places before at unkept start (passed + 1) returns count G v in
          let w = (all_first row_converts (record { items = T.items; size = size }) (lines_from f (at + size)) (rw (row-lines f at true read size n good T) at ls)).0 in
          let z : at ≡ 0 → ⊥ = λ e. omega (arith, P.one) in
          record {
            one = omega (arith, P.one);
            few = omega (arith, P.few, with-few f 1 k places before at (passed + 1) returns count true read size n good T unkept start o m d p c after W);
            passed-few = omega (arith, P.passed-few);
            going = λ e. going_on f 1 k places before at (passed + 1) returns count true read size n good T unkept start G w z o m d p c after W e;
            met = λ e. going-met f 1 k places before at (passed + 1) returns count true read size n good T unkept start G w z o m d p c after W e;
          }

-- ---- round after round
-- the file from a place on
rest_lines : (f s : List ℕ) (start at : ℕ) → s ≡ drop start f → lines_from s at ≡ lines_from f (start + at)
rest_lines f s start at e = ap (λ (x : List ℕ). lines_from x at) e ∙ ap (λ (x : List ℕ). lines_in (cut x)) (drop-drop at start f)

rest-left : (f s : List ℕ) (start at : ℕ) → s ≡ drop start f → left s at ≡ left f (cond (eqb at 0) 0 (start + at))
unfolding left
rest-left f s start at e =
    cases (eqb at 0) (λ q. rw q)
    (λ q. let n = eqb-false at 0 q in rw (q, ne_eqb (start + at) 0 (λ z. n (omega arith))) (rest_lines f s start at e))

rest-size : (f s : List ℕ) (start : ℕ) → s ≡ drop start f → length s ≡ length f - start
rest-size f s start e = ap length e ∙ length-drop start f

-- those found by the first walk and the rows that it left, and what is found since
pub record Settling (f : List ℕ) (differs₀ returns₀ unkept₀ line₀ differs returns unkept line : ℕ) : Type 0 where
  pub clash : first_line differs₀ (first_after clashes line₀ [] (left f unkept₀)) ≡ first_line differs (first_after clashes line [] (left f unkept))
  pub back : differs ≡ 0 → first_line returns₀ (first_after comes_back line₀ [] (left f unkept₀)) ≡ first_line returns (first_after comes_back line [] (left f unkept))
  pub to-come : Unsettled f unkept line

abbrev pub distance : List ℕ → ℕ → ℕ
distance f unkept = cond (eqb unkept 0) 0 (length f - unkept)

pub settle-starts : (f : List ℕ) (differs returns unkept line : ℕ) → Unsettled f unkept line → Settling f differs returns unkept line differs returns unkept line
settle-starts f differs returns unkept line U = record { clash = refl; back = λ h. refl; to-come = U }

module _ (f : List ℕ) (differs₀ returns₀ unkept₀ line₀ differs returns unkept line : ℕ) (S : Settling f differs₀ returns₀ unkept₀ line₀ differs returns unkept line) where
  pub settle-ends : unkept ≡ 0 → Settled f differs₀ returns₀ unkept₀ line₀ differs returns
  unfolding left first_after
  settle-ends z =
      let n : left f unkept ≡ [] = rw (eq-eqb unkept 0 z) in
      record {
        clash = sym (S.clash ∙ rw n (least-none differs));
        back = λ h. sym (S.back h ∙ rw n (least-none returns));
      }

  module _ (z : unkept ≡ 0 → ⊥) where
    pub settle-start : unkept - 1 ≤ length f
    settle-start = omega (arith, S.to-come.place z)

    pub settle-line : 0 < line
    settle-line = (S.to-come.few z).0

    here-left : left f unkept ≡ lines_from f unkept
    unfolding left
    here-left = rw (ne_eqb unkept 0 z)

    module _ (s : List ℕ) (e : s ≡ drop (unkept - 1) f) where
      here-lines : lines_from s 1 ≡ lines_from f unkept
      here-lines = let n : (unkept - 1) + 1 ≡ unkept = omega arith in rest_lines f s (unkept - 1) 1 e ∙ ap (lines_from f) n

      pub settle-room : length f < 18446744073709551616 → line + length s ≤ 18446744073709551617
      settle-room h = omega (arith, (S.to-come.few z).1, S.to-come.place z, rest-size f s (unkept - 1) e)

      pub settle-converts : all row_converts (lines_from s 1) ≡ true
      settle-converts = ap (all row_converts) (here-lines ∙ sym here-left) ∙ S.to-come.converts

      module _ (d r o m : ℕ) (P : Partly s 1 line d r o m) where
        pub settle-inside : length f < 18446744073709551616 → (unkept - 1) + o < 18446744073709551616
        settle-inside h = cases (eqb o 0) (λ q. omega (arith, eqb-true o 0 q, S.to-come.place z)) (λ q. omega (arith, (P.place (eqb-false o 0 q)).1, rest-size f s (unkept - 1) e))

        module _ (u : ℕ) (v : u ≡ cond (eqb o 0) 0 ((unkept - 1) + o)) where
          next-left : left s o ≡ left f u
          next-left = rest-left f s (unkept - 1) o e ∙ ap (left f) (sym v)

          some_next : (u ≡ 0 → ⊥) → (o ≡ 0 → ⊥) × (u ≡ (unkept - 1) + o)
          some_next h =
              cases (eqb o 0)
              (λ q. absurd (h (v ∙ rw q)))
              (λ q. (eqb-false o 0 q, v ∙ rw q))

          next-clash : first_after clashes line [] (left f unkept) ≡ first_line d (first_after clashes m [] (left f u))
          next-clash = ap (first_after clashes line []) (here-left ∙ sym here-lines) ∙ P.clash ∙ ap (λ (x : List FileLine). first_line d (first_after clashes m [] x)) next-left

          next-back : d ≡ 0 → first_after comes_back line [] (left f unkept) ≡ first_line r (first_after comes_back m [] (left f u))
          next-back h = ap (first_after comes_back line []) (here-left ∙ sym here-lines) ∙ P.back h ∙ ap (λ (x : List FileLine). first_line r (first_after comes_back m [] x)) next-left

          pub settle-on : (a b : ℕ) → a ≡ first_line differs d → b ≡ first_line returns r → Settling f differs₀ returns₀ unkept₀ line₀ a b u m
          settle-on a b x y = record {
            clash = S.clash ∙ ap (first_line differs) next-clash ∙ least-over differs d (first_after clashes m [] (left f u)) ∙ ap (λ (n : ℕ). first_line n (first_after clashes m [] (left f u))) (sym x);
            back = λ h.
                let w = least_zero differs d (sym x ∙ h) in
                S.back w.0 ∙ ap (first_line returns) (next-back w.1) ∙ least-over returns r (first_after comes_back m [] (left f u))
                ∙ ap (λ (n : ℕ). first_line n (first_after comes_back m [] (left f u))) (sym y);
            to-come = record {
              converts =
                  let c : all row_converts (P.kept ++ left s o) ≡ true = ap (all row_converts) (sym P.parts) ∙ settle-converts in
                  ap (all row_converts) (sym next-left) ∙ (all-parts row_converts P.kept (left s o) c).1;
              place = λ h. let w = some_next h in omega (arith, w.1, (P.place w.0).1, rest-size f s (unkept - 1) e);
              few = λ h.
                  let w = some_next h in
                  let q = P.few w.0 in
                  (omega (arith, q.0, settle-line), omega (arith, w.1, q.1, (S.to-come.few z).1));
            };
          }

          pub settle-less : distance f u < distance f unkept
          settle-less =
              rw (ne_eqb unkept 0 z)
              (cases (eqb u 0)
              (λ q. rw q (omega (arith, S.to-come.place z)))
              (λ q.
              let w = some_next (eqb-false u 0 q) in
              rw q (omega (arith, w.1, P.moves (omega arith) w.0, (P.place w.0).1, S.to-come.place z, rest-size f s (unkept - 1) e))))
