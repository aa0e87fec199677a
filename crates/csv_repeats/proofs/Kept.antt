-- What the table of places keeps of the rows before a row, as long as it keeps every number. Assumes nothing.
use mathlib.Core.Path.{◌≡◌, refl, sym, ap, ◌∙◌}
use mathlib.Core.Bool.{true, false, cond, ◌&&◌}
use mathlib.Core.List.{List, [], ◌∷◌, ◌++◌}
use Prim.Native.Nat.{ℕ, ◌+◌, ◌*◌, ◌<◌}
use native.Mathlib.Omega.{arith}
use borrow.Author.Tests.{eqb-true, eqb-false, ne_eqb, ltb-true, lt-ltb, le-ltb}
use lib.Dec.{eqb, ltb}
use lib.ListN.{length}
use Rattle.rules.specs.Lists.{any, all}
use Rattle.rules.proofs.Logic.{cases, list_cases, never, neither, not-true}
use Rattle.rules.proofs.Lists.{all_first, any-cons, same-eq, same_self}
use Rattle.csv_rules.specs.Quote.{Items, FileLine}
use Rattle.csv_rules.specs.Columns.{number_of}
use Rattle.csv_rules.specs.Sheets.{same_number, clash, differ, row_converts, bytes_in}
use Rattle.csv_rules.proofs.Behind.{among, clash-self}
use Rattle.csv_rules.proofs.Order.{all-parts}
use Rattle.csv_rows.specs.Rows.{lines_from}
use Rattle.csv_places.specs.declared.Slot.{Slot}
use Rattle.csv_places.specs.declared.Slot.TheVariants.{Held, Free, Crowded}
use Rattle.csv_places.specs.Places.{items_at, number_at, hash_of, place_in, mark_in, slot_filled, slot_of, known_number, RowThere, Places, HeldAt, FreeAt, CrowdedAt, SlotIs, keeps_place, with_place}
use Rattle.csv_places.specs.Slots.{Nothing}
use Rattle.csv_places.proofs.Laws.{items-there, known_same, known-stays, filled-many, filled-other, filled-place, filled-mark}
use Rattle.csv_repeats.specs.Looks.{same_header, looked_for, Looked, Stands}
use Rattle.csv_repeats.specs.declared.Standing.{Standing}
use Rattle.csv_repeats.specs.declared.Standing.TheVariants.{Same, New, Back, Differs}
use Rattle.csv_repeats.proofs.Seen.{sized, In, in-here, in-there, in-cases, not_in, same_run}
use Rattle.csv_repeats.proofs.Standings.{Alike, Says, away, says-new, says_back, says_same, none-among}

-- ---- what is kept of a number, by cases
slot_cases : {P : Type 0} (x : Slot) → ((p : ℕ) → x ≡ Held p → P) → ((i : ℕ) → x ≡ Free i → P) → (x ≡ Crowded → P) → P
slot_cases (Held p) a b c = a p refl
slot_cases (Free i) a b c = b i refl
slot_cases Crowded a b c = c refl

-- ---- the rows that are kept
-- the row that begins at p is one of them
pub record KeptAt (f : List ℕ) (kept : List FileLine) (p : ℕ) : Type 0 where
  pub there : RowThere f p
  pub one : In there.row kept

pub record Kept (f : List ℕ) (kept : List FileLine) (places : List ℕ) : Type 0 where
  pub many : length places ≡ 65536
  pub rows : (i : ℕ) → (place_in places i ≡ 0 → ⊥) → KeptAt f kept (place_in places i)
  pub marks : (i : ℕ) → (place_in places i ≡ 0 → ⊥) → mark_in places i ≡ hash_of (number_of (items_at f (place_in places i)))
  pub knows : (w : FileLine) → In w kept → known_number f places w.items ≡ true

pub kept-starts : (f places : List ℕ) → length places ≡ 65536 → Nothing places → Kept f [] places
kept-starts f places m n = record {
  many = m;
  rows = λ i h. absurd (h (n.none (2 * i)));
  marks = λ i h. absurd (h (n.none (2 * i)));
  knows = λ w i. not_in w i.left i.right i.is;
}

module _ (f : List ℕ) (kept : List FileLine) (places : List ℕ) (K : Kept f kept places) where
  pub kept-places : Places f places
  kept-places = record { many = K.many; rows = λ i h. (K.rows i h).there; marks = K.marks }

  -- where no row is, no slot is taken
  none-taken : kept ≡ [] → (i : ℕ) → (place_in places i ≡ 0 → ⊥) → ⊥
  none-taken e i h = let S = K.rows i h in not_in S.there.row S.one.left S.one.right (sym e ∙ S.one.is)

  -- a number that the table doesn't know
  pub unknown-new : (row : FileLine) (r : Items) → number_of r ≡ number_of row.items → known_number f places r ≡ false → among kept row ≡ false
  unknown-new row r e u =
      none-among kept row
      (λ w i n.
      let q : known_number f places r ≡ known_number f places w.items = known_same f places r w.items (e ∙ same-eq (number_of row.items) (number_of w.items) n) in
      never (sym (K.knows w i) ∙ (sym q ∙ u)))

  -- ---- a row more
  module _ (row : FileLine) where
    kept_more : (after : List ℕ) → length after ≡ 65536 → ((i : ℕ) → (place_in after i ≡ 0 → ⊥) → KeptAt f (row ∷ kept) (place_in after i))
        → ((i : ℕ) → (place_in after i ≡ 0 → ⊥) → mark_in after i ≡ hash_of (number_of (items_at f (place_in after i))))
        → ((r : Items) → known_number f places r ≡ true → known_number f after r ≡ true) → known_number f after row.items ≡ true → Kept f (row ∷ kept) after
    kept_more after m b v s k = record {
      many = m;
      rows = b;
      marks = v;
      knows = λ w i.
          in-cases w row kept i.left i.right i.is
          (λ q. ap (λ (x : FileLine). known_number f after x.items) (sym q) ∙ k)
          (λ j. s w.items (K.knows w j));
    }

    one_more : {p : ℕ} → KeptAt f kept p → KeptAt f (row ∷ kept) p
    one_more S = record { there = S.there; one = in-there S.there.row row kept S.one }

    -- the table as it was
    same-table : known_number f places row.items ≡ true → Kept f (row ∷ kept) places
    same-table = kept_more places K.many (λ i h. one_more (K.rows i h)) K.marks (λ r k. k)

    -- a row with the number of one that is kept
    kept_same : (q : FileLine) → In q kept → same_number q.items row.items ≡ true → Kept f (row ∷ kept) places
    kept_same q i n = same-table (sym (known_same f places q.items row.items (same-eq (number_of q.items) (number_of row.items) n)) ∙ K.knows q i)

    module _ (at : ℕ) (rows : lines_from f at ≡ row ∷ lines_from f (at + row.size)) (z : at ≡ 0 → ⊥) (r : Items) (e : number_of r ≡ number_of row.items) where
      abbrev here : RowThere f at
      here = record { row = row; others = lines_from f (at + row.size); is = rows }

      number-here : number_at f r at ≡ true
      number-here = rw (items-there f at here, e) (same_self (number_of row.items))

      -- the place of the row in a free slot
      module _ (i : ℕ) (F : FreeAt f places r i) where
        abbrev with_row : List ℕ
        with_row = slot_filled places i at (hash_of (number_of r))

        place_here : place_in with_row i ≡ at
        place_here = filled-place places i at (hash_of (number_of r)) (omega (arith, F.place, K.many))

        mark-here : mark_in with_row i ≡ hash_of (number_of (items_at f at))
        mark-here =
            filled-mark places i at (hash_of (number_of r)) (omega (arith, F.place, K.many))
            ∙ ap hash_of (e ∙ sym (ap number_of (items-there f at here)))

        with_rows : (j : ℕ) → (place_in with_row j ≡ 0 → ⊥) → KeptAt f (row ∷ kept) (place_in with_row j)
        with_rows j h =
            cases (eqb j i)
            (λ y.
            let g : place_in with_row j ≡ at = ap (place_in with_row) (eqb-true j i y) ∙ place_here in
            rw g (record { there = here; one = in-here row kept }))
            (λ y.
            let g = (filled-other places i at (hash_of (number_of r)) j (eqb-false j i y)).0 in
            rw g (one_more (K.rows j (λ k. h (g ∙ k)))))

        with-marks : (j : ℕ) → (place_in with_row j ≡ 0 → ⊥) → mark_in with_row j ≡ hash_of (number_of (items_at f (place_in with_row j)))
        with-marks j h =
            cases (eqb j i)
            (λ y.
            let q = eqb-true j i y in
            ap (mark_in with_row) q ∙ mark-here ∙ ap (λ (p : ℕ). hash_of (number_of (items_at f p))) (sym (ap (place_in with_row) q ∙ place_here)))
            (λ y.
            let g = filled-other places i at (hash_of (number_of r)) j (eqb-false j i y) in
            g.1 ∙ K.marks j (λ k. h (g.0 ∙ k)) ∙ ap (λ (p : ℕ). hash_of (number_of (items_at f p))) (sym g.0))

        put_in : Kept f (row ∷ kept) with_row
        put_in =
            kept_more with_row (filled-many places i at (hash_of (number_of r)) ∙ K.many) with_rows with-marks
            (λ q k. known-stays f places q i at (hash_of (number_of r)) F.is k)
            (sym (known_same f with_row r row.items e) ∙ F.then at (hash_of (number_of r)) z number-here)

      -- it is kept with the others, or the first that isn't
      pub kept-looked : {P : Type 0} (s : Standing) (o : ℕ) (after : List ℕ) → Looked f at r places 0 s o after
          → (o ≡ 0 → Kept f (row ∷ kept) after → P)
          → (o ≡ at → after ≡ places → among kept row ≡ false → (at < 4294967296 → kept ≡ [] → ⊥) → P) → P
      unfolding keeps_place with_place SlotIs
      kept-looked s o after L with_it left_out =
          slot_cases L.slot
          (λ p h.
          let H : HeldAt f places r p = rw h at L.slot_is in
          let a : after ≡ places = L.table ∙ rw h in
          let b : o ≡ 0 = L.unkept-is ∙ rw h in
          with_it b (rw a (same-table (sym (known_same f places r row.items e) ∙ H.knows))))
          (λ i h.
          let F : FreeAt f places r i = rw h at L.slot_is in
          cases (ltb at 4294967296)
          (λ y.
          let a : after ≡ slot_filled places i at (hash_of (number_of r)) = L.table ∙ rw (h, y) in
          let b : o ≡ 0 = L.unkept-is ∙ rw (h, y) in
          with_it b (rw a (put_in i F)))
          (λ y.
          let a : after ≡ places = L.table ∙ rw (h, y) in
          let b : o ≡ at = L.unkept-is ∙ rw (h, y) in
          left_out b a (unknown-new row r e F.unknown) (λ k m. never (sym (lt-ltb at 4294967296 k) ∙ y))))
          (λ h.
          let C : CrowdedAt f places r = rw h at L.slot_is in
          let a : after ≡ places = L.table ∙ rw h in
          let b : o ≡ at = L.unkept-is ∙ rw h in
          left_out b a (unknown-new row r e C.unknown) (λ k m. none-taken m (slot_of (number_of r)) C.taken))

-- ---- how a row stands to those before it
-- the code remembers the row before
unfoldable pub Near : Items → List FileLine → Type 0
Near before [] = Unit {0}
Near before (q ∷ seen) = Alike before q.items

run_is : (first at : ℕ) (before : Items) (seen : List FileLine) (l : FileLine) (r : Items) → at ≡ first + bytes_in seen → Near before seen → all sized seen ≡ true
    → Alike r l.items → (ltb first at && same_number before r) ≡ same_run seen l
unfolding Near bytes_in same_run
run_is first at before [] l r e n z a = rw (le-ltb first at (omega arith))
run_is first at before (q ∷ seen) l r e n z a =
    let w = ltb-true 0 q.size (all_first sized q seen z).0 in
    rw (lt-ltb first at (omega arith), n.number, a.number)

module _ (f : List ℕ) (r : Items) (places : List ℕ) (kept late : List FileLine) (K : Kept f kept places) (row : FileLine) (a : Alike r row.items)
    (lc : row_converts row ≡ true) (sc : all row_converts kept ≡ true) (d : differ kept ≡ false) (g : same_run (late ++ kept) row ≡ false) where
  held-says : (p : ℕ) → HeldAt f places r p → Says kept late row (cond (same_header r (items_at f p)) Back Differs)
  held-says p H =
      let S : KeptAt f kept p = rw H.is at (K.rows H.slot (λ z. H.some (sym H.is ∙ z))) in
      let w = S.there.row in
      let i : items_at f p ≡ w.items = items-there f p S.there in
      let n : same_number row.items w.items ≡ true = rw (i, a.number) at H.number in
      rw (i, a.pid, a.pv1) (says_back kept row lc sc d late w S.one n g)

  new-says : known_number f places r ≡ false → Says kept late row New
  new-says u = says-new kept late row (unknown-new f kept places K row r a.number u) g

  looked-says : (at unkept : ℕ) (s : Standing) (o : ℕ) (after : List ℕ) → Looked f at r places unkept s o after → Says kept late row s
  unfolding looked_for SlotIs
  looked-says at unkept s o after L =
      slot_cases L.slot
      (λ p h. let H : HeldAt f places r p = rw h at L.slot_is in rw (L.is, h) (held-says p H))
      (λ i h. let F : FreeAt f places r i = rw h at L.slot_is in rw (L.is, h) (new-says F.unknown))
      (λ h. let C : CrowdedAt f places r = rw h at L.slot_is in rw (L.is, h) (new-says C.unknown))

-- the row before differs from none that is kept
near-away : (kept late : List FileLine) (q : FileLine) (seen : List FileLine) → late ++ kept ≡ q ∷ seen → differ kept ≡ false → all (away kept) late ≡ true
    → any (clash q.items) kept ≡ false
unfolding differ
near-away kept [] q seen e d h =
    let k : any (clash q.items) seen ≡ false = (neither (any (clash q.items) seen) (differ seen) (rw e at d)).0 in
    rw (e, any-cons (clash q.items) q seen, clash-self q) k
near-away kept (x ∷ late) q seen e d h =
    let o : x ≡ q = cc in
    let k : away kept q ≡ true = rw o at (all_first (away kept) x late h).0 in
    not-true (any (clash q.items) kept) k

module _ (f : List ℕ) (first at : ℕ) (before r : Items) (places : List ℕ) (unkept : ℕ) (kept late : List FileLine) (K : Kept f kept places) (row : FileLine)
    (place : at ≡ first + bytes_in (late ++ kept)) (near : Near before (late ++ kept)) (some : all sized (late ++ kept) ≡ true) (a : Alike r row.items)
    (s : Standing) (o : ℕ) (after : List ℕ) (S : Stands f first at before r places unkept s o after) where
  run : (ltb first at && same_number before r) ≡ same_run (late ++ kept) row
  run = run_is first at before (late ++ kept) row r place near some a

  module _ (lc : row_converts row ≡ true) (sc : all row_converts (late ++ kept) ≡ true) (d : differ kept ≡ false) (w : all (away kept) late ≡ true) where
    same-says : same_run (late ++ kept) row ≡ true → Says kept late row (cond (same_header r before) Same Differs)
    unfolding same_run Near
    same-says g =
        list_cases (late ++ kept)
        (λ e. never (sym g ∙ ap (λ (x : List FileLine). same_run x row) e))
        (λ q seen e.
        let n : same_number q.items row.items ≡ true = rw e at g in
        let b : Alike before q.items = rw e at near in
        let c : all row_converts (q ∷ seen) ≡ true = rw e at sc in
        rw (a.pid, a.pv1, b.pid, b.pv1) (says_same kept late q row seen e lc (all_first row_converts q seen c).0 (near-away kept late q seen e d w) n))

    pub stands-says : Says kept late row s
    stands-says =
        cases (same_run (late ++ kept) row)
        (λ g. rw (S.same (run ∙ g)).0 (same-says g))
        (λ g. looked-says f r places kept late K row a lc (all-parts row_converts late kept sc).1 d g at unkept s o after (S.other (run ∙ g)))

  -- from the first row on that isn't kept, the table stays
  pub stands-left : (unkept ≡ 0 → ⊥) → (o ≡ unkept) × (after ≡ places)
  stands-left z =
      cases (same_run (late ++ kept) row)
      (λ g. let q = S.same (run ∙ g) in (q.1, q.2))
      (λ g.
      let L = S.other (run ∙ g) in
      let y = ne_eqb unkept 0 z in
      (L.unkept-is ∙ rw y, L.table ∙ rw y))

same_kept : (f places : List ℕ) (kept : List FileLine) → Kept f kept places → (row : FileLine) → same_run kept row ≡ true → Kept f (row ∷ kept) places
unfolding same_run
same_kept f places [] K row g = never (sym g)
same_kept f places (q ∷ kept) K row g = kept_same f (q ∷ kept) places K row q (in-here q kept) g

-- a row is kept with the others, or is the first that isn't
pub stands-kept : {P : Type 0} (f : List ℕ) (first at : ℕ) (before r : Items) (places : List ℕ) (kept : List FileLine) → Kept f kept places → (row : FileLine)
    → at ≡ first + bytes_in kept → Near before kept → all sized kept ≡ true → Alike r row.items
    → (s : Standing) (o : ℕ) (after : List ℕ) → Stands f first at before r places 0 s o after
    → lines_from f at ≡ row ∷ lines_from f (at + row.size) → (at ≡ 0 → ⊥)
    → (o ≡ 0 → Kept f (row ∷ kept) after → P)
    → (o ≡ at → after ≡ places → among kept row ≡ false → (at < 4294967296 → kept ≡ [] → ⊥) → P) → P
stands-kept f first at before r places kept K row place near some a s o after S rows z with_it left_out =
    let q = run f first at before r places 0 kept [] K row place near some a s o after S in
    cases (same_run kept row)
    (λ g. let w = S.same (q ∙ g) in with_it w.1 (rw w.2 (same_kept f places kept K row g)))
    (λ g. kept-looked f kept places K row at rows z r a.number s o after (S.other (q ∙ g)) with_it left_out)
