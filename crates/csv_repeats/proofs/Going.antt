-- 53 and 54 in a walk over rows: what the rows so far say, and a row more. The first row is the k-th line, the next one the line-th. Assumes nothing.
use mathlib.Core.Path.{◌≡◌, refl, sym, ap, ◌∙◌}
use mathlib.Core.Bool.{Bool, true, false, cond, ◌&&◌}
use mathlib.Core.List.{List, [], ◌∷◌, ◌++◌, append-nil}
use Prim.Native.Nat.{ℕ, ◌+◌, ◌≤◌, ◌<◌}
use native.Mathlib.Omega.{arith}
use native.Mathlib.Numerals.{add-one}
use borrow.Author.Tests.{eqb-true, eqb-false, eq-eqb, ne_eqb, ltb-true, lt-ltb}
use lib.Dec.{eqb}
use lib.ListN.{length, length-append}
use Rattle.rules.specs.Lists.{any, all}
use Rattle.rules.proofs.Logic.{cases, never, and-false, or-false, not-true}
use Rattle.rules.proofs.Lists.{all_cons, all_first}
use Rattle.csv_rules.specs.Quote.{Items, FileLine}
use Rattle.csv_rules.specs.Sheets.{clash, differ, row_converts, runs, bytes_in}
use Rattle.csv_rules.specs.Spot.{first_after, clashes, comes_back}
use Rattle.csv_rules.proofs.Behind.{among, new-agrees}
use Rattle.csv_rules.proofs.Order.{all-parts}
use Rattle.csv_rows.specs.declared.RowItems.{RowItems}
use Rattle.csv_rows.specs.Rows.{lines_from, items_of, RowIs}
use Rattle.csv_rows.proofs.Laws.{row-lines}
use Rattle.csv_places.specs.Places.{Places}
use Rattle.csv_places.specs.Slots.{Nothing}
use Rattle.csv_repeats.specs.declared.Standing.{Standing}
use Rattle.csv_repeats.specs.declared.Standing.TheVariants.{Same, New, Back, Differs}
use Rattle.csv_repeats.specs.Looks.{Stands, WithRow, is_differs, is_back, begun}
use Rattle.csv_repeats.specs.Rounds.{first_line, left, Partly}
use Rattle.csv_repeats.proofs.Seen.{back, back-append, sized, few-sized, any_append, same_run, begun_after, begun_all}
use Rattle.csv_repeats.proofs.Standings.{Says, away, none-back}
use Rattle.csv_repeats.proofs.Laws.{row-alike}
use Rattle.csv_repeats.proofs.Kept.{Kept, Near, kept-starts, kept-places, stands-says, stands-left, stands-kept}
use Rattle.csv_repeats.proofs.Firsts.{least-none, least-early, first-late, Alone, alone-ends, alone-met}

-- ---- as long as every number is kept
pub record Keeping (f : List ℕ) (first k : ℕ) (places : List ℕ) (before : Items) (at line returns count : ℕ) : Type 0 where
  pub seen : List FileLine
  pub lines : lines_from f first ≡ back seen (lines_from f at)
  pub place : at ≡ first + bytes_in seen
  pub line-is : line ≡ k + length seen
  pub converts : all row_converts seen ≡ true
  pub sizes-are : all sized seen ≡ true
  pub agree : differ seen ≡ false
  pub clash-at : first_after clashes k [] (lines_from f first) ≡ first_after clashes line seen (lines_from f at)
  pub back_at : first_after comes_back k [] (lines_from f first) ≡ cond (eqb returns 0) (first_after comes_back line seen (lines_from f at)) returns
  pub back-before : returns < line
  pub runs-are : length (runs (lines_from f first)) ≡ count + begun_after seen (lines_from f at)
  pub kept-are : Kept f seen places
  pub near : Near before seen

-- ---- once a number isn't: the rows that are kept, and the late ones, from unkept on, which is the start-th line
pub record Leaving (f : List ℕ) (first k : ℕ) (places : List ℕ) (before : Items) (at unkept start line returns count : ℕ) : Type 0 where
  pub kept : List FileLine
  pub late : List FileLine
  pub lines : lines_from f first ≡ back kept (lines_from f unkept)
  pub late-are : lines_from f unkept ≡ back late (lines_from f at)
  pub place : at ≡ first + bytes_in (late ++ kept)
  pub line-is : line ≡ k + length (late ++ kept)
  pub unkept-is : unkept ≡ first + bytes_in kept
  pub start_is : start ≡ k + length kept
  pub inside : unkept < length f
  pub some : first < 4294967296 → kept ≡ [] → ⊥
  pub converts : all row_converts (late ++ kept) ≡ true
  pub sizes-are : all sized (late ++ kept) ≡ true
  pub kept-sizes : all sized kept ≡ true
  pub agree : differ kept ≡ false
  pub apart : all (away kept) late ≡ true
  pub clash-at : first_after clashes k [] (lines_from f first) ≡ first_after clashes start kept (lines_from f unkept)
  pub back_at : returns ≡ 0 → first_after comes_back k [] (lines_from f first) ≡ first_after comes_back start kept (lines_from f unkept)
  pub back_alone : returns ≡ 0 → Alone comes_back kept late
  pub back-met : (returns ≡ 0 → ⊥) → first_after comes_back k [] (lines_from f first) ≡ first_line returns (first_after comes_back start [] (lines_from f unkept))
  pub runs-are : length (runs (lines_from f first)) ≡ count + begun_after (late ++ kept) (lines_from f at)
  pub kept-are : Kept f kept places
  pub near : Near before (late ++ kept)

pub record Going (f : List ℕ) (first k : ℕ) (places : List ℕ) (before : Items) (at unkept start line returns count : ℕ) : Type 0 where
  pub keeping : unkept ≡ 0 → Keeping f first k places before at line returns count
  pub leaving : (unkept ≡ 0 → ⊥) → Leaving f first k places before at unkept start line returns count
  pub counted : 0 < k

pub going-starts : (f : List ℕ) (first k : ℕ) (places : List ℕ) (before : Items) (start : ℕ) → 0 < k → length places ≡ 65536 → Nothing places
    → Going f first k places before first 0 start k 0 0
unfolding back bytes_in all differ Near
going-starts f first k places before start h m n = record {
  keeping = λ z. record {
    seen = [];
    lines = refl;
    place = omega arith;
    line-is = omega arith;
    converts = refl;
    sizes-are = refl;
    agree = refl;
    clash-at = refl;
    back_at = refl;
    back-before = h;
    runs-are = begun_all (lines_from f first) ∙ (let z : begun_after [] (lines_from f first) ≡ 0 + begun_after [] (lines_from f first) = omega arith in z);
    kept-are = kept-starts f places m n;
    near = tt;
  };
  leaving = λ z. absurd (z refl);
  counted = h;
}

-- ---- the rows that are left
left-some : (f : List ℕ) (unkept : ℕ) → (unkept ≡ 0 → ⊥) → left f unkept ≡ lines_from f unkept
unfolding left
left-some f unkept z = rw (ne_eqb unkept 0 z)

-- where none is left
none_left : (f : List ℕ) (first k differs returns start : ℕ) → first_after clashes k [] (lines_from f first) ≡ differs
    → (differs ≡ 0 → first_after comes_back k [] (lines_from f first) ≡ returns) → Partly f first k differs returns 0 start
unfolding left first_after
none_left f first k differs returns start d b = record {
  clash = d ∙ sym (least-none differs);
  back = λ h. b h ∙ sym (least-none returns);
  kept = lines_from f first;
  parts = sym (append-nil (lines_from f first));
  place = λ z. absurd (z refl);
  moves = λ h z. absurd (z refl);
  few = λ z. absurd (z refl);
}

away-alone : (kept late : List FileLine) → all (away kept) late ≡ true → Alone clashes kept late
unfolding Alone
away-alone kept [] h = tt
away-alone kept (l ∷ late) h =
    let q = all_first (away kept) l late h in
    let n : any (clash l.items) kept ≡ false = not-true (any (clash l.items) kept) q.0 in
    (rw (any_append (clash l.items) late kept, n, or-false (any (clash l.items) late)), away-alone kept late q.1)

-- some rows have some bytes
some-sizes : (s : List FileLine) → (s ≡ [] → ⊥) → all sized s ≡ true → 0 < bytes_in s
unfolding bytes_in
some-sizes [] h k = absurd (h refl)
some-sizes (l ∷ s) h k = omega (arith, ltb-true 0 l.size (all_first sized l s k).0)

-- a row is left at least
module _ (f : List ℕ) (first k : ℕ) (places : List ℕ) (before : Items) (at unkept start line returns count : ℕ) (z : unkept ≡ 0 → ⊥)
    (G : Leaving f first k places before at unkept start line returns count) where
  some_left : (differs told : ℕ) → first_after clashes k [] (lines_from f first) ≡ first_line differs (first_after clashes start [] (lines_from f unkept))
      → (differs ≡ 0 → first_after comes_back k [] (lines_from f first) ≡ first_line told (first_after comes_back start [] (lines_from f unkept)))
      → Partly f first k differs told unkept start
  unfolding bytes_in
  some_left differs told d b =
      let e = left-some f unkept z in
      record {
        clash = rw e d;
        back = λ h. rw e (b h);
        kept = back G.kept [];
        parts = rw e (G.lines ∙ back-append G.kept (lines_from f unkept));
        place = λ y. (omega (arith, G.unkept-is), G.inside);
        moves = λ h y. omega (arith, G.unkept-is, some-sizes G.kept (G.some h) G.kept-sizes);
        few = λ y. (omega (arith, G.start_is), omega (arith, G.start_is, G.unkept-is, few-sized G.kept G.kept-sizes));
      }

-- ---- the table, and the rows to come
module _ (f : List ℕ) (first k : ℕ) (places : List ℕ) (before : Items) (at unkept start line returns count : ℕ) (G : Going f first k places before at unkept start line returns count) where
  pub going-places : Places f places
  going-places =
      cases (eqb unkept 0)
      (λ q. let K = G.keeping (eqb-true unkept 0 q) in kept-places f K.seen places K.kept-are)
      (λ q. let L = G.leaving (eqb-false unkept 0 q) in kept-places f L.kept places L.kept-are)

  pub going-converts : all row_converts (lines_from f first) ≡ true → all row_converts (lines_from f at) ≡ true
  going-converts h =
      cases (eqb unkept 0)
      (λ q. let K = G.keeping (eqb-true unkept 0 q) in behind K.seen (lines_from f first) (lines_from f at) K.lines h)
      (λ q.
      let L = G.leaving (eqb-false unkept 0 q) in
      behind L.late (lines_from f unkept) (lines_from f at) L.late-are (behind L.kept (lines_from f first) (lines_from f unkept) L.lines h))
    where
      behind : (seen ls rest : List FileLine) → ls ≡ back seen rest → all row_converts ls ≡ true → all row_converts rest ≡ true
      behind seen ls rest e h = (all-parts row_converts (back seen []) rest (rw (e, back-append seen rest) at h)).1

-- ---- the end
module _ (f : List ℕ) (first k : ℕ) (places : List ℕ) (before : Items) (at unkept start line returns count : ℕ) (G : Going f first k places before at unkept start line returns count)
    (e : lines_from f at ≡ []) where
  keeping-ends : Keeping f first k places before at line returns count → Partly f first k 0 returns 0 start
  unfolding first_after
  keeping-ends K =
      none_left f first k 0 returns start (K.clash-at ∙ ap (first_after clashes line K.seen) e)
      (λ h.
      K.back_at ∙ ap (λ (ls : List FileLine). cond (eqb returns 0) (first_after comes_back line K.seen ls) returns) e
      ∙ cases (eqb returns 0) (λ q. rw q (sym (eqb-true returns 0 q))) (λ q. rw q))

  leaving-ends : (unkept ≡ 0 → ⊥) → Leaving f first k places before at unkept start line returns count → Partly f first k 0 returns unkept start
  unfolding first_line
  leaving-ends z L =
      let u : 0 < start = omega (arith, G.counted, L.start_is) in
      let ls : lines_from f unkept ≡ back L.late [] = L.late-are ∙ ap (back L.late) e in
      some_left f first k places before at unkept start line returns count z L 0 returns
      (L.clash-at ∙ rw ls (alone-ends clashes L.kept start u L.late (away-alone L.kept L.late L.apart)))
      (λ h.
      cases (eqb returns 0)
      (λ q.
      let y = eqb-true returns 0 q in
      rw y (L.back_at y ∙ rw ls (alone-ends comes_back L.kept start u L.late (L.back_alone y))))
      (λ q. L.back-met (eqb-false returns 0 q)))

  pub going-ends : Partly f first k 0 returns unkept start
  going-ends =
      cases (eqb unkept 0)
      (λ q. let y = eqb-true unkept 0 q in rw y (keeping-ends (G.keeping y)))
      (λ q. let y = eqb-false unkept 0 q in leaving-ends y (G.leaving y))

  pub going-runs : count ≡ length (runs (lines_from f first))
  unfolding begun_after
  going-runs =
      let none : (seen : List FileLine) → begun_after seen (lines_from f at) ≡ 0 = λ seen. ap (begun_after seen) e in
      cases (eqb unkept 0)
      (λ q. let K = G.keeping (eqb-true unkept 0 q) in omega (arith, K.runs-are, none K.seen))
      (λ q. let L = G.leaving (eqb-false unkept 0 q) in omega (arith, L.runs-are, none (L.late ++ L.kept)))

few-begun : (s : Standing) → begun s ≤ 1
few-begun Same = omega arith
few-begun New = omega arith
few-begun Back = omega arith
few-begun Differs = omega arith

-- ---- a row more, which converts
module _ (f : List ℕ) (first k : ℕ) (places : List ℕ) (before : Items) (at line returns count : ℕ) (known : Bool)
    (read : RowItems) (size n : ℕ) (good : Bool) (T : RowIs f at known read size n good) where
  abbrev row : FileLine
  row = record { items = T.items; size = size }

  rows : lines_from f at ≡ row ∷ lines_from f (at + size)
  rows = row-lines f at known read size n good T

  row-some : 0 < size
  row-some = T.moves

  -- as long as every number is kept
  module _ (K : Keeping f first k places before at line returns count) (c : row_converts row ≡ true) (z : at ≡ 0 → ⊥)
      (s : Standing) (o : ℕ) (after : List ℕ) (R : Stands f first at before (items_of read) places 0 s o after) where
    keep-says : Says K.seen [] row s
    unfolding all
    keep-says =
        stands-says f first at before (items_of read) places 0 K.seen [] K.kept-are row K.place K.near K.sizes-are (row-alike read T.items T.lies) s o after R
        c K.converts K.agree refl

    keep-cases : {P : Type 0} → (o ≡ 0 → Kept f (row ∷ K.seen) after → P)
        → (o ≡ at → after ≡ places → among K.seen row ≡ false → (at < 4294967296 → K.seen ≡ [] → ⊥) → P) → P
    keep-cases =
        stands-kept f first at before (items_of read) places K.seen K.kept-are row K.place K.near K.sizes-are (row-alike read T.items T.lies) s o after R rows z

    -- 53
    keep-differs : (told start : ℕ) → 0 < line → is_differs s ≡ true → Partly f first k line told o start
    unfolding first_after
    keep-differs told start l h =
        let a : any (clash T.items) K.seen ≡ true = keep-says.differs h in
        keep-cases
        (λ q w.
        rw q
        (none_left f first k line told start (K.clash-at ∙ ap (first_after clashes line K.seen) rows ∙ rw (a, first_after)) (λ y. absurd (omega arith))))
        (λ q w m y. never (sym a ∙ new-agrees row K.seen m))

    module _ (h : is_differs s ≡ false) where
      none : any (clash T.items) K.seen ≡ false
      none = keep-says.agrees h

      begins : begun s ≡ cond (same_run K.seen row) 0 1
      begins = keep-says.begins h

      -- it is kept, too
      keep-on : (p : ℕ) → p ≡ cond (eqb returns 0 && is_back s) line returns → Kept f (row ∷ K.seen) after
          → Keeping f first k after (items_of read) (at + size) (line + 1) p (count + begun s)
      unfolding back bytes_in all differ Near first_after begun_after comes_back
      keep-on p q w = record {
        seen = row ∷ K.seen;
        lines = K.lines ∙ ap (back K.seen) rows;
        place = omega (arith, K.place);
        line-is = omega (arith, K.line-is);
        converts = rw (all_cons row_converts row K.seen, c) K.converts;
        sizes-are = rw (all_cons sized row K.seen, lt-ltb 0 size row-some) K.sizes-are;
        agree = rw none K.agree;
        clash-at = K.clash-at ∙ ap (first_after clashes line K.seen) rows ∙ rw (none, first_after, add-one);
        back_at = K.back_at ∙ back-next;
        back-before = back_low;
        runs-are =
            let y : begun_after K.seen (lines_from f at) ≡ cond (same_run K.seen row) 0 1 + begun_after (row ∷ K.seen) (lines_from f (at + size)) =
            ap (begun_after K.seen) rows in
            omega (arith, K.runs-are, y, begins);
        kept-are = w;
        near = row-alike read T.items T.lies;
      }
        where
          told : is_back s ≡ comes_back K.seen row
          told = cases (is_back s) (λ y. y ∙ sym (keep-says.returns y)) (λ y. y ∙ sym (keep-says.stays h y))

          back_low : p < line + 1
          back_low = cases (eqb returns 0 && is_back s) (λ y. let u : p ≡ line = q ∙ rw y in omega arith) (λ y. let u : p ≡ returns = q ∙ rw y in omega (arith, K.back-before))

          back-next : cond (eqb returns 0) (first_after comes_back line K.seen (lines_from f at)) returns
              ≡ cond (eqb p 0) (first_after comes_back (line + 1) (row ∷ K.seen) (lines_from f (at + size))) p
          back-next =
              rw (rows, add-one)
              (cases (eqb returns 0)
              (λ z.
              cases (comes_back K.seen row)
              (λ c. let u : p ≡ line = q ∙ rw (z, told, c) in rw (z, c, u, first_after, ne_eqb line 0 (λ y. omega (arith, K.back-before))))
              (λ c. let u : p ≡ returns = q ∙ rw (z, told, c) in rw (c, u, z, first_after)))
              (λ z. let u : p ≡ returns = q ∙ rw z in rw (u, z)))

      -- it is the first that isn't
      keep-leaves : (p : ℕ) → p ≡ cond (eqb returns 0 && is_back s) line returns → after ≡ places → among K.seen row ≡ false → (at < 4294967296 → K.seen ≡ [] → ⊥)
          → Leaving f first k after (items_of read) (at + size) at line (line + 1) p (count + begun s)
      unfolding back bytes_in all Near begun_after Alone
      keep-leaves p q t m y = record {
        kept = K.seen;
        late = row ∷ [];
        lines = K.lines;
        late-are = rows;
        place = omega (arith, K.place);
        line-is = omega (arith, K.line-is);
        unkept-is = K.place;
        start_is = K.line-is;
        inside = omega (arith, T.place, row-some);
        some = λ l e. y (let u : bytes_in K.seen ≡ 0 = ap bytes_in e in omega (arith, K.place)) e;
        converts = rw (all_cons row_converts row K.seen, c) K.converts;
        sizes-are = rw (all_cons sized row K.seen, lt-ltb 0 size row-some) K.sizes-are;
        kept-sizes = K.sizes-are;
        agree = K.agree;
        apart = rw (all_cons (away K.seen) row [], none);
        clash-at = K.clash-at;
        back_at = λ e. K.back_at ∙ rw (eq-eqb returns 0 (sym same ∙ e));
        back_alone = λ e. (keep-says.stays h quiet, tt);
        back-met = λ e.
            let l = ne_eqb returns 0 (λ u. e (same ∙ u)) in
            K.back_at ∙ rw (l, same)
            (sym
            (least-early returns (first_after comes_back line [] (lines_from f at)) (let u = eqb-false returns 0 l in omega arith)
            (λ u. let v = first-late comes_back line [] (lines_from f at) u in omega (arith, K.back-before))));
        runs-are =
            let y : begun_after K.seen (lines_from f at) ≡ cond (same_run K.seen row) 0 1 + begun_after (row ∷ K.seen) (lines_from f (at + size)) =
            ap (begun_after K.seen) rows in
            omega (arith, K.runs-are, y, begins);
        kept-are = rw t K.kept-are;
        near = row-alike read T.items T.lies;
      }
        where
          quiet : is_back s ≡ false
          quiet = cases (is_back s) (λ y. never (sym (keep-says.returns y) ∙ none-back K.seen row m)) (λ y. y)

          same : p ≡ returns
          same = q ∙ rw (quiet, and-false (eqb returns 0))

  -- once a number isn't
  module _ (unkept start : ℕ) (L : Leaving f first k places before at unkept start line returns count) (counted : 0 < k) (y : unkept ≡ 0 → ⊥) (c : row_converts row ≡ true)
      (s : Standing) (o : ℕ) (after : List ℕ) (R : Stands f first at before (items_of read) places unkept s o after) where
    leave-says : Says L.kept L.late row s
    leave-says =
        stands-says f first at before (items_of read) places unkept L.kept L.late L.kept-are row L.place L.near L.sizes-are (row-alike read T.items T.lies) s o after R
        c L.converts L.agree L.apart

    leave-stays : (o ≡ unkept) × (after ≡ places)
    leave-stays =
        stands-left f first at before (items_of read) places unkept L.kept L.late L.kept-are row L.place L.near L.sizes-are (row-alike read T.items T.lies) s o after R y

    start-some : 0 < start
    start-some = omega (arith, L.start_is)

    line-late : line ≡ start + length L.late
    line-late = omega (arith, L.line-is, L.start_is, length-append L.late L.kept)

    late-rows : lines_from f unkept ≡ back L.late (row ∷ lines_from f (at + size))
    late-rows = L.late-are ∙ ap (back L.late) rows

    -- a line that is told by a test
    leave-met : (p : List FileLine → FileLine → Bool) → Alone p L.kept L.late → p (L.late ++ L.kept) row ≡ true
        → first_after p start L.kept (lines_from f unkept) ≡ first_line line (first_after p start [] (lines_from f unkept))
    leave-met p A t = rw (late-rows, line-late) (alone-met p L.kept start start-some L.late A row (lines_from f (at + size)) t)

    -- 53
    leave-differs : (told : ℕ) → is_differs s ≡ true → Partly f first k line told o start
    leave-differs told h =
        rw leave-stays.0
        (some_left f first k places before at unkept start line returns count y L line told
        (L.clash-at ∙ leave-met clashes (away-alone L.kept L.late L.apart) (leave-says.differs h))
        (λ e. absurd (omega (arith, line-late, start-some))))

    module _ (h : is_differs s ≡ false) where
      leave-on : (p : ℕ) → p ≡ cond (eqb returns 0 && is_back s) line returns
          → Leaving f first k after (items_of read) (at + size) unkept start (line + 1) p (count + begun s)
      unfolding back bytes_in Near begun_after Alone
      leave-on p q = record {
        kept = L.kept;
        late = row ∷ L.late;
        lines = L.lines;
        late-are = late-rows;
        place = omega (arith, L.place);
        line-is = omega (arith, L.line-is);
        unkept-is = L.unkept-is;
        start_is = L.start_is;
        inside = L.inside;
        some = L.some;
        converts = rw (all_cons row_converts row (L.late ++ L.kept), c) L.converts;
        sizes-are = rw (all_cons sized row (L.late ++ L.kept), lt-ltb 0 size row-some) L.sizes-are;
        kept-sizes = L.kept-sizes;
        agree = L.agree;
        apart = rw (all_cons (away L.kept) row L.late, leave-says.agrees h) L.apart;
        clash-at = L.clash-at;
        back_at = λ e. L.back_at (none_yet e).0;
        back_alone = λ e. let u = none_yet e in (leave-says.stays h u.1, L.back_alone u.0);
        back-met = λ e.
            cases (eqb returns 0)
            (λ u.
            cases (is_back s)
            (λ v.
            let l : p ≡ line = q ∙ rw (u, v) in
            let w = eqb-true returns 0 u in
            L.back_at w ∙ rw l (leave-met comes_back (L.back_alone w) (leave-says.returns v)))
            (λ v. absurd (e (q ∙ rw (u, v) (eqb-true returns 0 u)))))
            (λ u. let l : p ≡ returns = q ∙ rw u in rw l (L.back-met (eqb-false returns 0 u)));
        runs-are =
            let v : begun_after (L.late ++ L.kept) (lines_from f at) ≡ cond (same_run (L.late ++ L.kept) row) 0 1 + begun_after (row ∷ (L.late ++ L.kept)) (lines_from f (at + size)) =
            ap (begun_after (L.late ++ L.kept)) rows in
            omega (arith, L.runs-are, v, leave-says.begins h);
        kept-are = rw leave-stays.1 L.kept-are;
        near = row-alike read T.items T.lies;
      }
        where
          none_yet : p ≡ 0 → (returns ≡ 0) × (is_back s ≡ false)
          none_yet e =
              cases (eqb returns 0)
              (λ u. cases (is_back s) (λ v. absurd (let l : p ≡ line = q ∙ rw (u, v) in omega (arith, line-late, start-some))) (λ v. (eqb-true returns 0 u, v)))
              (λ u. absurd (eqb-false returns 0 u (let l : p ≡ returns = q ∙ rw u in sym l ∙ e)))

  -- a row begins one run at most
  pub with-few : (unkept start : ℕ) (o m d p r : ℕ) (after : List ℕ) → WithRow f first at before (items_of read) places unkept start line returns count o m d p r after → r ≤ count + 1
  with-few unkept start o m d p r after W = omega (arith, W.runs, few-begun W.standing)

  -- ---- either
  module _ (unkept start : ℕ) (G : Going f first k places before at unkept start line returns count) (c : row_converts row ≡ true) (z : at ≡ 0 → ⊥)
      (o m d p r : ℕ) (after : List ℕ) (W : WithRow f first at before (items_of read) places unkept start line returns count o m d p r after) where
    line-some : 0 < line
    line-some =
        cases (eqb unkept 0)
        (λ q. let K = G.keeping (eqb-true unkept 0 q) in omega (arith, K.line-is, G.counted))
        (λ q. let L = G.leaving (eqb-false unkept 0 q) in omega (arith, L.line-is, G.counted))

    -- 53 is met
    pub going-met : (d ≡ 0 → ⊥) → Partly f first k d p o m
    going-met h =
        let w : is_differs W.standing ≡ true = cases (is_differs W.standing) (λ q. q) (λ q. absurd (h (W.differs ∙ rw q))) in
        let e : d ≡ line = W.differs ∙ rw w in
        cases (eqb unkept 0)
        (λ q.
        let u = eqb-true unkept 0 q in
        rw e (keep-differs (G.keeping u) c z W.standing o after (rw u at W.stands) p m line-some w))
        (λ q.
        let u = eqb-false unkept 0 q in
        let v = leave-stays unkept start (G.leaving u) G.counted u c W.standing o after W.stands in
        let n : m ≡ start = W.line-is ∙ rw (eq-eqb o unkept v.0) in
        rw (e, n) (leave-differs unkept start (G.leaving u) G.counted u c W.standing o after W.stands p w))

    module _ (h : d ≡ 0) where
      alike : is_differs W.standing ≡ false
      alike = cases (is_differs W.standing) (λ q. absurd (let e : d ≡ line = W.differs ∙ rw q in omega (arith, line-some))) (λ q. q)

      from-keeping : unkept ≡ 0 → Going f first k after (items_of read) (at + size) o m (line + 1) p (count + begun W.standing)
      from-keeping u =
          let K = G.keeping u in
          let R : Stands f first at before (items_of read) places 0 W.standing o after = rw u at W.stands in
          keep-cases K c z W.standing o after R
          (λ q w. record {
            keeping = λ v. keep-on K c z W.standing o after R alike p W.back w;
            leaving = λ v. absurd (v q);
            counted = G.counted;
          })
          (λ q w n v.
          let l : m ≡ line = W.line-is ∙ rw (u, ne_eqb o 0 (λ x. z (sym q ∙ x))) in
          record {
            keeping = λ x. absurd (z (sym q ∙ x));
            leaving = λ x. rw (q, l) (keep-leaves K c z W.standing o after R alike p W.back w n v);
            counted = G.counted;
          })

      from-leaving : (unkept ≡ 0 → ⊥) → Going f first k after (items_of read) (at + size) o m (line + 1) p (count + begun W.standing)
      from-leaving u =
          let L = G.leaving u in
          let v = leave-stays unkept start L G.counted u c W.standing o after W.stands in
          let n : m ≡ start = W.line-is ∙ rw (eq-eqb o unkept v.0) in
          record {
            keeping = λ x. absurd (u (sym v.0 ∙ x));
            leaving = λ x. rw (v.0, n) (leave-on unkept start L G.counted u c W.standing o after W.stands alike p W.back);
            counted = G.counted;
          }

      pub going_on : Going f first k after (items_of read) (at + size) o m (line + 1) p r
      going_on =
          rw W.runs
          (cases (eqb unkept 0)
          (λ q. from-keeping (eqb-true unkept 0 q))
          (λ q. from-leaving (eqb-false unkept 0 q)))
