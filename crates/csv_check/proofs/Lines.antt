-- The laws of the walk over the lines. Assumes nothing.
use mathlib.Core.Path.{◌≡◌, refl, sym, ap, ◌∙◌}
use mathlib.Core.Bool.{Bool, true, false, cond, not, ◌&&◌, ◌||◌}
use mathlib.Core.List.{List, [], ◌∷◌}
use Prim.Native.Nat.{ℕ, zero, suc, ◌+◌, ◌-◌, ◌≤◌, ◌<◌}
use native.Mathlib.Omega.{arith}
use native.Mathlib.Numerals.{add-one}
use borrow.Author.Tests.{lt-ltb, le-ltb, ltb-true, ltb-false, ne_eqb}
use lib.Dec.{eqb, ltb}
use lib.ListN.{length, take, drop}
use Rattle.std.specs.Prelude.{Option, None, Some, is_some, unwrap_or}
use Rattle.std.proofs.lemmas.Option.{none-some}
use Rattle.rules.specs.Lists.{empty, onto, nth, all}
use Rattle.rules.proofs.Logic.{cases, never}
use Rattle.csv_rules.specs.Quote.{Lines, end, broken, line, more, Stand, Begins, Comma, Inside, Quote, Cr, lines_at, cut, is_broken, FileLine, lines_in}
use Rattle.csv_rules.specs.Count.{numeral, counts}
use Rattle.csv_rules.specs.Kanji.{convertible}
use Rattle.csv_rules.specs.Sheets.{row_converts, bytes_in, first_row}
use Rattle.csv_rules.specs.Spot.{first_not, count_line}
use Rattle.csv_rules.specs.Written.{halved}
use Rattle.csv_rows.specs.declared.RowItems.{RowItems}
use Rattle.csv_rows.specs.Rows.{raw_items, RowIs}
use Rattle.csv_rows.proofs.Laws.{item-half, row-lines, row-unbroken, row-broken, rows_end}
use Rattle.csv_check.specs.Walk.{capped, first_found, count_spot, ColumnsAre, column_item, WalkIs}
use Rattle.csv_check.specs.Looked.{LookedIs}
use Rattle.csv_check.proofs.Count.{same_count}

-- ---- a line has two quotes for each of its items: k are read before
unfoldable Few : ℕ → Lines → Type 0
Few k end = Unit
Few k broken = Unit
Few k (line is n ls) = length is + length is ≤ n + k

few-same : (k : ℕ) (c : Lines) → Few (suc k) c → Few k (more (λ is. is) c)
unfolding Few more
few-same k end h = tt
few-same k broken h = tt
few-same k (line is n ls) h = omega arith

few-onto : (b k : ℕ) (c : Lines) → Few 1 c → Few (suc k) (more (onto b) c)
unfolding Few more onto
few-onto b k end h = tt
few-onto b k broken h = tt
few-onto b k (line [] n ls) h = omega arith
few-onto b k (line (i ∷ is) n ls) h = omega arith

few-item : (c : Lines) → Few 0 c → Few 2 (more (λ is. [] ∷ is) c)
unfolding Few more
few-item end h = tt
few-item broken h = tt
few-item (line is n ls) h = omega arith

unfoldable quotes_read : Stand → ℕ
quotes_read Begins = 0
quotes_read Comma = 0
quotes_read Inside = 1
quotes_read Quote = 2
quotes_read Cr = 3

lines-few : (a : Stand) (s : List ℕ) → Few (quotes_read a) (lines_at a s)
unfolding lines_at quotes_read Few
lines-few Begins [] = tt
lines-few Comma [] = tt
lines-few Inside [] = tt
lines-few Quote [] = omega arith
lines-few Cr [] = tt
lines-few Begins (b ∷ s) = cases (eqb b 0x22) (λ e. rw (e, lines_at) (few-same 0 (lines_at Inside s) (lines-few Inside s))) (λ e. rw (e, lines_at) tt)
lines-few Comma (b ∷ s) = cases (eqb b 0x22) (λ e. rw (e, lines_at) (few-same 0 (lines_at Inside s) (lines-few Inside s))) (λ e. rw (e, lines_at) tt)
lines-few Inside (b ∷ s) =
    cases (eqb b 0x22)
    (λ e. rw (e, lines_at) (few-same 1 (lines_at Quote s) (lines-few Quote s)))
    (λ e. rw (e, lines_at) (few-onto b 0 (lines_at Inside s) (lines-few Inside s)))
lines-few Quote (b ∷ s) =
    cases (eqb b 0x22)
    (λ e. rw (e, lines_at) (few-onto b 1 (lines_at Inside s) (lines-few Inside s)))
    (λ e. cases (eqb b 0x2C)
    (λ g. rw (e, g, lines_at) (few-item (lines_at Comma s) (lines-few Comma s)))
    (λ g. cases (eqb b 0x0D)
    (λ h. rw (e, g, h, lines_at) (few-same 2 (lines_at Cr s) (lines-few Cr s)))
    (λ h. rw (e, g, h, lines_at) tt)))
lines-few Cr (b ∷ s) = cases (eqb b 0x0A) (λ e. rw (e, lines_at) (omega arith)) (λ e. rw (e, lines_at) tt)

-- ---- 51 over all lines: the first two are no rows
unfoldable pub first_off : ℕ → ℕ → List FileLine → ℕ
first_off m k [] = 0
first_off m k (l ∷ ls) = elim (ltb k 3 || eqb (length l.items) m) [ true ↦ first_off m (suc k) ls | false ↦ k ]

off-later : (m k : ℕ) (ls : List FileLine) → 3 ≤ k → first_off m k ls ≡ first_not (λ (r : FileLine). eqb (length r.items) m) k ls
unfolding first_off first_not
off-later m k [] h = refl
off-later m k (l ∷ ls) h =
    cases (eqb (length l.items) m)
    (λ e. rw (le-ltb k 3 h, e, first_off, first_not) (off-later m (suc k) ls (omega arith)))
    (λ e. rw (le-ltb k 3 h, e, first_off, first_not))

off-first : (m : ℕ) (ls : List FileLine) → first_off m 1 ls ≡ first_not (λ (r : FileLine). eqb (length r.items) m) 3 (drop 2 ls)
unfolding first_off first_not
off-first m [] = refl
off-first m (v ∷ []) = refl
off-first m (v ∷ (h ∷ ls)) = off-later m 3 ls (omega arith)

-- ---- the first line that is found, of some and then of others
abbrev or_else : ℕ → ℕ → ℕ
or_else a b = cond (eqb a 0) b a

no_zero : (n : ℕ) → eqb (suc n) 0 ≡ false
no_zero n = ne_eqb (suc n) 0 (λ e. absurd (omega arith))

found-on : (found j x : ℕ) (t : Bool) → or_else found (elim t [ true ↦ x | false ↦ suc j ]) ≡ or_else (first_found found (suc j) t) x
unfolding first_found
found-on zero j x true = refl
found-on zero j x false = rw (no_zero j)
found-on (suc i) j x t = rw (no_zero i) (rw (no_zero i))

found_all : (found : ℕ) → or_else found 0 ≡ found
found_all zero = refl
found_all (suc n) = rw (no_zero n)

pub found-yes : (found n : ℕ) (t : Bool) → (eqb found 0 && not t) ≡ true → n ≡ first_found found n t
unfolding first_found
found-yes found n t h = rw h

pub found-no : (found n : ℕ) (t : Bool) → (eqb found 0 && not t) ≡ false → found ≡ first_found found n t
unfolding first_found
found-no found n t h = rw h

pub before-yes : (n size : ℕ) → n < 3 → size ≡ cond (ltb n 3) size 0
before-yes n size h = rw (lt-ltb n 3 h)

pub before-no : (n size : ℕ) → 3 ≤ n → 0 ≡ cond (ltb n 3) size 0
before-no n size h = rw (le-ltb n 3 h)

-- ---- the lines from a place on
abbrev from : List ℕ → ℕ → List FileLine
from f at = lines_in (cut (drop at f))

pub record Walking (f : List ℕ) (number at lines miscounted unconverted first : ℕ) : Type 0 where
  pub quoting : is_broken (cut f) ≡ is_broken (cut (drop at f))
  pub counts : length (lines_in (cut f)) ≡ lines + length (from f at)
  pub counted : (m : ℕ) → capped number ≡ capped m → first_off m 1 (lines_in (cut f)) ≡ or_else miscounted (first_off m (suc lines) (from f at))
  pub converted : first_not row_converts 1 (lines_in (cut f)) ≡ or_else unconverted (first_not row_converts (suc lines) (from f at))
  pub rows : bytes_in (take 2 (lines_in (cut f))) ≡ first + bytes_in (take (2 - lines) (from f at))
  pub place : at ≤ length f
  pub few : lines ≤ at
  pub before : first ≤ at

pub walk-starts : (f : List ℕ) (number : ℕ) → Walking f number 0 0 0 0 0
walk-starts f number = record {
  quoting = refl;
  counts = omega arith;
  counted = λ m e. refl;
  converted = refl;
  rows = omega arith;
  place = omega arith;
  few = omega arith;
  before = omega arith;
}

module _ (f : List ℕ) (number at lines miscounted unconverted first : ℕ) (p : Walking f number at lines miscounted unconverted first) where
  -- nothing more is read
  walk_ends : from f at ≡ [] → (b : Bool) → is_broken (cut (drop at f)) ≡ b → WalkIs f number b lines miscounted unconverted first
  unfolding first_off first_not bytes_in
  walk_ends e b g = record {
    quoting = sym (p.quoting ∙ g);
    counts = let k : length (from f at) ≡ 0 = ap length e in omega (arith, p.counts);
    counted = λ m h. sym (sym (off-first m (lines_in (cut f))) ∙ p.counted m h ∙ ap (λ (ls : List FileLine). or_else miscounted (first_off m (suc lines) ls)) e ∙ found_all miscounted);
    converted = sym (p.converted ∙ ap (λ (ls : List FileLine). or_else unconverted (first_not row_converts (suc lines) ls)) e ∙ found_all unconverted);
    rows = let k : bytes_in (take (2 - lines) (from f at)) ≡ 0 = ap (λ (ls : List FileLine). bytes_in (take (2 - lines) ls)) e ∙ none (2 - lines) in omega (arith, p.rows);
  }
    where
      none : (n : ℕ) → bytes_in (take n []) ≡ 0
      none zero = refl
      none (suc n) = refl

  pub walk-over : length f ≤ at → WalkIs f number false lines miscounted unconverted first
  walk-over h = let e = rows_end f at h in walk_ends e.0 false e.1

  pub walk-line : at < length f → length f < 18446744073709551616 → lines + 1 < 18446744073709551616
  walk-line h k = omega (arith, p.few)

  pub walk-broken : cut (drop at f) ≡ broken → WalkIs f number true lines miscounted unconverted first
  walk-broken h = let e = row-broken f at h in walk_ends e.0 true e.1

  module _ (read : RowItems) (size count : ℕ) (good : Bool) (t : RowIs f at false read size count good) where
    pub walk-place : length f < 18446744073709551616 → at + size < 18446744073709551616
    walk-place k = omega (arith, t.place)

    head-size : (x : ℕ) → x ≡ cond (ltb (lines + 1) 3) size 0 → x ≤ size
    head-size x w = cases (ltb (lines + 1) 3) (λ e. let y : x ≡ size = w ∙ rw e in omega arith) (λ e. let y : x ≡ 0 = w ∙ rw e in omega arith)

    pub walk_first : length f < 18446744073709551616 → (x : ℕ) → x ≡ cond (ltb (lines + 1) 3) size 0 → first + x < 18446744073709551616
    walk_first k x w = omega (arith, t.place, p.before, head-size x w)

    pub walk-less : at < length f → length f - (at + size) < length f - at
    walk-less k = omega (arith, t.place, t.moves)

    row-few : length f < 18446744073709551616 → count < 10000000000000000000
    unfolding Few quotes_read cut
    row-few k =
        let c : lines_at Begins (drop at f) ≡ line t.items size (cut (drop (at + size) f)) = t.is in
        let n : length t.items + length t.items ≤ size + 0 = rw c at (lines-few Begins (drop at f)) in
        omega (arith, t.counted, t.place)

    abbrev row : FileLine
    row = record { items = t.items; size = size }

    row_next : from f at ≡ row ∷ from f (at + size)
    row_next = row-lines f at false read size count good t

    module _ (x m u : ℕ) (a : m ≡ first_found miscounted (lines + 1) (ltb (lines + 1) 3 || eqb count number))
        (b : u ≡ first_found unconverted (lines + 1) good) (w : x ≡ cond (ltb (lines + 1) 3) size 0) where
      more_rows : bytes_in (take 2 (lines_in (cut f))) ≡ (first + x) + bytes_in (take (2 - (lines + 1)) (from f (at + size)))
      unfolding bytes_in
      more_rows =
          cases (ltb (lines + 1) 3)
          (λ e.
          let k : 2 - lines ≡ suc (2 - (lines + 1)) = omega (arith, ltb-true (lines + 1) 3 e) in
          let z : bytes_in (take (2 - lines) (from f at)) ≡ size + bytes_in (take (2 - (lines + 1)) (from f (at + size))) =
          ap (λ (n : ℕ). bytes_in (take n (from f at))) k ∙ ap (λ (ls : List FileLine). bytes_in (take (suc (2 - (lines + 1))) ls)) row_next in
          let y : x ≡ size = w ∙ rw e in
          omega (arith, p.rows))
          (λ e.
          let k : 2 - lines ≡ 0 = omega (arith, ltb-false (lines + 1) 3 e) in
          let n : 2 - (lines + 1) ≡ 0 = omega (arith, ltb-false (lines + 1) 3 e) in
          let z : bytes_in (take (2 - lines) (from f at)) ≡ 0 = ap (λ (n : ℕ). bytes_in (take n (from f at))) k in
          let o : bytes_in (take (2 - (lines + 1)) (from f (at + size))) ≡ 0 = ap (λ (n : ℕ). bytes_in (take n (from f (at + size)))) n in
          let y : x ≡ 0 = w ∙ rw e in
          omega (arith, p.rows))

      pub walk-on : at < length f → length f < 18446744073709551616 → Walking f number (at + size) (lines + 1) m u (first + x)
      unfolding first_off first_not
      walk-on l k = record {
        quoting = p.quoting ∙ row-unbroken f at false read size count good t;
        counts = let e : length (from f at) ≡ suc (length (from f (at + size))) = ap length row_next in omega (arith, p.counts);
        counted = λ n e.
            let q : eqb count number ≡ eqb (length t.items) n = same_count number n count e (row-few k) ∙ ap (λ (c : ℕ). eqb c n) t.counted in
            p.counted n e
            ∙ ap (λ (ls : List FileLine). or_else miscounted (first_off n (suc lines) ls)) row_next
            ∙ found-on miscounted lines (first_off n (suc (suc lines)) (from f (at + size))) (ltb (suc lines) 3 || eqb (length t.items) n)
            ∙ rw (a, add-one, q);
        converted =
            p.converted
            ∙ ap (λ (ls : List FileLine). or_else unconverted (first_not row_converts (suc lines) ls)) row_next
            ∙ found-on unconverted lines (first_not row_converts (suc (suc lines)) (from f (at + size))) (all convertible t.items)
            ∙ rw (b, add-one, t.converts);
        rows = more_rows;
        place = t.place;
        few = omega (arith, p.few, t.moves);
        before = omega (arith, p.before, head-size x w);
      }

-- ---- the column count of a file
no-columns : ColumnsAre [] None
unfolding counts empty
no-columns = record { is = refl; value = λ n e. absurd (none-some n e) }

pub columns-none : (f : List ℕ) → length f ≡ 0 → ColumnsAre (column_item (lines_in (cut f))) None
unfolding column_item
columns-none f h = let e = (rows_end f 0 (omega arith)).0 in rw e no-columns

pub columns-broken : (f : List ℕ) → cut (drop 0 f) ≡ broken → ColumnsAre (column_item (lines_in (cut f))) None
unfolding column_item
columns-broken f h = let e = (row-broken f 0 h).0 in rw e no-columns

pub columns-read : (f : List ℕ) (known : Bool) (read : RowItems) (size count : ℕ) (good : Bool) → RowIs f 0 known read size count good
    → (raw : List ℕ) → raw ≡ nth (raw_items read) 1 → (n : Option ℕ) → ColumnsAre (halved false raw) n → ColumnsAre (column_item (lines_in (cut f))) n
unfolding column_item
columns-read f known read size count good t raw e n c =
    let v : halved false raw ≡ nth t.items 1 = ap (halved false) e ∙ sym (item-half read 1) ∙ t.lies.each 1 (omega arith) in
    let w : column_item (lines_in (cut f)) ≡ nth t.items 1 = ap column_item (row-lines f 0 known read size count good t) in
    rw (w, ← v) c

-- ---- 51 of the whole file
module _ (lines : ℕ) (good : Bool) (miscounted : ℕ) where
  pub spot-none : lines ≡ 0 → 1 ≡ count_spot lines good miscounted
  unfolding count_spot
  spot-none h = rw h

  pub spot-one : lines ≡ 1 → 2 ≡ count_spot lines good miscounted
  unfolding count_spot
  spot-one h = rw h

  module _ (a : lines ≡ 0 → ⊥) (b : lines ≡ 1 → ⊥) where
    pub spot-rows : good ≡ true → miscounted ≡ count_spot lines good miscounted
    unfolding count_spot
    spot-rows h = rw (ne_eqb lines 0 a, ne_eqb lines 1 b, h)

    pub spot-columns : good ≡ false → 1 ≡ count_spot lines good miscounted
    unfolding count_spot
    spot-columns h = rw (ne_eqb lines 0 a, ne_eqb lines 1 b, h)

columns-value : (n : Option ℕ) (v : List ℕ) → ColumnsAre v n → is_some n ≡ true → capped (unwrap_or n 0) ≡ capped (numeral 0 v)
columns-value None v c e = never (sym e)
columns-value (Some k) v c e = c.value k refl

spot-line : (ls : List FileLine) (number : Option ℕ) (lines miscounted : ℕ) → ColumnsAre (column_item ls) number → lines ≡ length ls
    → ((m : ℕ) → capped (unwrap_or number 0) ≡ capped m → miscounted ≡ first_not (λ (r : FileLine). eqb (length r.items) m) 3 (drop 2 ls))
    → count_spot lines (is_some number) miscounted ≡ count_line ls
unfolding count_spot count_line column_item
spot-line [] number lines miscounted c n h = rw n
spot-line (v ∷ []) number lines miscounted c n h = rw n
spot-line (v ∷ (w ∷ ls)) number lines miscounted c n h =
    let y : eqb lines 0 ≡ false = ne_eqb lines 0 (λ e. absurd (omega arith)) in
    let z : eqb lines 1 ≡ false = ne_eqb lines 1 (λ e. absurd (omega arith)) in
    cases (is_some number)
    (λ e. rw (y, z, e, ← c.is, e) (h (numeral 0 (nth v.items 1)) (columns-value number (nth v.items 1) c e)))
    (λ e. rw (y, z, e, ← c.is, e))

pub look-all : (f : List ℕ) (number : Option ℕ) → ColumnsAre (column_item (lines_in (cut f))) number
    → (b : Bool) (lines miscounted unconverted first m : ℕ) → m ≡ unwrap_or number 0 → WalkIs f m b lines miscounted unconverted first
    → (r : ℕ) → r ≡ count_spot lines (is_some number) miscounted → LookedIs f b lines r unconverted first
unfolding first_row
look-all f number c b lines miscounted unconverted first m u w r e = record {
  quoting = w.quoting;
  counts = w.counts;
  counted = e ∙ spot-line (lines_in (cut f)) number lines miscounted c w.counts (λ n k. w.counted n (ap capped u ∙ k));
  converted = w.converted;
  rows = w.rows;
}
