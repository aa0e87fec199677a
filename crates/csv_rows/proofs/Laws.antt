-- The laws of a walk over a row, and of rows in turn. Assumes nothing.
use mathlib.Core.Path.{◌≡◌, refl, sym, ap, ◌∙◌}
use mathlib.Core.Bool.{Bool, true, false, ◌&&◌, ◌||◌}
use mathlib.Core.List.{List, [], ◌∷◌, ◌++◌, map, append-nil}
use Prim.Native.Nat.{ℕ, zero, suc, ◌+◌, ◌-◌, ◌≤◌, ◌<◌}
use native.Mathlib.Omega.{arith}
use borrow.Author.Tests.{eqb-true, eqb-false, lt-ltb, le-ltb, ltb-false}
use lib.Dec.{eqb, ltb}
use lib.ListN.{length, get_or, drop, set, replicate, length-append, length-set, get_or-replicate}
use Rattle.std.proofs.lemmas.List.{length-map}
use lib.Seq.{get_or-set_same, get_or-set_other, set_out}
use Rattle.std.proofs.lemmas.List.{map-set}
use Rattle.std.specs.Borrow.{Bor}
use Rattle.rules.specs.Lists.{nth, all}
use Rattle.rules.proofs.Logic.{cases}
use Rattle.rules.proofs.Lists.{here, over, nth-at, nth-more}
use Rattle.csv_rules.specs.Quote.{Comma, Items, Lines, end, broken, line, more, lines_at, cut, is_broken, lines_in}
use Rattle.csv_rules.specs.Quote as Quoting
use Rattle.csv_rules.specs.Kanji.{convertible}
use Rattle.csv_rules.specs.Written.{halved}
use Rattle.csv_rows.specs.Plain.{PlainItem}
use Rattle.csv_rows.specs.declared.RowItems.{RowItems}
use Rattle.csv_rows.specs.Rows.{put_before, afterwards, raw_of, raw_items, items_of, noted, LiesIn, Firsts, ItemAt, RowIs}
use Rattle.csv_rows.proofs.Items.{before-before, drop-same}

-- ---- the items noted
pub note-in : (slices : List (Bor (List ℕ))) (n : ℕ) (w : Bor (List ℕ)) → n < 45 → raw_of (set slices n w) ≡ noted n w.now (raw_of slices)
unfolding raw_of noted
note-in slices n w h = rw (lt-ltb n 45 h) (map-set (λ (x : Bor (List ℕ)). x.now) slices n w)

pub note-out : (slices : List (Bor (List ℕ))) (n : ℕ) (w : List ℕ) → 45 ≤ n → raw_of slices ≡ noted n w (raw_of slices)
unfolding noted
note-out slices n w h = rw (le-ltb n 45 h)

noted-set : (ts : List (List ℕ)) (n : ℕ) (w : List ℕ) → length ts ≡ 45 → noted n w ts ≡ set ts n w
unfolding noted
noted-set ts n w e =
    cases (ltb n 45) (λ t. rw t)
    (λ t. let k = ltb-false n 45 t in rw t (sym (set_out ts n w (omega arith))))

one-item : (w : List ℕ) (items : Items) (m : ℕ) → (m ≡ length items → ⊥) → (i : ℕ) → m ≡ length items + i → nth (w ∷ []) i ≡ []
one-item w items m h zero e = absurd (h (omega arith))
one-item w items m h (suc i) e = refl

-- some bytes of the file are those of the first 45 of some items
pub record Noted (f : List ℕ) (ts : List (List ℕ)) (items : Items) : Type 0 where
  pub size : length ts ≡ 45
  pub within : (n : ℕ) → n < 45 → LiesIn f (nth ts n)
  pub each : (n : ℕ) → n < 45 → halved false (nth ts n) ≡ nth items n

module _ (f : List ℕ) (ts : List (List ℕ)) (items : Items) (n : ℕ) (w : List ℕ) (p : Noted f ts items) (e : n ≡ length items) where
  each_on : (m : ℕ) → m < 45 → halved false (nth (set ts n w) m) ≡ nth (items ++ (halved false w ∷ [])) m
  each_on m h =
      cases (eqb m n)
      (λ t.
      let q : m ≡ n = eqb-true m n t in
      ap (halved false) (ap (nth (set ts n w)) q ∙ get_or-set_same ts n w [] (omega (arith, p.size)))
      ∙ sym (ap (nth (items ++ (halved false w ∷ []))) (q ∙ e) ∙ nth-at items (halved false w) []))
      (λ t.
      let q : m ≡ n → ⊥ = eqb-false m n t in
      ap (halved false) (get_or-set_other ts n m w [] q)
      ∙ p.each m h ∙ sym (nth-more items (halved false w ∷ []) m (one-item (halved false w) items m (λ z. q (z ∙ sym e)))))

  within_on : LiesIn f w → (m : ℕ) → m < 45 → LiesIn f (nth (set ts n w) m)
  within_on l m h =
      cases (eqb m n)
      (λ t.
      let q : m ≡ n = eqb-true m n t in
      let z : nth (set ts n w) m ≡ w = ap (nth (set ts n w)) q ∙ get_or-set_same ts n w [] (omega (arith, p.size)) in
      rw z l)
      (λ t.
      let z : nth (set ts n w) m ≡ nth ts m = get_or-set_other ts n m w [] (eqb-false m n t) in
      rw z (p.within m h))

  noted_on : LiesIn f w → Noted f (noted n w ts) (items ++ (halved false w ∷ []))
  noted_on l = rw (noted-set ts n w p.size) (record { size = length-set ts n w ∙ p.size; within = within_on l; each = each_on })

-- ---- the items of a row
halved-nth : (ts : List (List ℕ)) (n : ℕ) → nth (map (halved false) ts) n ≡ halved false (nth ts n)
unfolding halved
halved-nth [] n = refl
halved-nth (t ∷ ts) zero = refl
halved-nth (t ∷ ts) (suc n) = halved-nth ts n

pub item-half : (r : RowItems) (n : ℕ) → nth (items_of r) n ≡ halved false (nth (raw_items r) n)
unfolding items_of
item-half r n = halved-nth (raw_items r) n

pub noted-row : (f : List ℕ) (r : RowItems) (items : Items) → Noted f (raw_items r) items → Firsts r items
unfolding items_of
noted-row f r items p = record { size = length-map (raw_items r) (halved false) ∙ p.size; each = λ n h. item-half r n ∙ p.each n h }

-- ---- the row
pub record Reading (f : List ℕ) (at : ℕ) (known : Bool) (ts : List (List ℕ)) (size count : ℕ) (good : Bool) : Type 0 where
  pub items : Items
  pub is : cut (drop at f) ≡ put_before items size (lines_at Comma (drop (at + size) f))
  pub counted : count ≡ length items
  pub converts : good ≡ (known || all convertible items)
  pub lies : Noted f ts items
  pub few : count + count ≤ size
  pub place : at + size ≤ length f

add_none : (m : ℕ) → m ≡ m + 0
add_none m = omega arith

before-none : (g : Items → Items) (c : Lines) → more g c ≡ put_before [] 0 (more g c)
unfolding more put_before
before-none g end = refl
before-none g broken = refl
before-none g (line is m ls) = ap (λ (k : ℕ). line (g is) k ls) (add_none (suc m))

row-begins : (b : ℕ) (s : List ℕ) → cut (b ∷ s) ≡ put_before [] 0 (lines_at Comma (b ∷ s))
unfolding cut lines_at put_before
row-begins b s = cases (eqb b 0x22) (λ e. rw (e, lines_at) (before-none (λ is. is) (lines_at Quoting.Inside s))) (λ e. rw (e, lines_at))

none-noted : (f : List ℕ) (ts : List (List ℕ)) → ts ≡ replicate 45 [] → Noted f ts []
unfolding halved
none-noted f ts e = record { size = ap length e; within = λ n h. record { start = 0; size = 0; inside = omega arith; is = ap (λ (xs : List (List ℕ)). nth xs n) e ∙ get_or-replicate 45 n [] [] h }; each = λ n h. ap (λ (xs : List (List ℕ)). halved false (nth xs n)) e ∙ ap (halved false) (get_or-replicate 45 n [] [] h) }

known-or : (known : Bool) → true ≡ (known || true)
known-or true = refl
known-or false = refl

pub row-starts : (f : List ℕ) (ts : List (List ℕ)) (at : ℕ) (known : Bool) → at < length f → ts ≡ replicate 45 [] → Reading f at known ts 0 0 true
unfolding all
row-starts f ts at known h e = record {
  items = [];
  is =
      ap cut (here 0 f at h) ∙ row-begins (get_or f at 0) (drop (at + 1) f)
      ∙ ap (λ (s : List ℕ). put_before [] 0 (lines_at Comma s)) (sym (here 0 f at h) ∙ sym (drop-same f at));
  counted = refl;
  converts = known-or known;
  lies = none-noted f ts e;
  few = omega arith;
  place = omega arith;
}

row-over : (is : Items) (n : ℕ) (s : List ℕ) → put_before is n (afterwards false s) ≡ line is n (cut s)
unfolding put_before afterwards
row-over is n s = let q : 0 + n ≡ n = omega arith in rw (append-nil is, q)

-- an item more, where it isn't known that all convert
all_snoc : (p : List ℕ → Bool) (is : Items) (w : List ℕ) → all p (is ++ (w ∷ [])) ≡ (all p is && p w)
unfolding all
all_snoc p [] w = cases (p w) (λ e. rw (e, all)) (λ e. rw (e, all))
all_snoc p (x ∷ is) w = cases (p x) (λ e. rw (e, all) (all_snoc p is w)) (λ e. rw (e, all))

known-and : (known a b : Bool) → ((known || a) && (known || b)) ≡ (known || (a && b))
known-and true a b = refl
known-and false a b = refl

converts-on : (known good c : Bool) (is : Items) (w : List ℕ) → good ≡ (known || all convertible is) → c ≡ (known || convertible w)
    → (good && c) ≡ (known || all convertible (is ++ (w ∷ [])))
converts-on known good c is w g e =
    ap (λ (x : Bool). x && c) g ∙ ap (λ (x : Bool). (known || all convertible is) && x) e ∙ known-and known (all convertible is) (convertible w)
    ∙ ap (λ (x : Bool). known || x) (sym (all_snoc convertible is w))

-- an item that is told plain needn't be judged
plain_known : (w : List ℕ) (known plain : Bool) → PlainItem w plain → ((known || plain) || convertible (halved false w)) ≡ (known || convertible (halved false w))
plain_known w true plain d = refl
plain_known w false true d = sym (d.converts refl)
plain_known w false false d = refl

module _ (f : List ℕ) (at : ℕ) (known : Bool) (ts : List (List ℕ)) (size count : ℕ) (good : Bool) (p : Reading f at known ts size count good) where
  pub row-place : at + size ≤ length f
  row-place = p.place

  pub row-few : length f < 18446744073709551616 → count + 1 < 18446744073709551616
  row-few l = omega (arith, p.few, p.place)

  pub row_stops : lines_at Comma (drop (at + size) f) ≡ broken → cut (drop at f) ≡ broken
  unfolding put_before
  row_stops e = p.is ∙ ap (put_before p.items size) e

  module _ (w : List ℕ) (m : ℕ) (g : Bool) (t : ItemAt f (at + size) w m g) where
    read-on : cut (drop at f) ≡ put_before (p.items ++ (halved false w ∷ [])) (size + m) (afterwards g (drop (at + (size + m)) f))
    read-on =
        let x : m + size ≡ size + m = omega arith in
        let y : (at + size) + m ≡ at + (size + m) = omega arith in
        p.is
        ∙ ap (put_before p.items size) t.is
        ∙ before-before p.items (halved false w ∷ []) size m (afterwards g (drop ((at + size) + m) f))
        ∙ ap (λ (k : ℕ). put_before (p.items ++ (halved false w ∷ [])) k (afterwards g (drop ((at + size) + m) f))) x
        ∙ ap (λ (k : ℕ). put_before (p.items ++ (halved false w ∷ [])) (size + m) (afterwards g (drop k f))) y

    pub row_room : length f < 18446744073709551616 → size + m < 18446744073709551616
    row_room k = omega (arith, t.place)

    pub row-less : length f - (at + (size + m)) < length f - (at + size)
    row-less = omega (arith, t.place, t.some)

    module _ (xs : List (List ℕ)) (plain c : Bool) (e : xs ≡ noted count w ts) (d : PlainItem w plain) (o : c ≡ ((known || plain) || convertible (halved false w))) where
      on-counted : count + 1 ≡ length (p.items ++ (halved false w ∷ []))
      on-counted = rw length-append (omega (arith, p.counted))

      on-converts : (good && c) ≡ (known || all convertible (p.items ++ (halved false w ∷ [])))
      on-converts = converts-on known good c p.items (halved false w) p.converts (o ∙ plain_known w known plain d)

      on-noted : Noted f xs (p.items ++ (halved false w ∷ []))
      on-noted = rw e (noted_on f ts p.items count w p.lies p.counted t.lies)

      pub row_on : g ≡ true → Reading f at known xs (size + m) (count + 1) (good && c)
      unfolding afterwards
      row_on h = record {
        items = p.items ++ (halved false w ∷ []);
        is = read-on ∙ ap (λ (o : Bool). put_before (p.items ++ (halved false w ∷ [])) (size + m) (afterwards o (drop (at + (size + m)) f))) h;
        counted = on-counted;
        converts = on-converts;
        lies = on-noted;
        few = omega (arith, p.few, t.some);
        place = omega (arith, t.place);
      }

      ends : g ≡ false → (r : RowItems) → raw_items r ≡ xs → RowIs f at known r (size + m) (count + 1) (good && c)
      ends h r q = record {
        items = p.items ++ (halved false w ∷ []);
        is =
            read-on ∙ ap (λ (o : Bool). put_before (p.items ++ (halved false w ∷ [])) (size + m) (afterwards o (drop (at + (size + m)) f))) h
            ∙ row-over (p.items ++ (halved false w ∷ [])) (size + m) (drop (at + (size + m)) f);
        counted = on-counted;
        converts = on-converts;
        lies = noted-row f r (p.items ++ (halved false w ∷ [])) (rw q on-noted);
        within = (let z : Noted f (raw_items r) (p.items ++ (halved false w ∷ [])) = rw q on-noted in z.within);
        moves = omega (arith, t.some);
        place = omega (arith, t.place);
      }

    pub row_ends : (slices : List (Bor (List ℕ))) (plain c : Bool) → raw_of slices ≡ noted count w ts → PlainItem w plain
        → c ≡ ((known || plain) || convertible (halved false w)) → g ≡ false → RowIs f at known (record { raw = slices }) (size + m) (count + 1) (good && c)
    row_ends slices plain c e d o h = ends (raw_of slices) plain c e d o h (record { raw = slices }) refl

-- ---- rows in turn
module _ (f : List ℕ) (at : ℕ) (known : Bool) (r : RowItems) (size count : ℕ) (good : Bool) (P : RowIs f at known r size count good) where
  pub row-lines : lines_in (cut (drop at f)) ≡ record { items = P.items; size = size } ∷ lines_in (cut (drop (at + size) f))
  unfolding lines_in
  row-lines = ap lines_in P.is

  pub row-unbroken : is_broken (cut (drop at f)) ≡ is_broken (cut (drop (at + size) f))
  unfolding is_broken
  row-unbroken = ap is_broken P.is

pub row-broken : (f : List ℕ) (at : ℕ) → cut (drop at f) ≡ broken → (lines_in (cut (drop at f)) ≡ []) × (is_broken (cut (drop at f)) ≡ true)
unfolding lines_in is_broken
row-broken f at h = (ap lines_in h, ap is_broken h)

pub rows_end : (f : List ℕ) (at : ℕ) → length f ≤ at → (lines_in (cut (drop at f)) ≡ []) × (is_broken (cut (drop at f)) ≡ false)
unfolding lines_in is_broken cut lines_at
rows_end f at h = let e = over f at h in (ap (λ (s : List ℕ). lines_in (cut s)) e, ap (λ (s : List ℕ). is_broken (cut s)) e)
