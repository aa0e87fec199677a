-- The laws of the table: its hash, its slots in turn, and what is kept when a place more is. Assumes nothing.
use mathlib.Core.Path.{◌≡◌, refl, sym, ap, ◌∙◌}
use mathlib.Core.Bool.{Bool, true, false, cond, not, ◌&&◌}
use mathlib.Core.List.{List, [], ◌∷◌}
use Prim.Native.Nat.{ℕ, zero, suc, ◌+◌, ◌-◌, ◌*◌, ◌%◌, ◌≤◌, ◌<◌}
use native.Mathlib.Omega.{arith}
use native.Mathlib.Nat.{mod-lt}
use borrow.Author.Tests.{ltb-true, ltb-false, eqb-true, eqb-false, eq-eqb, ne_eqb, lt-ltb, le-ltb}
use lib.Dec.{eqb, ltb}
use lib.ListN.{length, get_or, drop, set, replicate, length-set}
use lib.Seq.{get_or-set_same, get_or-set_other}
use Rattle.std.specs.Prelude.{Option, None, Some, MatchOption, IsSome}
use Rattle.rules.specs.Lists.{nth, same, any}
use Rattle.rules.proofs.Logic.{cases, never}
use Rattle.rules.proofs.Lists.{here, over, any-nil, same-eq}
use Rattle.csv_rules.specs.Quote.{Items, broken, cut}
use Rattle.csv_rules.specs.Written.{halved}
use Rattle.csv_rules.specs.Columns.{number_of}
use Rattle.csv_rows.specs.declared.RowItems.{RowItems}
use Rattle.csv_rows.specs.Rows.{raw_items, items_of, RowIs}
use Rattle.csv_rows.proofs.Laws.{item-half, row-lines, row-broken, rows_end}
use Rattle.csv_rows.proofs.Tied.{tied-number}
use Rattle.csv_places.specs.declared.Slot.{Slot}
use Rattle.csv_places.specs.declared.Slot.TheVariants.{Held, Free, Crowded}
use Rattle.csv_places.specs.Places.{items_at, stirred, hash_from, hash_of, place_in, mark_in, slot_filled, slot_of, slot_after, kept, number_at, known_number, RowThere, Places, SlotIs, keeps_place, with_place}
use Rattle.csv_places.specs.Slots.{Nothing, free_slot}

-- ---- the hash of an item as it lies in the file
pub hash-starts : (s : List ℕ) → hash_of (halved false s) ≡ hash_from 0 (halved false (drop 0 s))
unfolding hash_of
hash-starts s = refl

hash-one : (h b : ℕ) (second : Bool) (s : List ℕ)
    → hash_from h (halved second (b ∷ s)) ≡ hash_from (cond second h (stirred h b)) (halved (not second && eqb b 0x22) s)
unfolding hash_from halved
hash-one h b true s = refl
hash-one h b false s = refl

module _ (s : List ℕ) (h i : ℕ) (second : Bool) (inv : hash_of (halved false s) ≡ hash_from h (halved second (drop i s))) where
  pub hash-on : i < length s → (k : ℕ) → k ≡ cond second h (stirred h (get_or s i 0))
      → hash_of (halved false s) ≡ hash_from k (halved (not second && eqb (get_or s i 0) 0x22) (drop (i + 1) s))
  hash-on l k e =
      inv ∙ ap (λ (x : List ℕ). hash_from h (halved second x)) (here 0 s i l) ∙ hash-one h (get_or s i 0) second (drop (i + 1) s)
      ∙ ap (λ (x : ℕ). hash_from x (halved (not second && eqb (get_or s i 0) 0x22) (drop (i + 1) s))) (sym e)

  pub hash-ends : length s ≤ i → h ≡ hash_of (halved false s)
  unfolding hash_from halved
  hash-ends l = sym (inv ∙ ap (λ (x : List ℕ). hash_from h (halved second x)) (over s i l) ∙ cases second (λ e. rw e) (λ e. rw e))

pub byte-first : (h b w : ℕ) (second : Bool) → second ≡ false → w ≡ b → ((h + w) * 2654435769) % 4294967296 ≡ cond second h (stirred h b)
unfolding stirred
byte-first h b w second e q = rw (e, q)

pub byte_small : (n : ℕ) → n % 4294967296 < 4294967296
byte_small n = mod-lt n (omega arith)

-- ---- the slot behind one
pub slot-first : (i : ℕ) → i ≡ 32767 → 0 ≡ slot_after i
unfolding slot_after
slot-first i h = rw (eq-eqb i 32767 h)

pub slot_next : (i : ℕ) → (i ≡ 32767 → ⊥) → i + 1 ≡ slot_after i
unfolding slot_after
slot_next i h = rw (ne_eqb i 32767 h)

pub slot-below : (i : ℕ) → i < 32768 → (i ≡ 32767 → ⊥) → i + 1 < 32768
slot-below i h n = omega arith

-- ---- a slot filled
module _ (T : List ℕ) (s p m : ℕ) where
  pub filled-many : length (slot_filled T s p m) ≡ length T
  unfolding slot_filled
  filled-many = simp length-set

  pub filled-other : (i : ℕ) → (i ≡ s → ⊥) → (place_in (slot_filled T s p m) i ≡ place_in T i) × (mark_in (slot_filled T s p m) i ≡ mark_in T i)
  unfolding slot_filled
  filled-other i h = (
    get_or-set_other (set T (2 * s) p) (2 * s + 1) (2 * i) m 0 (λ e. omega arith) ∙ get_or-set_other T (2 * s) (2 * i) p 0 (λ e. h (omega arith)),
    get_or-set_other (set T (2 * s) p) (2 * s + 1) (2 * i + 1) m 0 (λ e. h (omega arith)) ∙ get_or-set_other T (2 * s) (2 * i + 1) p 0 (λ e. omega arith),
  )

  pub filled-place : 2 * s < length T → place_in (slot_filled T s p m) s ≡ p
  unfolding slot_filled
  filled-place h = get_or-set_other (set T (2 * s) p) (2 * s + 1) (2 * s) m 0 (λ e. omega arith) ∙ get_or-set_same T (2 * s) p 0 h

  pub filled-mark : 2 * s + 1 < length T → mark_in (slot_filled T s p m) s ≡ m
  unfolding slot_filled
  filled-mark h = get_or-set_same (set T (2 * s) p) (2 * s + 1) m 0 (simp length-set h)

-- ---- the places kept from a slot on
-- a free slot ends them, a place is the first of them
kept_free : (T : List ℕ) (i n : ℕ) → place_in T i ≡ 0 → kept T i n ≡ []
unfolding kept
kept_free T i zero h = refl
kept_free T i (suc n) h = rw (eq-eqb (place_in T i) 0 h, kept)

kept_more : (T : List ℕ) (i n : ℕ) → (place_in T i ≡ 0 → ⊥) → kept T i (suc n) ≡ place_in T i ∷ kept T (slot_after i) n
unfolding kept
kept_more T i n h = rw (ne_eqb (place_in T i) 0 h, kept)

any_here : {A : Type 0} (t : A → Bool) (x : A) (s : List A) → t x ≡ true → any t (x ∷ s) ≡ true
unfolding any
any_here t x s h = rw (h, any)

any-there : {A : Type 0} (t : A → Bool) (x : A) (s : List A) → any t s ≡ true → any t (x ∷ s) ≡ true
unfolding any
any-there t x s h = cases (t x) (λ e. rw (e, any)) (λ e. rw (e, any) h)

any-past : {A : Type 0} (t : A → Bool) (x : A) (s : List A) → t x ≡ false → any t (x ∷ s) ≡ any t s
unfolding any
any-past t x s h = rw (h, any)

-- what is met among them is met when a free slot is filled
module _ (t : ℕ → Bool) (T : List ℕ) (s p m : ℕ) (free : place_in T s ≡ 0) where
  entry-stays : (i : ℕ) → (place_in T i ≡ 0 → ⊥) → place_in (slot_filled T s p m) i ≡ place_in T i
  entry-stays i h = (filled-other T s p m i (λ e. h (ap (place_in T) e ∙ free))).0

  more_stays : (i n : ℕ) → (place_in T i ≡ 0 → ⊥) → kept (slot_filled T s p m) i (suc n) ≡ place_in T i ∷ kept (slot_filled T s p m) (slot_after i) n
  more_stays i n h =
      let e = entry-stays i h in
      kept_more (slot_filled T s p m) i n (λ z. h (sym e ∙ z)) ∙ ap (λ (x : ℕ). x ∷ kept (slot_filled T s p m) (slot_after i) n) e

  kept-stays : (i n : ℕ) → any t (kept T i n) ≡ true → any t (kept (slot_filled T s p m) i n) ≡ true
  unfolding kept
  kept-stays i zero h = h
  kept-stays i (suc n) h =
      cases (eqb (place_in T i) 0)
      (λ e. never (sym h ∙ ap (any t) (kept_free T i (suc n) (eqb-true (place_in T i) 0 e)) ∙ any-nil t))
      (λ e.
      let k = eqb-false (place_in T i) 0 e in
      ap (any t) (more_stays i n k)
      ∙ cases (t (place_in T i))
      (λ w. any_here t (place_in T i) (kept (slot_filled T s p m) (slot_after i) n) w)
      (λ w.
      any-there t (place_in T i) (kept (slot_filled T s p m) (slot_after i) n)
      (kept-stays (slot_after i) n (sym (any-past t (place_in T i) (kept T (slot_after i) n) w) ∙ sym (ap (any t) (kept_more T i n k)) ∙ h))))

-- ---- what is known
pub known-stays : (f places : List ℕ) (r : Items) (i p mark : ℕ) → place_in places i ≡ 0 → known_number f places r ≡ true → known_number f (slot_filled places i p mark) r ≡ true
unfolding known_number
known-stays f places r i p mark free h = kept-stays (number_at f r) places i p mark free (slot_of (number_of r)) 256 h

pub known_same : (f places : List ℕ) (r q : Items) → number_of r ≡ number_of q → known_number f places r ≡ known_number f places q
unfolding known_number
known_same f places r q e = ap (λ (n : List ℕ). any (λ (p : ℕ). same n (number_of (items_at f p))) (kept places (slot_of n) 256)) e

-- ---- rows at places
pub items-there : (f : List ℕ) (p : ℕ) (T : RowThere f p) → items_at f p ≡ T.row.items
unfolding items_at
items-there f p T = rw (T.is, items_at)

pub row_inside : (f : List ℕ) (p : ℕ) → RowThere f p → p < length f
row_inside f p T =
    cases (ltb p (length f)) (λ e. ltb-true p (length f) e)
    (λ e. absurd (omega (arith, ap length (sym (rows_end f p (ltb-false p (length f) e)).0 ∙ T.is))))

-- the row that is read there
module _ (f : List ℕ) (p : ℕ) (T : RowThere f p) where
  pub row-some : {A : Type 0} (o : Option A) (Q : A → Type 0) → MatchOption o (cut (drop p f) ≡ broken) Q → IsSome o
  row-some None Q z = absurd (omega (arith, ap length (sym (row-broken f p z).0 ∙ T.is)))
  row-some (Some x) Q z = refl

  module _ (q : RowItems) (size n : ℕ) (good : Bool) (R : RowIs f p true q size n good) where
    row-items : items_at f p ≡ R.items
    unfolding items_at
    row-items = rw (row-lines f p true q size n good R, items_at)

    pub number_is_lem : (r : Items) (t : Bool) → t ≡ same (number_of r) (number_of (items_of q)) → t ≡ number_at f r p
    number_is_lem r t e = e ∙ ap (same (number_of r)) (tied-number q R.items R.lies ∙ sym (ap number_of row-items))

-- ---- the table, empty and with a place more
nothing-in : (n i : ℕ) → get_or {A = ℕ} (replicate n 0) i 0 ≡ 0
nothing-in zero i = refl
nothing-in (suc n) zero = refl
nothing-in (suc n) (suc i) = nothing-in n i

pub nothing-kept : (n : ℕ) → Nothing (replicate n 0)
nothing-kept n = record { none = nothing-in n }

-- a number whose hash differs is another
pub mark-other : (f : List ℕ) (r : Items) (p mark hash : ℕ) → mark ≡ hash_of (number_of (items_at f p)) → hash ≡ hash_of (number_of r) → (mark ≡ hash → ⊥) → false ≡ number_at f r p
mark-other f r p mark hash e k h =
    cases (number_at f r p)
    (λ w. absurd (h (e ∙ sym (k ∙ ap hash_of (same-eq (number_of r) (number_of (items_at f p)) w)))))
    (λ w. sym w)

-- ---- the look from slot to slot
-- left slots are to be looked at; in those before stands no place with the number, and a place put in a free slot from here on is found
pub record Looking (f T : List ℕ) (r : Items) (slot left : ℕ) : Type 0 where
  pub same : known_number f T r ≡ any (number_at f r) (kept T slot left)
  pub then : (i p mark : ℕ) → place_in T i ≡ 0 → any (number_at f r) (kept (slot_filled T i p mark) slot left) ≡ true → known_number f (slot_filled T i p mark) r ≡ true
  pub few : left ≤ 256
  pub first : left ≡ 256 → slot ≡ slot_of (number_of r)
  pub taken : left < 256 → place_in T (slot_of (number_of r)) ≡ 0 → ⊥

pub hash-here : (r : RowItems) (raw : List ℕ) (h : ℕ) → raw ≡ nth (raw_items r) 6 → h ≡ hash_of (halved false raw) → h ≡ hash_of (number_of (items_of r))
unfolding number_of
hash-here r raw h e k = k ∙ ap (λ (x : List ℕ). hash_of (halved false x)) e ∙ ap hash_of (sym (item-half r 6))

pub slot_small : (h : ℕ) → h % 32768 < 32768
slot_small h = mod-lt h (omega arith)

pub look-starts : (f T : List ℕ) (r : Items) (h : ℕ) → h ≡ hash_of (number_of r) → Looking f T r (h % 32768) 256
unfolding known_number slot_of
look-starts f T r h e =
    let q : h % 32768 ≡ slot_of (number_of r) = ap (λ (n : ℕ). n % 32768) e in
    record { same = rw q; then = λ i p m z a. rw q at a; few = omega arith; first = λ z. q; taken = λ z. absurd (omega arith) }

left-more : (left : ℕ) → 0 < left → left ≡ suc (left - 1)
left-more left h = omega arith

module _ (f T : List ℕ) (slot p : ℕ) (is : p ≡ place_in T slot) (P : Places f T) (some : p ≡ 0 → ⊥) where
  pub place-row : RowThere f p
  place-row = rw is (P.rows slot (λ z. some (is ∙ z)))

  pub place-mark : (m : ℕ) → m ≡ mark_in T slot → m ≡ hash_of (number_of (items_at f p))
  place-mark m e = e ∙ P.marks slot (λ z. some (is ∙ z)) ∙ ap (λ (n : ℕ). hash_of (number_of (items_at f n))) (sym is)

module _ (f T : List ℕ) (r : Items) (slot seen : ℕ) (L : Looking f T r slot (256 - seen)) where
  abbrev left : ℕ
  left = 256 - seen

  pub look-ends : 256 ≤ seen → SlotIs f T r Crowded
  unfolding SlotIs kept any
  look-ends h = let e : left ≡ 0 = omega arith in record { unknown = L.same ∙ rw e; taken = L.taken (omega arith) }

  module _ (b : seen < 256) (p : ℕ) (is : p ≡ place_in T slot) where
    h : 0 < left
    h = omega arith

    pub look-free : Places f T → slot < 32768 → p ≡ 0 → SlotIs f T r (Free slot)
    unfolding SlotIs
    look-free P l o =
        let e : place_in T slot ≡ 0 = sym is ∙ o in
        record {
          place = l;
          is = e;
          unknown = L.same ∙ ap (any (number_at f r)) (kept_free T slot left e) ∙ any-nil (number_at f r);
          then = λ q m n w.
              let g : place_in (slot_filled T slot q m) slot ≡ q = filled-place T slot q m (omega (arith, P.many)) in
              L.then slot q m e
              (ap (λ (k : ℕ). any (number_at f r) (kept (slot_filled T slot q m) slot k)) (left-more left h)
              ∙ ap (any (number_at f r)) (kept_more (slot_filled T slot q m) slot (left - 1) (λ z. n (sym g ∙ z)))
              ∙ any_here (number_at f r) (place_in (slot_filled T slot q m) slot) (kept (slot_filled T slot q m) (slot_after slot) (left - 1)) (ap (number_at f r) g ∙ w));
        }

    module _ (some : p ≡ 0 → ⊥) where
      taken_here : place_in T slot ≡ 0 → ⊥
      taken_here z = some (is ∙ z)

      look_one : known_number f T r ≡ any (number_at f r) (p ∷ kept T (slot_after slot) (left - 1))
      look_one =
          L.same ∙ ap (λ (m : ℕ). any (number_at f r) (kept T slot m)) (left-more left h)
          ∙ ap (any (number_at f r)) (kept_more T slot (left - 1) taken_here ∙ ap (λ (x : ℕ). x ∷ kept T (slot_after slot) (left - 1)) (sym is))

      module _ (t : Bool) (e : t ≡ number_at f r p) where
        pub look-held : t ≡ true → SlotIs f T r (Held p)
        unfolding SlotIs
        look-held w = record {
          slot = slot;
          is = sym is;
          some = some;
          number = sym e ∙ w;
          knows = look_one ∙ any_here (number_at f r) p (kept T (slot_after slot) (left - 1)) (sym e ∙ w);
        }

        one_less : t ≡ false → (k : ℕ) → k ≡ slot_after slot → Looking f T r k (left - 1)
        one_less w k q = record {
          same = look_one ∙ any-past (number_at f r) p (kept T (slot_after slot) (left - 1)) (sym e ∙ w) ∙ rw q;
          then = λ i x m z a.
              L.then i x m z
              (ap (λ (n : ℕ). any (number_at f r) (kept (slot_filled T i x m) slot n)) (left-more left h)
              ∙ ap (any (number_at f r)) (more_stays (number_at f r) T i x m z slot (left - 1) taken_here)
              ∙ any-there (number_at f r) (place_in T slot) (kept (slot_filled T i x m) (slot_after slot) (left - 1)) (rw q at a));
          few = omega (arith, L.few);
          first = λ z. absurd (omega (arith, L.few));
          taken = λ z. cases (eqb left 256) (λ y. rw (← L.first (eqb-true left 256 y)) taken_here) (λ y. L.taken (omega (arith, L.few, eqb-false left 256 y)));
        }

        pub look-on : t ≡ false → (k : ℕ) → k ≡ slot_after slot → Looking f T r k (256 - (seen + 1))
        look-on w k q = let z : 256 - (seen + 1) ≡ left - 1 = omega arith in rw z (one_less w k q)

-- ---- a place kept
pub slot-inside : (f places : List ℕ) (r : Items) (s : Slot) → SlotIs f places r s → free_slot s < 32768
unfolding SlotIs free_slot
slot-inside f places r (Held p) S = omega arith
slot-inside f places r (Free i) S = S.place
slot-inside f places r Crowded S = omega arith

module _ (s : Slot) (i : ℕ) (e : s ≡ Free i) where
  pub free-inside : free_slot s < 32768 → i < 32768
  unfolding free_slot
  free-inside h = rw e at h

  module _ (at : ℕ) where
    pub kept_low : at < 4294967296 → true ≡ keeps_place s at
    unfolding keeps_place
    kept_low h = rw (e, lt-ltb at 4294967296 h)

    pub kept_high : 4294967296 ≤ at → false ≡ keeps_place s at
    unfolding keeps_place
    kept_high h = rw (e, le-ltb at 4294967296 h)

    pub with-low : (places after : List ℕ) (hash : ℕ) → at < 4294967296 → after ≡ slot_filled places i at hash → after ≡ with_place places s at hash
    unfolding with_place
    with-low places after hash h q = q ∙ rw (e, lt-ltb at 4294967296 h)

    pub with-high : (places : List ℕ) (hash : ℕ) → 4294967296 ≤ at → places ≡ with_place places s at hash
    unfolding with_place
    with-high places hash h = rw (e, le-ltb at 4294967296 h)
