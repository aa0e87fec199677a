-- The laws of items that are seen to convert while their end is looked for. Assumes nothing.
use mathlib.Core.Path.{◌≡◌, refl, sym, ap, ◌∙◌}
use mathlib.Core.Bool.{Bool, true, false, not, ◌&&◌}
use mathlib.Core.List.{List, [], ◌∷◌}
use Prim.Native.Nat.{ℕ, suc, ◌+◌, ◌-◌, ◌≤◌, ◌<◌}
use native.Mathlib.Omega.{arith}
use borrow.Author.Tests.{lt-leb, leb-true, eqb-true, eq-eqb, ltb-true, ltb-false, not-true, not-false}
use lib.Dec.{eqb, leb, ltb}
use lib.ListN.{length, get_or, take, drop, get_or-eq_default}
use lib.Pointwise.{pointwise}
use lib.Seq.{drop-drop, get_or-drop}
use Rattle.rules.specs.Lists.{all}
use Rattle.rules.specs.Shift.{within}
use Rattle.rules.proofs.Logic.{cases, both, never, and-true, eqb-sym}
use Rattle.rules.proofs.Lists.{here, over, rest-is}
use Rattle.csv_rules.specs.Quote.{Comma, Quote, broken, lines_at}
use Rattle.csv_rules.specs.Kanji.{lead, characters_at, characters, good_character, convertible}
use Rattle.csv_rules.specs.Written.{halved}
use Rattle.sjis.specs.Items.{is_clear}
use Rattle.csv_rows.specs.Plain.{plain_at, comma_at, PlainItem}
use Rattle.csv_rows.specs.Rows.{closing_at, quote_first, BehindAt, ItemAt}
use Rattle.csv_rows.proofs.Items.{close-plain, close-stop, half-plain, behind-comma, item-open, item-fine, item-bad}

-- ---- a byte
clear-parts : (b : ℕ) → is_clear b ≡ true → (within 0x20 0x7E b ≡ true) × (eqb b 0x22 ≡ false)
unfolding is_clear
clear-parts b h = let w = both (within 0x20 0x7E b) (not (eqb b 0x22)) h in (w.0, not-true (eqb b 0x22) w.1)

low-no-lead : (b : ℕ) → within 0x20 0x7E b ≡ true → lead b ≡ false
low-no-lead b h =
    let k : b ≤ 0x7E = leb-true b 0x7E (both (leb 0x20 b) (leb b 0x7E) h).1 in
    rw (lt-leb 0x81 b (omega arith), lt-leb 0xE0 b (omega arith))

clear-converts : (b : ℕ) (s : List ℕ) → is_clear b ≡ true → convertible (b ∷ s) ≡ convertible s
unfolding convertible characters characters_at all good_character
clear-converts b s h =
    let w = clear-parts b h in
    let n = low-no-lead b w.0 in
    rw (n, characters_at, all, good_character, w.0)

-- ---- where the plain bytes end
plain-some : (b : ℕ) (s : List ℕ) → is_clear b ≡ true → plain_at (b ∷ s) ≡ suc (plain_at s)
unfolding plain_at
plain-some b s e = rw (e, plain_at)

plain-none : (b : ℕ) (s : List ℕ) → is_clear b ≡ false → plain_at (b ∷ s) ≡ 0
unfolding plain_at
plain-none b s e = rw (e, plain_at)

module _ (f : List ℕ) (r i : ℕ) (inv : r ≡ i + plain_at (drop i f)) where
  pub plain_over : length f ≤ i → i ≡ r
  unfolding plain_at
  plain_over h = let q : plain_at (drop i f) ≡ 0 = rw (over f i h) in omega arith

  module _ (q : Bool) (h : i < length f) (e : q ≡ is_clear (get_or f i 0)) where
    pub plain-on : not q ≡ false → r ≡ (i + 1) + plain_at (drop (i + 1) f)
    plain-on g =
        omega (
          arith,
          inv ∙ ap (λ (s : List ℕ). i + plain_at s) (here 0 f i h),
          plain-some (get_or f i 0) (drop (i + 1) f) (sym e ∙ not-false q g),
        )

    pub plain-stop : not q ≡ true → i ≡ r
    plain-stop g =
        omega (
          arith,
          inv ∙ ap (λ (s : List ℕ). i + plain_at s) (here 0 f i h),
          plain-none (get_or f i 0) (drop (i + 1) f) (sym e ∙ not-true q g),
        )

-- ---- plain bytes close no item, and convert
past-at : (s : List ℕ) (n m : ℕ) → n ≡ m → n + closing_at false (drop n s) ≡ m + closing_at false (drop m s)
past-at s n m e = ap (λ (k : ℕ). k + closing_at false (drop k s)) e

closes-past : (s : List ℕ) → closing_at false s ≡ plain_at s + closing_at false (drop (plain_at s) s)
unfolding plain_at closing_at
closes-past [] = omega arith
closes-past (b ∷ s) =
    cases (is_clear b)
    (λ e. omega (arith, close-plain b s (clear-parts b e).1, closes-past s, past-at (b ∷ s) (plain_at (b ∷ s)) (suc (plain_at s)) (plain-some b s e)))
    (λ e. omega (arith, past-at (b ∷ s) (plain_at (b ∷ s)) 0 (plain-none b s e)))

plain-converts : (s : List ℕ) → convertible (halved false (take (plain_at s) s)) ≡ true
unfolding plain_at convertible characters characters_at all halved
plain-converts [] = refl
plain-converts (b ∷ s) =
    cases (is_clear b)
    (λ e.
    ap (λ (n : ℕ). convertible (halved false (take n (b ∷ s)))) (plain-some b s e)
    ∙ ap convertible (half-plain b (take (plain_at s) s) (clear-parts b e).1)
    ∙ clear-converts b (halved false (take (plain_at s) s)) e ∙ plain-converts s)
    (λ e. ap (λ (n : ℕ). convertible (halved false (take n (b ∷ s)))) (plain-none b s e))

-- ---- an item whose first bytes are plain: p is where they end
module _ (f : List ℕ) (s p e : ℕ) (t : p ≡ s + plain_at (drop s f)) (c : e ≡ p + closing_at false (drop p f)) where
  end-past : e ≡ s + closing_at false (drop s f)
  end-past =
      let q : drop (plain_at (drop s f)) (drop s f) ≡ drop p f = drop-drop (plain_at (drop s f)) s f ∙ ap (λ (n : ℕ). drop n f) (sym t) in
      omega (arith, closes-past (drop s f) ∙ ap (λ (d : List ℕ). plain_at (drop s f) + closing_at false d) q)

  pub item-plain : PlainItem (take (e - s) (drop s f)) (eqb e p)
  item-plain = record {
    converts = λ h.
        let q : e - s ≡ plain_at (drop s f) = omega (arith, eqb-true e p h) in
        ap (λ (n : ℕ). convertible (halved false (take n (drop s f)))) q ∙ plain-converts (drop s f);
  }

module _ (f : List ℕ) (i : ℕ) (h : i < length f) (s b e : ℕ) (q : get_or f i 0 ≡ 0x22) (g : s ≡ i + 1)
    (t : b ≡ s + plain_at (drop s f)) (c : e ≡ b + closing_at false (drop b f)) where
  pub open-past : length f ≤ e → lines_at Comma (drop i f) ≡ broken
  open-past = item-open f i (omega arith) h s e q g (end-past f s b e t c)

  pub fine-past : e < length f → (n m : ℕ) (goes : Bool) → n ≡ e + 1 → BehindAt f n m goes → ItemAt f i (take (e - s) (drop s f)) (((e - s) + 2) + m) goes
  fine-past = item-fine f i (omega arith) h s e q g (end-past f s b e t c)

  pub bad-past : e < length f → (n : ℕ) → n ≡ e + 1 → lines_at Quote (drop n f) ≡ broken → lines_at Comma (drop i f) ≡ broken
  bad-past = item-bad f i (omega arith) h s e q g (end-past f s b e t c)

-- ---- plain bytes, or none, that a quote and a comma close
and_no : (a b : Bool) → b ≡ false → (a && b) ≡ false
and_no true b h = h
and_no false b h = refl

two_first : (s : List ℕ) → pointwise eqb (0x22 ∷ 0x2C ∷ []) (take 2 s) ≡ (eqb (get_or s 0 0) 0x22 && eqb (get_or s 1 0) 0x2C)
two_first [] = refl
two_first (b ∷ []) = rw (eqb-sym 0x22 b) (cases (eqb b 0x22) (λ e. rw e) (λ e. rw e))
two_first (b ∷ (t ∷ s)) = rw (eqb-sym 0x22 b, eqb-sym 0x2C t, and-true (eqb t 0x2C))

module _ (f : List ℕ) (p : ℕ) where
  too_short : length f ≤ p + 1 → comma_at f p ≡ false
  unfolding comma_at
  too_short h = and_no (eqb (get_or f p 0) 0x22) (eqb (get_or f (p + 1) 0) 0x2C) (ap (λ (b : ℕ). eqb b 0x2C) (get_or-eq_default f 0 h))

  pub comma-is : pointwise eqb (0x22 ∷ 0x2C ∷ []) (take 2 (take (length f - p) (drop p f))) ≡ comma_at f p
  unfolding comma_at
  comma-is =
      let z : p + 0 ≡ p = omega arith in
      rw (rest-is f p)
      (two_first (drop p f) ∙ rw (get_or-drop p f 0 0, get_or-drop p f 1 0, z))

  module _ (q : Bool) (e : q ≡ comma_at f p) (g : q ≡ true) where
    two_bytes : (get_or f p 0 ≡ 0x22) × (get_or f (p + 1) 0 ≡ 0x2C)
    unfolding comma_at
    two_bytes =
        let w = both (eqb (get_or f p 0) 0x22) (eqb (get_or f (p + 1) 0) 0x2C) (sym e ∙ g) in
        (eqb-true (get_or f p 0) 0x22 w.0, eqb-true (get_or f (p + 1) 0) 0x2C w.1)

    comma-in : p + 1 < length f
    comma-in =
        cases (ltb (p + 1) (length f)) (λ h. ltb-true (p + 1) (length f) h)
        (λ h. never (sym g ∙ e ∙ too_short (ltb-false (p + 1) (length f) h)))

    comma-first : quote_first (drop (p + 1) f) ≡ false
    unfolding quote_first
    comma-first = ap quote_first (here 0 f (p + 1) comma-in) ∙ ap (λ (b : ℕ). eqb b 0x22) two_bytes.1

    closes_here : p ≡ p + closing_at false (drop p f)
    closes_here =
        omega (
          arith,
          ap (closing_at false) (here 0 f p (omega (arith, comma-in))) ∙ close-stop (get_or f p 0) (drop (p + 1) f) (eq-eqb (get_or f p 0) 0x22 two_bytes.0) comma-first,
        )

    pub comma-item : (i s : ℕ) → i < length f → get_or f i 0 ≡ 0x22 → s ≡ i + 1 → p ≡ s + plain_at (drop s f) → ItemAt f i (take (p - s) (drop s f)) ((p - s) + 3) true
    comma-item i s h k o t =
        let b = behind-comma f (p + 1) (omega (arith, comma-in)) comma-first comma-in two_bytes.1 in
        let x : ((p - s) + 2) + 1 ≡ (p - s) + 3 = omega arith in
        rw x at (fine-past f i h s p p k o t closes_here (omega (arith, comma-in)) (p + 1) 1 true refl b)

pub comma-plain : (f : List ℕ) (s p : ℕ) → p ≡ s + plain_at (drop s f) → PlainItem (take (p - s) (drop s f)) true
comma-plain f s p t = record {
  converts = λ h.
      let q : p - s ≡ plain_at (drop s f) = omega arith in
      ap (λ (n : ℕ). convertible (halved false (take n (drop s f)))) q ∙ plain-converts (drop s f);
}
