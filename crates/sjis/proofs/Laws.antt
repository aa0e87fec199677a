-- The laws of one character, and of a walk over an item as it lies in the file. Assumes nothing.
use mathlib.Core.Path.{◌≡◌, refl, sym, ap, ◌∙◌}
use mathlib.Core.Bool.{Bool, true, false, not, ◌&&◌}
use mathlib.Core.List.{List, [], ◌∷◌}
use mathlib.Core.Option.{none}
use Prim.Native.Nat.{ℕ, ◌+◌, ◌≤◌, ◌<◌}
use native.Mathlib.Omega.{arith}
use borrow.Author.Tests.{lt-leb, leb-true, eq-eqb, ne_eqb, eqb-true, ltb-true, ltb-false, not-true, not-false}
use lib.Dec.{eqb, leb, ltb}
use lib.ListN.{length, get_or, drop}
use Rattle.rules.specs.Lists.{all}
use Rattle.rules.specs.Shift.{within}
use Rattle.rules.proofs.Logic.{cases, both, never}
use Rattle.rules.proofs.Lists.{here, over}
use Rattle.csv_rules.specs.Kanji.{lead, trail, is_pair, one, pair, characters_at, characters, good_character, convertible}
use Rattle.csv_rules.specs.Written.{halved}
use Rattle.sjis.specs.Texts.{pair_at}
use Rattle.sjis.specs.Items.{is_clear, NextAt, PastAt, char_at}

-- ---- a byte at a place
two_here : (s : List ℕ) (i j : ℕ) → j ≡ i + 1 → j < length s → drop i s ≡ get_or s i 0 ∷ (get_or s j 0 ∷ drop (i + 2) s)
two_here s i j e h =
    let q : j + 1 ≡ i + 2 = omega arith in
    here 0 s i (omega arith) ∙ ap (λ (l : List ℕ). get_or s i 0 ∷ l) (ap (λ (n : ℕ). drop n s) (sym e) ∙ here 0 s j h ∙ ap (λ (n : ℕ). get_or s j 0 ∷ drop n s) q)

last-here : (s : List ℕ) (i j : ℕ) → j ≡ i + 1 → i < length s → length s ≤ j → drop i s ≡ get_or s i 0 ∷ []
last-here s i j e h k = here 0 s i h ∙ ap (λ (l : List ℕ). get_or s i 0 ∷ l) (over s (i + 1) (omega arith))

half-here : (b : ℕ) (s : List ℕ) → eqb b 0x22 ≡ false → halved false (b ∷ s) ≡ b ∷ halved false s
unfolding halved
half-here b s e = rw e

half-last : (b : ℕ) → halved false (b ∷ []) ≡ b ∷ halved false []
unfolding halved
half-last b = cases (eqb b 0x22) (λ e. rw e) (λ e. rw e)

half-two : (b t : ℕ) (s : List ℕ) → eqb b 0x22 ≡ true → halved false (b ∷ (t ∷ s)) ≡ b ∷ halved false s
unfolding halved
half-two b t s e = rw (e, halved)

module _ (s : List ℕ) (i j : ℕ) (h : i < length s) (e : j ≡ i + 1) where
  pub next_last : length s ≤ j → NextAt s i j
  next_last l = record {
    low = omega arith;
    high = omega arith;
    is = ap (halved false) (last-here s i j e h l) ∙ half-last (get_or s i 0) ∙ ap (λ (w : List ℕ). get_or s i 0 ∷ halved false w) (sym (over s j l));
  }

  pub next-two : j < length s → get_or s i 0 ≡ 0x22 → NextAt s i (i + 2)
  next-two l q = record {
    low = omega arith;
    high = omega arith;
    is = ap (halved false) (two_here s i j e l) ∙ half-two (get_or s i 0) (get_or s j 0) (drop (i + 2) s) (eq-eqb (get_or s i 0) 0x22 q);
  }

  next-single : eqb (get_or s i 0) 0x22 ≡ false → NextAt s i j
  next-single q = record {
    low = omega arith;
    high = omega arith;
    is =
        ap (halved false) (here 0 s i h) ∙ half-here (get_or s i 0) (drop (i + 1) s) q
        ∙ ap (λ (n : ℕ). get_or s i 0 ∷ halved false (drop n s)) (sym e);
  }

  pub next_one : (get_or s i 0 ≡ 0x22 → ⊥) → NextAt s i j
  next_one q = next-single (ne_eqb (get_or s i 0) 0x22 q)

-- ---- a character at a place
char-pair : (b t : ℕ) (s : List ℕ) → lead b ≡ true → characters_at none (b ∷ (t ∷ s)) ≡ pair b t ∷ characters_at none s
unfolding characters_at
char-pair b t s e = rw (e, characters_at)

char-one : (b : ℕ) (s : List ℕ) → lead b ≡ false → characters_at none (b ∷ s) ≡ one b ∷ characters_at none s
unfolding characters_at
char-one b s e = rw (e, characters_at)

char-lone : (b : ℕ) → characters_at none (b ∷ []) ≡ one b ∷ characters_at none []
unfolding characters_at
char-lone b = cases (lead b) (λ e. rw (e, characters_at)) (λ e. rw (e, characters_at))

-- a lead byte is no quote, and what stands alone is no lead
lead-no-quote : (b : ℕ) → lead b ≡ true → eqb b 0x22 ≡ false
lead-no-quote b h = cases (eqb b 0x22) (λ e. let q : lead 0x22 ≡ true = ap (λ (x : ℕ). lead x) (sym (eqb-true b 0x22 e)) ∙ h in never (sym q)) (λ e. e)

low-no-lead : (b : ℕ) → within 0x20 0x7E b ≡ true → lead b ≡ false
low-no-lead b h =
    let k : b ≤ 0x7E = leb-true b 0x7E (both (leb 0x20 b) (leb b 0x7E) h).1 in
    rw (lt-leb 0x81 b (omega arith), lt-leb 0xE0 b (omega arith))

pair-in : (s : List ℕ) (i : ℕ) → pair_at s i ≡ true → (lead (get_or s i 0) ≡ true) × (i + 1 < length s)
unfolding pair_at
pair-in s i h = let w = both (lead (get_or s i 0)) (ltb (i + 1) (length s)) h in (w.0, ltb-true (i + 1) (length s) w.1)

module _ (s : List ℕ) (i : ℕ) (q : Bool) (h : i < length s) (f : q ≡ pair_at s i) where
  pub past-pair : (j r : ℕ) → q ≡ true → j ≡ i + 1 → NextAt s j r → PastAt s i r
  unfolding char_at
  past-pair j r g e n =
      let p : pair_at s i ≡ true = sym f ∙ g in
      let w = pair-in s i p in
      record {
        low = omega (arith, n.low);
        high = n.high;
        is =
            ap (λ (z : List ℕ). characters_at none (halved false z)) (here 0 s i h)
            ∙ ap (characters_at none) (half-here (get_or s i 0) (drop (i + 1) s) (lead-no-quote (get_or s i 0) w.0)
            ∙ ap (λ (k : ℕ). get_or s i 0 ∷ halved false (drop k s)) (sym e) ∙ ap (λ (z : List ℕ). get_or s i 0 ∷ z) n.is)
            ∙ char-pair (get_or s i 0) (get_or s j 0) (halved false (drop r s)) w.0
            ∙ rw (p, e);
      }

  pub past_one : (r : ℕ) → q ≡ false → NextAt s i r → PastAt s i r
  unfolding char_at pair_at halved
  past_one r g n =
      let p : (lead (get_or s i 0) && ltb (i + 1) (length s)) ≡ false = sym f ∙ g in
      record {
        low = n.low;
        high = n.high;
        is =
            ap (characters_at none) n.is
            ∙ cases (lead (get_or s i 0))
            (λ z.
            let l : length s ≤ i + 1 = ltb-false (i + 1) (length s) (rw z at p) in
            let o : drop r s ≡ [] = over s r (omega (arith, n.low)) in
            rw (p, o) (char-lone (get_or s i 0)))
            (λ z. rw p (char-one (get_or s i 0) (halved false (drop r s)) z));
      }

  pub good-pair : (j : ℕ) (t : Bool) → q ≡ true → j ≡ i + 1 → t ≡ trail (get_or s j 0) → t ≡ good_character (char_at s i)
  unfolding char_at good_character is_pair
  good-pair j t g e o = let p : pair_at s i ≡ true = sym f ∙ g in rw (p, (pair-in s i p).0, ← e) o

  pub good-one : (t : Bool) → q ≡ false → t ≡ within 0x20 0x7E (get_or s i 0) → t ≡ good_character (char_at s i)
  unfolding char_at good_character
  good-one t g o = let p : pair_at s i ≡ false = sym f ∙ g in rw p o

  pub pair_inside : (j : ℕ) → q ≡ true → j ≡ i + 1 → j < length s
  pair_inside j g e = let w = pair-in s i (sym f ∙ g) in omega (arith, w.1)

-- a byte that stands alone and isn't doubled is a character, and no pair
module _ (s : List ℕ) (i : ℕ) (h : is_clear (get_or s i 0) ≡ true) where
  clear-parts : (within 0x20 0x7E (get_or s i 0) ≡ true) × (not (eqb (get_or s i 0) 0x22) ≡ true)
  unfolding is_clear
  clear-parts = both (within 0x20 0x7E (get_or s i 0)) (not (eqb (get_or s i 0) 0x22)) h

  pub clear-no-pair : pair_at s i ≡ false
  unfolding pair_at
  clear-no-pair = rw (low-no-lead (get_or s i 0) clear-parts.0)

  pub clear-past : i < length s → PastAt s i (i + 1)
  clear-past l = past_one s i false l (sym clear-no-pair) (i + 1) refl (next-single s i (i + 1) l refl (not-true (eqb (get_or s i 0) 0x22) clear-parts.1))

  clear-good : i < length s → true ≡ good_character (char_at s i)
  clear-good l = good-one s i false l (sym clear-no-pair) true refl (sym clear-parts.0)

-- ---- 52
abbrev pub good_all : List ℕ → ℕ → Bool
good_all s i = all good_character (characters_at none (halved false (drop i s)))

pub good-starts : (s : List ℕ) → convertible (halved false s) ≡ good_all s 0
unfolding convertible characters
good-starts s = refl

module _ (s : List ℕ) (i : ℕ) (inv : convertible (halved false s) ≡ good_all s i) where
  pub good-ends : length s ≤ i → true ≡ convertible (halved false s)
  unfolding characters_at all halved
  good-ends h = sym (inv ∙ rw (over s i h))

  module _ (r : ℕ) (t : Bool) (e : t ≡ good_character (char_at s i)) where
    pub good-on : PastAt s i r → not t ≡ false → convertible (halved false s) ≡ good_all s r
    unfolding all
    good-on p g = inv ∙ ap (all good_character) p.is ∙ rw (← e, not-false t g, all)

    pub good-bad : PastAt s i r → not t ≡ true → false ≡ convertible (halved false s)
    unfolding all
    good-bad p g = sym (inv ∙ ap (all good_character) p.is ∙ rw (← e, not-true t g, all))

  pub clear-on : (q : Bool) → i < length s → q ≡ is_clear (get_or s i 0) → q ≡ true → convertible (halved false s) ≡ good_all s (i + 1)
  clear-on q h e g = let c : is_clear (get_or s i 0) ≡ true = sym e ∙ g in good-on (i + 1) true (clear-good s i c h) (clear-past s i c h) refl
