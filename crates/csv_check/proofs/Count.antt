-- The laws of the column count. Assumes nothing.
use mathlib.Core.Path.{◌≡◌, refl, sym, ap, ◌∙◌}
use mathlib.Core.Bool.{Bool, true, false, not, and-false}
use mathlib.Core.List.{List, [], ◌∷◌}
use Prim.Native.Nat.{ℕ, ◌+◌, ◌-◌, ◌*◌, ◌≤◌, ◌<◌}
use native.Mathlib.Omega.{arith}
use borrow.Author.Tests.{lt-ltb, le-ltb, ltb-true, ltb-false, leb-true, le-leb, lt-leb, ne_eqb, not-true, not-false}
use lib.Dec.{eqb, ltb, leb}
use lib.ListN.{length, get_or, drop}
use Rattle.std.specs.Prelude.{None, Some}
use Rattle.std.proofs.lemmas.Option.{none-some, same_Some}
use Rattle.rules.specs.Lists.{empty, all}
use Rattle.rules.specs.Frame.{digit}
use Rattle.rules.proofs.Logic.{cases, never, both}
use Rattle.rules.proofs.Lists.{here, over}
use Rattle.csv_rules.specs.Count.{numeral, counts}
use Rattle.csv_rules.specs.Written.{halved}
use Rattle.csv_check.specs.Walk.{capped, with_digit, ColumnsAre}

-- ---- a number as far as the code counts
abbrev top : ℕ
top = 10000000000000000000

capped-high : (n : ℕ) → top ≤ n → capped n ≡ top
unfolding capped
capped-high n h = rw (le-ltb n top h)

capped_cases : {P : Type 0} (n : ℕ) → (n < top → capped n ≡ n → P) → (top ≤ n → capped n ≡ top → P) → P
unfolding capped
capped_cases n f g =
    cases (ltb n top) (λ e. f (ltb-true n top e) (rw e)) (λ e. let h = ltb-false n top e in g h (capped-high n h))

-- numbers that are equal so far: equal, or both too large
same_capped : {P : Type 0} (a b : ℕ) → capped a ≡ capped b → (a ≡ b → P) → (top ≤ a → top ≤ b → P) → P
same_capped a b e f g =
    capped_cases a
    (λ p q. capped_cases b (λ r s. f (sym q ∙ e ∙ s)) (λ r s. absurd (let z : a ≡ top = sym q ∙ e ∙ s in omega arith)))
    (λ p q. capped_cases b (λ r s. absurd (let z : top ≡ b = sym q ∙ e ∙ s in omega arith)) (λ r s. g p r))

pub same_count : (a b k : ℕ) → capped a ≡ capped b → k < top → eqb k a ≡ eqb k b
same_count a b k e h =
    same_capped a b e (ap (eqb k)) (λ p q. ne_eqb k a (λ z. absurd (omega arith)) ∙ sym (ne_eqb k b (λ z. absurd (omega arith))))

same-seven : (a b : ℕ) → capped a ≡ capped b → leb 7 a ≡ leb 7 b
same-seven a b e = same_capped a b e (ap (leb 7)) (λ p q. le-leb 7 a (omega arith) ∙ sym (le-leb 7 b (omega arith)))

capped-on : (n m d : ℕ) → capped n ≡ capped m → capped (10 * n + d) ≡ capped (10 * m + d)
capped-on n m d e =
    same_capped n m e (ap (λ (k : ℕ). capped (10 * k + d))) (λ p q. capped-high (10 * n + d) (omega arith) ∙ sym (capped-high (10 * m + d) (omega arith)))

goes-capped : (n b : ℕ) → capped (10 * n + (b - 48)) ≡ capped (with_digit n b)
unfolding with_digit
goes-capped n b =
    cases (ltb n 1000000000000000000)
    (λ e. rw e)
    (λ e. let h : 1000000000000000000 ≤ n = ltb-false n 1000000000000000000 e in
    rw e (capped-high (10 * n + (b - 48)) (omega arith) ∙ sym (capped-high top (omega arith))))

numeral-capped : (s : List ℕ) (n m : ℕ) → capped n ≡ capped m → capped (numeral n s) ≡ capped (numeral m s)
unfolding numeral
numeral-capped [] n m e = e
numeral-capped (b ∷ s) n m e = numeral-capped s (10 * n + (b - 48)) (10 * m + (b - 48)) (capped-on n m (b - 48) e)

-- ---- a digit more
pub digit_low : (b : ℕ) → digit b ≡ true → 48 ≤ b
digit_low b h = leb-true 48 b (both (leb 48 b) (leb b 57) h).0

pub goes-low : (n b : ℕ) → n < 1000000000000000000 → 10 * n + (b - 48) ≡ with_digit n b
unfolding with_digit
goes-low n b h = rw (lt-ltb n 1000000000000000000 h)

pub goes-high : (n b : ℕ) → 1000000000000000000 ≤ n → 10000000000000000000 ≡ with_digit n b
unfolding with_digit
goes-high n b h = rw (le-ltb n 1000000000000000000 h)

-- ---- digits as they lie in the file: no quote is among them
no-quote : (b : ℕ) → digit b ≡ true → eqb b 0x22 ≡ false
no-quote b h = ne_eqb b 0x22 (λ e. absurd (let k = digit_low b h in omega arith))

digit-halved : (b : ℕ) (s : List ℕ) → digit b ≡ true → halved false (b ∷ s) ≡ b ∷ halved false s
unfolding halved
digit-halved b s h = rw (no-quote b h)

digits-halved : (s : List ℕ) → all digit s ≡ true → halved false s ≡ s
unfolding all halved
digits-halved [] h = refl
digits-halved (b ∷ s) h =
    cases (digit b)
    (λ e. digit-halved b s e ∙ ap (λ (t : List ℕ). b ∷ t) (digits-halved s (rw (e, all) at h)))
    (λ e. never (sym (rw (e, all) at h)))

others-halved : (s : List ℕ) → all digit s ≡ false → all digit (halved false s) ≡ false
unfolding all halved
others-halved [] h = never h
others-halved (b ∷ s) h =
    cases (digit b)
    (λ e. ap (all digit) (digit-halved b s e) ∙ rw (e, all) (others-halved s (rw (e, all) at h)))
    (λ e. rw (e, all))

-- ---- what counts
counts-others : (v : List ℕ) → all digit v ≡ false → counts v ≡ false
unfolding counts
counts-others v h = rw (h, and-false)

counts-digits : (v : List ℕ) → all digit v ≡ true → counts v ≡ leb 7 (numeral 0 v)
unfolding counts empty numeral
counts-digits [] h = refl
counts-digits (b ∷ s) h = rw h

-- ---- the walk over the item's bytes
pub record Counting (s : List ℕ) (i n : ℕ) : Type 0 where
  pub place : i ≤ length s
  pub digits : all digit s ≡ all digit (drop i s)
  pub value : capped (numeral 0 s) ≡ capped (numeral n (drop i s))

pub count-starts : (s : List ℕ) → Counting s 0 0
count-starts s = record { place = omega arith; digits = refl; value = refl }

module _ (s : List ℕ) (i n : ℕ) (p : Counting s i n) where
  count-over : length s ≤ i → (counts (halved false s) ≡ leb 7 n) × (capped n ≡ capped (numeral 0 (halved false s)))
  unfolding all numeral
  count-over h =
      let d : all digit s ≡ true = p.digits ∙ ap (all digit) (over s i h) in
      let v : capped (numeral 0 s) ≡ capped n = p.value ∙ ap (λ (t : List ℕ). capped (numeral n t)) (over s i h) in
      let e = digits-halved s d in
      (rw e (counts-digits s d ∙ sym (same-seven n (numeral 0 s) (sym v))), rw e (sym v))

  pub count-seven : length s ≤ i → 7 ≤ n → ColumnsAre (halved false s) (Some n)
  count-seven h k =
      let q = count-over h in
      record { is = sym (q.0 ∙ le-leb 7 n k); value = λ m e. let z : m ≡ n = sym (same_Some n m e) in ap capped z ∙ q.1 }

  pub count-few : length s ≤ i → n < 7 → ColumnsAre (halved false s) None
  count-few h k = record { is = sym ((count-over h).0 ∙ lt-leb 7 n k); value = λ m e. absurd (none-some m e) }

  module _ (h : i < length s) (d : Bool) (e : d ≡ digit (get_or s i 0)) where
    pub count-not : not d ≡ true → ColumnsAre (halved false s) None
    unfolding all
    count-not g =
        let k : digit (get_or s i 0) ≡ false = sym e ∙ not-true d g in
        let a : all digit s ≡ false = p.digits ∙ ap (all digit) (here 0 s i h) ∙ rw (k, all) in
        record { is = sym (counts-others (halved false s) (others-halved s a)); value = λ m z. absurd (none-some m z) }

    pub count-digit : not d ≡ false → digit (get_or s i 0) ≡ true
    count-digit g = sym e ∙ not-false d g

    pub count-on : not d ≡ false → (r : ℕ) → r ≡ with_digit n (get_or s i 0) → Counting s (i + 1) r
    unfolding all numeral
    count-on g r q = record {
      place = omega arith;
      digits = p.digits ∙ ap (all digit) (here 0 s i h) ∙ rw (count-digit g, all);
      value =
          p.value ∙ ap (λ (t : List ℕ). capped (numeral n t)) (here 0 s i h)
          ∙ numeral-capped (drop (i + 1) s) (10 * n + (get_or s i 0 - 48)) r (goes-capped n (get_or s i 0) ∙ ap capped (sym q));
    }
