-- The laws of one item: where it closes, what is read of it, what stands behind it. Assumes nothing.
use mathlib.Core.Path.{◌≡◌, refl, sym, ap, ◌∙◌}
use mathlib.Core.Bool.{Bool, true, false, ◌&&◌}
use mathlib.Core.List.{List, [], ◌∷◌, ◌++◌, append_assoc}
use Prim.Native.Nat.{ℕ, suc, ◌+◌, ◌-◌, ◌≤◌, ◌<◌}
use native.Mathlib.Omega.{arith}
use borrow.Author.Tests.{eq-eqb, ne_eqb, eqb-true}
use lib.Dec.{eqb}
use lib.ListN.{length, get_or, take, drop, length-drop}
use lib.Seq.{drop-drop}
use Rattle.rules.specs.Lists.{onto}
use Rattle.rules.proofs.Logic.{cases, both}
use Rattle.rules.proofs.Lists.{here, over}
use Rattle.csv_rules.specs.Quote.{Comma, Inside, Quote, Cr, Items, Lines, end, broken, line, more, lines_at, cut}
use Rattle.csv_rules.specs.Written.{halved}
use Rattle.csv_rows.specs.Rows.{closing_at, quote_first, put_before, afterwards, BehindAt, ItemAt}

-- ---- where an item closes
pub close-plain : (b : ℕ) (s : List ℕ) → eqb b 0x22 ≡ false → closing_at false (b ∷ s) ≡ suc (closing_at false s)
unfolding closing_at
close-plain b s e = rw (e, closing_at)

-- a quote was met before, and none follows
stopped : (t : ℕ) (s : List ℕ) → eqb t 0x22 ≡ false → closing_at true (t ∷ s) ≡ 0
unfolding closing_at
stopped t s f = rw (f, closing_at)

pub close-stop : (b : ℕ) (s : List ℕ) → eqb b 0x22 ≡ true → quote_first s ≡ false → closing_at false (b ∷ s) ≡ 0
unfolding closing_at quote_first
close-stop b [] e f = rw (e, closing_at)
close-stop b (t ∷ s) e f =
    let l : closing_at false (b ∷ (t ∷ s)) ≡ closing_at true (t ∷ s) = rw (e, closing_at) in
    l ∙ stopped t s f

close-two : (b t : ℕ) (s : List ℕ) → eqb b 0x22 ≡ true → eqb t 0x22 ≡ true → closing_at false (b ∷ (t ∷ s)) ≡ suc (suc (closing_at false s))
unfolding closing_at
close-two b t s e f =
    let l : closing_at false (b ∷ (t ∷ s)) ≡ closing_at true (t ∷ s) = rw (e, closing_at) in
    let r : closing_at true (t ∷ s) ≡ suc (suc (closing_at false s)) = rw (f, closing_at) in
    l ∙ r

two_here : (s : List ℕ) (i j : ℕ) → j ≡ i + 1 → j < length s → drop i s ≡ get_or s i 0 ∷ (get_or s j 0 ∷ drop (i + 2) s)
two_here s i j e h =
    let q : j + 1 ≡ i + 2 = omega arith in
    here 0 s i (omega arith) ∙ ap (λ (l : List ℕ). get_or s i 0 ∷ l) (ap (λ (n : ℕ). drop n s) (sym e) ∙ here 0 s j h ∙ ap (λ (n : ℕ). get_or s j 0 ∷ drop n s) q)

module _ (f : List ℕ) (r i : ℕ) (inv : r ≡ i + closing_at false (drop i f)) where
  pub end-over : length f ≤ i → i ≡ r
  unfolding closing_at
  end-over h = let q : closing_at false (drop i f) ≡ 0 = rw (over f i h) in omega arith

  module _ (h : i < length f) where
    pub end-plain : (get_or f i 0 ≡ 0x22 → ⊥) → r ≡ (i + 1) + closing_at false (drop (i + 1) f)
    end-plain n = omega (arith, inv ∙ ap (λ (s : List ℕ). i + closing_at false s) (here 0 f i h), close-plain (get_or f i 0) (drop (i + 1) f) (ne_eqb (get_or f i 0) 0x22 n))

    module _ (j : ℕ) (e : get_or f i 0 ≡ 0x22) (g : j ≡ i + 1) where
      pub end-last : length f ≤ j → i ≡ r
      unfolding quote_first
      end-last k =
          let o : drop (i + 1) f ≡ [] = over f (i + 1) (omega arith) in
          omega (arith, inv ∙ ap (λ (s : List ℕ). i + closing_at false s) (here 0 f i h), close-stop (get_or f i 0) (drop (i + 1) f) (eq-eqb (get_or f i 0) 0x22 e) (rw o))

      pub end-stop : j < length f → (get_or f j 0 ≡ 0x22 → ⊥) → i ≡ r
      unfolding quote_first
      end-stop k n =
          omega (
            arith,
            inv ∙ ap (λ (s : List ℕ). i + closing_at false s) (two_here f i j g k),
            close-stop (get_or f i 0) (get_or f j 0 ∷ drop (i + 2) f) (eq-eqb (get_or f i 0) 0x22 e) (ne_eqb (get_or f j 0) 0x22 n),
          )

      pub end-two : j < length f → get_or f j 0 ≡ 0x22 → r ≡ (i + 2) + closing_at false (drop (i + 2) f)
      end-two k n =
          omega (
            arith,
            inv ∙ ap (λ (s : List ℕ). i + closing_at false s) (two_here f i j g k),
            close-two (get_or f i 0) (get_or f j 0) (drop (i + 2) f) (eq-eqb (get_or f i 0) 0x22 e) (eq-eqb (get_or f j 0) 0x22 n),
          )

-- ---- an item's bytes, read
-- bytes before the first item
unfoldable onto_all : List ℕ → Items → Items
onto_all [] is = is
onto_all (b ∷ w) is = onto b (onto_all w is)

unfoldable grow : List ℕ → ℕ → Lines → Lines
grow w n end = broken
grow w n broken = broken
grow w n (line is m ls) = line (onto_all w is) (m + n) ls

onto-empty : (w : List ℕ) (is : Items) → onto_all w ([] ∷ is) ≡ w ∷ is
unfolding onto_all onto
onto-empty [] is = refl
onto-empty (b ∷ w) is = ap (onto b) (onto-empty w is)

one_more : (m : ℕ) → suc m ≡ m + 1
one_more m = omega arith

more-is : (m n : ℕ) → suc (m + n) ≡ m + suc n
more-is m n = omega arith

grow-none : (c : Lines) → more (λ is. is) c ≡ grow [] 1 c
unfolding more grow onto_all
grow-none end = refl
grow-none broken = refl
grow-none (line is m ls) = ap (λ (k : ℕ). line is k ls) (one_more m)

grow-byte : (b : ℕ) (w : List ℕ) (n : ℕ) (c : Lines) → more (onto b) (grow w n c) ≡ grow (b ∷ w) (suc n) c
unfolding more grow onto_all
grow-byte b w n end = refl
grow-byte b w n broken = refl
grow-byte b w n (line is m ls) = ap (λ (k : ℕ). line (onto b (onto_all w is)) k ls) (more-is m n)

grow-skip : (w : List ℕ) (n : ℕ) (c : Lines) → more (λ is. is) (grow w n c) ≡ grow w (suc n) c
unfolding more grow
grow-skip w n end = refl
grow-skip w n broken = refl
grow-skip w n (line is m ls) = ap (λ (k : ℕ). line (onto_all w is) k ls) (more-is m n)

grow-before : (w : List ℕ) (n m : ℕ) (c : Lines) → grow w n (put_before ([] ∷ []) m c) ≡ put_before (w ∷ []) (m + n) c
unfolding grow put_before
grow-before w n m end = refl
grow-before w n m broken = refl
grow-before w n m (line is k ls) = let q : (k + m) + n ≡ k + (m + n) = omega arith in rw (onto-empty w is, q)

skip-before : (is : Items) (n : ℕ) (c : Lines) → more (λ x. x) (put_before is n c) ≡ put_before is (suc n) c
unfolding more put_before
skip-before is n end = refl
skip-before is n broken = refl
skip-before is n (line js m ls) = ap (λ (k : ℕ). line (is ++ js) k ls) (more-is m n)

pub before-before : (is js : Items) (n m : ℕ) (c : Lines) → put_before is n (put_before js m c) ≡ put_before (is ++ js) (m + n) c
unfolding put_before
before-before is js n m end = refl
before-before is js n m broken = refl
before-before is js n m (line zs k ls) = let q : (k + m) + n ≡ k + (m + n) = omega arith in rw (append_assoc is js zs, q)

in-plain : (b : ℕ) (s : List ℕ) → eqb b 0x22 ≡ false → lines_at Inside (b ∷ s) ≡ more (onto b) (lines_at Inside s)
unfolding lines_at
in-plain b s e = rw (e, lines_at)

in-quote : (b : ℕ) (s : List ℕ) → eqb b 0x22 ≡ true → lines_at Inside (b ∷ s) ≡ more (λ is. is) (lines_at Quote s)
unfolding lines_at
in-quote b s e = rw (e, lines_at)

quote-quote : (b : ℕ) (s : List ℕ) → eqb b 0x22 ≡ true → lines_at Quote (b ∷ s) ≡ more (onto b) (lines_at Inside s)
unfolding lines_at
quote-quote b s e = rw (e, lines_at)

pub half-plain : (b : ℕ) (s : List ℕ) → eqb b 0x22 ≡ false → halved false (b ∷ s) ≡ b ∷ halved false s
unfolding halved
half-plain b s e = rw e

half-two : (b t : ℕ) (s : List ℕ) → eqb b 0x22 ≡ true → halved false (b ∷ (t ∷ s)) ≡ b ∷ halved false s
unfolding halved
half-two b t s e = rw (e, halved)

-- what is read inside an item that closes after n bytes
abbrev Closed : List ℕ → ℕ → Type 0
Closed s n = lines_at Inside s ≡ grow (halved false (take n s)) (suc n) (lines_at Quote (drop (suc n) s))

closed-plain : (b : ℕ) (s : List ℕ) (n : ℕ) → eqb b 0x22 ≡ false → Closed s n → Closed (b ∷ s) (suc n)
closed-plain b s n e h =
    in-plain b s e ∙ ap (more (onto b)) h ∙ grow-byte b (halved false (take n s)) (suc n) (lines_at Quote (drop (suc n) s))
    ∙ ap (λ (w : List ℕ). grow w (suc (suc n)) (lines_at Quote (drop (suc n) s))) (sym (half-plain b (take n s) e))

closed-stop : (b : ℕ) (s : List ℕ) → eqb b 0x22 ≡ true → Closed (b ∷ s) 0
unfolding halved
closed-stop b s e = in-quote b s e ∙ grow-none (lines_at Quote s)

closed-two : (b t : ℕ) (s : List ℕ) (n : ℕ) → eqb b 0x22 ≡ true → eqb t 0x22 ≡ true → Closed s n → Closed (b ∷ (t ∷ s)) (suc (suc n))
closed-two b t s n e f h =
    let c = lines_at Quote (drop (suc n) s) in
    let w = halved false (take n s) in
    let q : t ≡ b = eqb-true t 0x22 f ∙ sym (eqb-true b 0x22 e) in
    in-quote b (t ∷ s) e ∙ ap (more (λ is. is)) (quote-quote t s f ∙ ap (more (onto t)) h ∙ grow-byte t w (suc n) c) ∙ grow-skip (t ∷ w) (suc (suc n)) c
    ∙ ap (λ (x : ℕ). grow (x ∷ w) (suc (suc (suc n))) c) q
    ∙ ap (λ (x : List ℕ). grow x (suc (suc (suc n))) c) (sym (half-two b t (take n s) e))

closed_at : (s : List ℕ) (n m : ℕ) → n ≡ m → Closed s m → Closed s n
closed_at s n m e h = rw e h

inside-closed : (s : List ℕ) → closing_at false s < length s → Closed s (closing_at false s)
unfolding quote_first
inside-closed [] h = absurd (omega arith)
inside-closed (b ∷ []) h =
    cases (eqb b 0x22)
    (λ e. closed_at (b ∷ []) (closing_at false (b ∷ [])) 0 (close-stop b [] e refl) (closed-stop b [] e))
    (λ e. absurd (omega (arith, close-plain b [] e)))
inside-closed (b ∷ t ∷ s) h =
    cases (eqb b 0x22)
    (λ e.
    cases (eqb t 0x22)
    (λ f.
    closed_at (b ∷ t ∷ s) (closing_at false (b ∷ t ∷ s)) (suc (suc (closing_at false s))) (close-two b t s e f)
    (closed-two b t s (closing_at false s) e f (inside-closed s (omega (arith, close-two b t s e f)))))
    (λ f. closed_at (b ∷ t ∷ s) (closing_at false (b ∷ t ∷ s)) 0 (close-stop b (t ∷ s) e f) (closed-stop b (t ∷ s) e)))
    (λ e.
    closed_at (b ∷ t ∷ s) (closing_at false (b ∷ t ∷ s)) (suc (closing_at false (t ∷ s))) (close-plain b (t ∷ s) e)
    (closed-plain b (t ∷ s) (closing_at false (t ∷ s)) e (inside-closed (t ∷ s) (omega (arith, close-plain b (t ∷ s) e)))))

inside-open : (s : List ℕ) → length s ≤ closing_at false s → lines_at Inside s ≡ broken
unfolding lines_at quote_first more
inside-open [] h = refl
inside-open (b ∷ []) h =
    cases (eqb b 0x22)
    (λ e. absurd (omega (arith, close-stop b [] e refl)))
    (λ e. in-plain b [] e)
inside-open (b ∷ t ∷ s) h =
    cases (eqb b 0x22)
    (λ e.
    cases (eqb t 0x22)
    (λ f. in-quote b (t ∷ s) e ∙ ap (more (λ is. is)) (quote-quote t s f ∙ ap (more (onto t)) (inside-open s (omega (arith, close-two b t s e f)))))
    (λ f. absurd (omega (arith, close-stop b (t ∷ s) e f))))
    (λ e. in-plain b (t ∷ s) e ∙ ap (more (onto b)) (inside-open (t ∷ s) (omega (arith, close-plain b (t ∷ s) e))))

first-at : (s : List ℕ) (n m : ℕ) → n ≡ m → quote_first (drop (suc m) s) ≡ false → quote_first (drop (suc n) s) ≡ false
first-at s n m e h = rw e h

closed-stops : (s : List ℕ) → closing_at false s < length s → quote_first (drop (suc (closing_at false s)) s) ≡ false
unfolding quote_first
closed-stops [] h = absurd (omega arith)
closed-stops (b ∷ []) h =
    cases (eqb b 0x22)
    (λ e. first-at (b ∷ []) (closing_at false (b ∷ [])) 0 (close-stop b [] e refl) refl)
    (λ e. absurd (omega (arith, close-plain b [] e)))
closed-stops (b ∷ t ∷ s) h =
    cases (eqb b 0x22)
    (λ e.
    cases (eqb t 0x22)
    (λ f. first-at (b ∷ t ∷ s) (closing_at false (b ∷ t ∷ s)) (suc (suc (closing_at false s))) (close-two b t s e f) (closed-stops s (omega (arith, close-two b t s e f))))
    (λ f. first-at (b ∷ t ∷ s) (closing_at false (b ∷ t ∷ s)) 0 (close-stop b (t ∷ s) e f) f))
    (λ e.
    first-at (b ∷ t ∷ s) (closing_at false (b ∷ t ∷ s)) (suc (closing_at false (t ∷ s))) (close-plain b (t ∷ s) e)
    (closed-stops (t ∷ s) (omega (arith, close-plain b (t ∷ s) e))))

-- ---- what stands behind an item
before-comma : (c : Lines) → more (λ is. [] ∷ is) c ≡ put_before ([] ∷ []) 1 c
unfolding more put_before
before-comma end = refl
before-comma broken = refl
before-comma (line is m ls) = ap (λ (k : ℕ). line ([] ∷ is) k ls) (one_more m)

module _ (b : ℕ) (e : eqb b 0x22 ≡ false) where
  read-comma : (s : List ℕ) → eqb b 0x2C ≡ true → lines_at Quote (b ∷ s) ≡ more (λ is. [] ∷ is) (lines_at Comma s)
  unfolding lines_at
  read-comma s g = rw (e, lines_at, g)

  module _ (g : eqb b 0x2C ≡ false) where
    -- a 0D behind an item
    at-0D : (c : ℕ) (s : List ℕ) → eqb b 0x0D ≡ true → lines_at Quote (b ∷ (c ∷ s)) ≡ more (λ is. is) (lines_at Cr (c ∷ s))
    unfolding lines_at
    at-0D c s k = rw (e, lines_at, g, k)

    read-crlf : (c : ℕ) (s : List ℕ) → eqb b 0x0D ≡ true → eqb c 0x0A ≡ true → lines_at Quote (b ∷ (c ∷ s)) ≡ line ([] ∷ []) 2 (cut s)
    unfolding lines_at more cut
    read-crlf c s k l =
        let r : lines_at Cr (c ∷ s) ≡ line ([] ∷ []) 1 (cut s) = rw (l, lines_at) in
        at-0D c s k ∙ ap (more (λ is. is)) r

    read-last : lines_at Quote (b ∷ []) ≡ broken
    unfolding lines_at more
    read-last = cases (eqb b 0x0D) (λ k. rw (e, lines_at, g, k)) (λ k. rw (e, lines_at, g, k))

    read-bad : (c : ℕ) (s : List ℕ) → (eqb b 0x0D && eqb c 0x0A) ≡ false → lines_at Quote (b ∷ (c ∷ s)) ≡ broken
    unfolding lines_at more
    read-bad c s q =
        cases (eqb b 0x0D) (λ k. let l : eqb c 0x0A ≡ false = rw k at q in let r : lines_at Cr (c ∷ s) ≡ broken = rw (l, lines_at) in at-0D c s k ∙ ap (more (λ is. is)) r) (λ k. rw (e, lines_at, g, k))

pub drop-same : (f : List ℕ) (j : ℕ) → drop (j + 0) f ≡ drop j f
drop-same f j = let q : j + 0 ≡ j = omega arith in ap (λ (n : ℕ). drop n f) q

module _ (f : List ℕ) (j : ℕ) (p : j ≤ length f) where
  pub behind-end : length f ≤ j → BehindAt f j 0 false
  unfolding lines_at put_before afterwards cut
  behind-end h = record { is = rw (drop-same f j, over f j h); place = omega arith }

  module _ (q : quote_first (drop j f) ≡ false) (h : j < length f) where
    no-quote : eqb (get_or f j 0) 0x22 ≡ false
    unfolding quote_first
    no-quote = rw (here 0 f j h) at q

    pub behind-comma : get_or f j 0 ≡ 0x2C → BehindAt f j 1 true
    unfolding afterwards
    behind-comma g = record {
      is = ap (lines_at Quote) (here 0 f j h) ∙ read-comma (get_or f j 0) no-quote (drop (j + 1) f) (eq-eqb (get_or f j 0) 0x2C g) ∙ before-comma (lines_at Comma (drop (j + 1) f));
      place = omega arith;
    }

    module _ (k : ℕ) (n : get_or f j 0 ≡ 0x2C → ⊥) (e : k ≡ j + 1) where
      pub behind-last : length f ≤ k → lines_at Quote (drop j f) ≡ broken
      behind-last l =
          let o : drop (j + 1) f ≡ [] = over f (j + 1) (omega arith) in
          ap (lines_at Quote) (here 0 f j h ∙ ap (λ (s : List ℕ). get_or f j 0 ∷ s) o)
          ∙ read-last (get_or f j 0) no-quote (ne_eqb (get_or f j 0) 0x2C n)

      module _ (l : k < length f) where
        pub behind-crlf : (eqb (get_or f j 0) 0x0D && eqb (get_or f k 0) 0x0A) ≡ true → BehindAt f j 2 false
        unfolding put_before afterwards
        behind-crlf t =
            let w = both (eqb (get_or f j 0) 0x0D) (eqb (get_or f k 0) 0x0A) t in
            record {
              is =
                  ap (lines_at Quote) (two_here f j k e l)
                  ∙ read-crlf (get_or f j 0) no-quote (ne_eqb (get_or f j 0) 0x2C n) (get_or f k 0) (drop (j + 2) f) w.0 w.1;
              place = omega arith;
            }

        pub behind-bad : (eqb (get_or f j 0) 0x0D && eqb (get_or f k 0) 0x0A) ≡ false → lines_at Quote (drop j f) ≡ broken
        behind-bad t =
            ap (lines_at Quote) (two_here f j k e l) ∙ read-bad (get_or f j 0) no-quote (ne_eqb (get_or f j 0) 0x2C n) (get_or f k 0) (drop (j + 2) f) t

-- ---- an item
module _ (f : List ℕ) (s e : ℕ) (c : e ≡ s + closing_at false (drop s f)) (k : e < length f) where
  closes : closing_at false (drop s f) < length (drop s f)
  closes = omega (arith, length-drop s f)

  onward : (n : ℕ) → n ≡ e + 1 → drop (suc (closing_at false (drop s f))) (drop s f) ≡ drop n f
  onward n o = let w : s + suc (closing_at false (drop s f)) ≡ n = omega arith in drop-drop (suc (closing_at false (drop s f))) s f ∙ ap (λ (m : ℕ). drop m f) w

  pub item-stops : (n : ℕ) → n ≡ e + 1 → quote_first (drop n f) ≡ false
  item-stops n o = ap quote_first (sym (onward n o)) ∙ closed-stops (drop s f) closes

module _ (f : List ℕ) (i : ℕ) (p : i ≤ length f) where
  pub item-none : length f ≤ i → lines_at Comma (drop i f) ≡ broken
  unfolding lines_at
  item-none h = rw (over f i h)

  module _ (h : i < length f) where
    pub item-unquoted : (get_or f i 0 ≡ 0x22 → ⊥) → lines_at Comma (drop i f) ≡ broken
    unfolding lines_at
    item-unquoted n = ap (lines_at Comma) (here 0 f i h) ∙ rw (ne_eqb (get_or f i 0) 0x22 n, lines_at)

    module _ (s e : ℕ) (q : get_or f i 0 ≡ 0x22) (g : s ≡ i + 1) (c : e ≡ s + closing_at false (drop s f)) where
      opened : lines_at Comma (drop i f) ≡ more (λ is. is) (lines_at Inside (drop s f))
      unfolding lines_at
      opened = ap (lines_at Comma) (here 0 f i h ∙ ap (λ (n : ℕ). get_or f i 0 ∷ drop n f) (sym g)) ∙ rw (eq-eqb (get_or f i 0) 0x22 q, lines_at)

      pub item-open : length f ≤ e → lines_at Comma (drop i f) ≡ broken
      unfolding more
      item-open k = opened ∙ rw (inside-open (drop s f) (omega (arith, length-drop s f)))

      module _ (k : e < length f) where
        -- what stands behind the item, read with it
        with_rest : (n m : ℕ) (z : Lines) → n ≡ e + 1 → lines_at Quote (drop n f) ≡ put_before ([] ∷ []) m z
            → lines_at Comma (drop i f) ≡ put_before (halved false (take (e - s) (drop s f)) ∷ []) (((e - s) + 2) + m) z
        with_rest n m z o b =
            let t = closing_at false (drop s f) in
            let w = halved false (take t (drop s f)) in
            let x : t ≡ e - s = omega arith in
            let y : suc (m + suc t) ≡ ((e - s) + 2) + m = omega arith in
            opened
            ∙ ap (more (λ is. is)) (inside-closed (drop s f) (closes f s e c k) ∙ ap (λ (d : List ℕ). grow w (suc t) (lines_at Quote d)) (onward f s e c k n o) ∙ ap (grow w (suc t)) b
            ∙ grow-before w (suc t) m z)
            ∙ skip-before (w ∷ []) (m + suc t) z
            ∙ ap (λ (u : ℕ). put_before (halved false (take u (drop s f)) ∷ []) (suc (m + suc t)) z) x
            ∙ ap (λ (u : ℕ). put_before (halved false (take (e - s) (drop s f)) ∷ []) u z) y

        pub item-fine : (n m : ℕ) (goes : Bool) → n ≡ e + 1 → BehindAt f n m goes → ItemAt f i (take (e - s) (drop s f)) (((e - s) + 2) + m) goes
        item-fine n m goes o b =
            let z : n + m ≡ i + (((e - s) + 2) + m) = omega arith in
            record {
              is =
                  with_rest n m (afterwards goes (drop (n + m) f)) o b.is
                  ∙ ap (λ (u : ℕ). put_before (halved false (take (e - s) (drop s f)) ∷ []) (((e - s) + 2) + m) (afterwards goes (drop u f))) z;
              lies = record { start = s; size = e - s; inside = omega arith; is = refl };
              some = omega arith;
              place = omega (arith, b.place);
            }

        pub item-bad : (n : ℕ) → n ≡ e + 1 → lines_at Quote (drop n f) ≡ broken → lines_at Comma (drop i f) ≡ broken
        unfolding put_before
        item-bad n o b = with_rest n 0 broken o b
