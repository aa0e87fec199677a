-- Laws of the walks, function by function: one for each way through the code. Assumes nothing.
use mathlib.Core.Path.{◌≡◌, refl, sym, ap, subst, ◌∙◌}
use mathlib.Core.Bool.{Bool, true, false, not, ◌&&◌, ◌||◌}
use mathlib.Core.List.{List, [], ◌∷◌, ◌++◌, map, append_assoc, append-nil}
use Prim.Native.Nat.{ℕ, zero, suc, ◌+◌, ◌-◌, ◌≤◌, ◌<◌}
use native.Mathlib.Omega.{arith}
use borrow.Author.Tests.{eq-eqb, ne_eqb, leb-true}
use mir.Syntax.{w8}
use mir.Val.{Fits}
use lib.Dec.{eqb, leb}
use lib.ListN.{length, get_or, take, drop, length-append}
use lib.Seq.{drop-drop}
use Rattle.rules.specs.declared.Delims.{Delims}
use Rattle.rules.specs.declared.Mode.{Mode}
use Rattle.rules.specs.declared.Mode.TheVariants.{One, Two, Second}
use Rattle.rules.specs.Shift.{step, is_one, walk, keeps, mark, marks, met, within, byte_of}
use Rattle.rules.specs.Lists.{bytes, has, all}
use Rattle.rules.specs.Proper.{Delim, Proper}
use Rattle.rules.proofs.Logic.{both, not-true, not-false, never, and-true, and_assoc, or-false, or_assoc}
use Rattle.rules.proofs.Lists.{here, over, rest-is, has-cons, has-nil}
use Rattle.rules.proofs.Modes.{one-is, met-as, byte-met, still_one, marks-here, marks-over, length-marks, met-rest}
use Rattle.rules.proofs.Header.{printable, delim-small, delim-apart}
use Rattle.plain_bytes.specs.Bytes.{is_byte, until}
use Rattle.scan.specs.Scan.{meets_of, after_sep, onward, between, hidden, Hides, Units, Reaches, ends, escapes, plain_text, next_from, next, alnum, CutOf, TailOf}
use Rattle.scan.proofs.Laws.{map-append, between_none, between-one, between_first, between-then, between-take, between-length, until-yes, until-no, until-nil, until-stops, after-drop, Far, far-is, far-escapes, ends-far, hidden-append, hidden-nil, hidden-length, hidden-bytes, hidden-until, hidden-has, hidden-plain, plain-cons, plain-nil, from-met, alnum-plain}

-- ---- meets
pub meets_is : (m : Mode) (b a : ℕ) (t : Bool) → a < 256 → t ≡ is_one m → (t && eqb b a) ≡ meets_of a (mark m b)
unfolding meets_of
meets_is m b a t h e = rw e (sym (met-as m b a h))

-- ---- units
hides-none : (end : ℕ) (s : List ℕ) (m : Mode) (i : ℕ) → i ≤ length s → Hides end s m i m i
hides-none end s m i h = record { later = omega arith; inside = h; met = rw (between_none s i, hidden-nil); mode = refl }

hides-then : (end : ℕ) (s : List ℕ) (m n o : Mode) (i j k : ℕ) → Hides end s m i n j → Hides end s n j o k → Hides end s m i o k
hides-then end s m n o i j k a b =
    record {
      later = omega (arith, a.later, b.later);
      inside = b.inside;
      met = a.met ∙ ap (λ l. hidden (between i j s) ++ l) b.met
          ∙ sym (append_assoc (hidden (between i j s)) (hidden (between j k s)) (marks end o (drop k s)))
          ∙ ap (λ l. l ++ marks end o (drop k s)) (sym (ap hidden (between-then s i j k a.later b.later) ∙ hidden-append (between i j s) (between j k s)));
      mode = a.mode ∙ b.mode;
    }

hides-byte : (end : ℕ) (s : List ℕ) (m : Mode) (i : ℕ) → is_one m ≡ false → i < length s → Hides end s m i (step end m (get_or s i 0)) (i + 1)
unfolding walk mark hidden
hides-byte end s m i e h =
    record {
      later = omega arith;
      inside = omega arith;
      met = marks-here end s i m h ∙ rw (e, between-one s i h);
      mode = ap (walk end m) (here 0 s i h);
    }

unit-first : (end b : ℕ) → within 0x21 0x7E b ≡ true → step end Two b ≡ Second
unfolding step
unit-first end b e = let l = leb-true 0x21 b (both (leb 0x21 b) (leb b 0x7E) e).0 in rw (ne_eqb b 0x1B (omega arith), e)

unit-second : (end b : ℕ) → within 0x21 0x7E b ≡ true → step end Second b ≡ Two
unfolding step
unit-second end b e = rw e

hides-unit : (end : ℕ) (s : List ℕ) (i : ℕ) → i + 1 < length s → (within 0x21 0x7E (get_or s i 0) && within 0x21 0x7E (get_or s (i + 1) 0)) ≡ true → Hides end s Two i Two (i + 1 + 1)
unfolding is_one
hides-unit end s i h e =
    let w = both (within 0x21 0x7E (get_or s i 0)) (within 0x21 0x7E (get_or s (i + 1) 0)) e in
    hides-then end s Two Second Two i (i + 1) (i + 1 + 1)
    (rw (unit-first end (get_or s i 0) w.0) at (hides-byte end s Two i refl (omega arith)))
    (rw (unit-second end (get_or s (i + 1) 0) w.1) at (hides-byte end s Second (i + 1) refl h))

pub units-none : (s : List ℕ) (m : Mode) (i : ℕ) → i ≤ length s → Units s m i i
units-none s m i h = record { later = omega arith; inside = h; hides = λ end. hides-none end s m i h }

pub units-on : (s : List ℕ) (at i : ℕ) (t : Bool) → Units s Two at i → i + 1 < length s
    → t ≡ (within 0x21 0x7E (get_or s i 0) && within 0x21 0x7E (get_or s (i + 1) 0)) → not t ≡ false → Units s Two at (i + 2)
units-on s at i t u h e y =
    let k : i + 1 + 1 ≡ i + 2 = omega arith in
    record {
      later = omega (arith, u.later);
      inside = omega arith;
      hides = λ end. rw k at (hides-then end s Two Two Two at i (i + 1 + 1) (u.hides end) (hides-unit end s i h (sym e ∙ not-false t y)));
    }

pub units-done : (s : List ℕ) (mode : Mode) (at i : ℕ) (t : Bool) → (t ≡ true → mode ≡ Two) → not t ≡ false → Units s Two at i → Units s mode at i
units-done s mode at i t f y u = rw (f (not-false t y)) u

-- ---- advance
-- the byte at `at` stands in one-byte mode; from the next on nothing does, up to i
abbrev pub Away : ℕ → List ℕ → ℕ → Mode → ℕ → Type 0
Away end s at mode i = Hides end s (step end One (get_or s at 0)) (at + 1) mode i

pub away-starts : (end : ℕ) (s : List ℕ) (at : ℕ) (r : Mode) → at < length s → r ≡ step end One (get_or s at 0) → Away end s at r (at + 1)
away-starts end s at r h e = rw (← e) (hides-none end s r (at + 1) (omega arith))

pub away-on : (end : ℕ) (s : List ℕ) (at : ℕ) (mode r : Mode) (i j : ℕ) (t : Bool) → Away end s at mode i → i < length s → t ≡ is_one mode → t ≡ false
    → r ≡ step end mode (get_or s i 0) → Units s r (i + 1) j → Away end s at r j
away-on end s at mode r i j t inv h e n g u =
    let b : Hides end s mode i r (i + 1) = rw g (hides-byte end s mode i (sym e ∙ n) h) in
    hides-then end s (step end One (get_or s at 0)) mode r (at + 1) i j inv (hides-then end s mode r r i (i + 1) j b (u.hides end))

reaches : (end : ℕ) (s : List ℕ) (at : ℕ) (mode : Mode) (i : ℕ) (k : Bool) → Away end s at mode i → at < length s → get_or s at 0 < 256
    → marks end mode (drop i s) ≡ marks end One (drop i s) → is_one (walk end mode (drop i s)) ≡ (k && keeps end (drop i s)) → Reaches end s at i k
unfolding keeps walk mark is_one
reaches end s at mode i k a h b m e =
    record {
      later = omega (arith, a.later);
      inside = a.inside;
      byte = b;
      met = marks-here end s at One h ∙ ap (λ l. get_or s at 0 ∷ l) (a.met ∙ ap (λ l. hidden (between (at + 1) i s) ++ l) m);
      keeps = ap (λ l. is_one (walk end One l)) (here 0 s at h) ∙ ap is_one a.mode ∙ e;
    }

pub away-back : (end : ℕ) (s : List ℕ) (at : ℕ) (mode : Mode) (i : ℕ) (t : Bool) → Away end s at mode i → at < length s → Fits w8 (get_or s at 0)
    → t ≡ is_one mode → t ≡ true → Reaches end s at i true
unfolding keeps
away-back end s at mode i t a h b e y = reaches end s at mode i true a h b.fits (rw (one-is mode (sym e ∙ y))) (rw (one-is mode (sym e ∙ y)))

pub away-over : (end : ℕ) (s : List ℕ) (at : ℕ) (mode : Mode) (i : ℕ) (t : Bool) → Away end s at mode i → at < length s → Fits w8 (get_or s at 0)
    → length s ≤ i → t ≡ is_one mode → Reaches end s at i t
unfolding keeps walk is_one
away-over end s at mode i t a h b l e =
    reaches end s at mode i t a h b.fits (marks-over end s i mode l ∙ sym (marks-over end s i One l)) (rw (over s i l) (sym e ∙ sym (and-true t)))

-- a plain byte: the next one follows
pub plain-on : (end : ℕ) (s : List ℕ) (i : ℕ) → i < length s → within 0x20 0x7E (get_or s i 0) ≡ true → Reaches end s i (i + 1) true
plain-on end s i h e =
    let q = both (leb 0x20 (get_or s i 0)) (leb (get_or s i 0) 0x7E) e in
    let l = leb-true 0x20 (get_or s i 0) q.0 in
    let g = leb-true (get_or s i 0) 0x7E q.1 in
    away-back end s i One (i + 1) true (away-starts end s i One h (sym (still_one end (get_or s i 0) l g))) h (record { fits = omega arith }) (unfold is_one in refl) refl

-- the bytes that are passed
bytes_on : (end : ℕ) (s : List ℕ) (i j : ℕ) (k : Bool) → Reaches end s i j k → map byte_of (get_or s i 0 ∷ hidden (between (i + 1) j s)) ≡ between i j s
unfolding mark is_one
bytes_on end s i j k r =
    ap (λ x. x ∷ map byte_of (hidden (between (i + 1) j s))) (byte-met One (get_or s i 0) r.byte)
    ∙ ap (λ l. get_or s i 0 ∷ l) (hidden-bytes (between (i + 1) j s)) ∙ sym (between_first s i j r.later r.inside)

-- ---- next_byte
pub next_plain : (end : ℕ) (s : List ℕ) (i : ℕ) (t : Bool) → i < length s → t ≡ within 0x20 0x7E (get_or s i 0) → t ≡ true → Reaches end s i (i + 1) true
next_plain end s i t h e y = plain-on end s i h (sym e ∙ y)

-- ---- keeps
pub keeps_on : (end : ℕ) (s : List ℕ) (i j : ℕ) (k : Bool) → keeps end s ≡ keeps end (drop i s) → Reaches end s i j k → not k ≡ false → keeps end s ≡ keeps end (drop j s)
keeps_on end s i j k inv r e = inv ∙ r.keeps ∙ rw (not-false k e)

pub keeps-not : (end : ℕ) (s : List ℕ) (i j : ℕ) (k : Bool) → keeps end s ≡ keeps end (drop i s) → Reaches end s i j k → not k ≡ true → false ≡ keeps end s
keeps-not end s i j k inv r e = sym (inv ∙ r.keeps ∙ rw (not-true k e))

pub keeps-plain : (end : ℕ) (s : List ℕ) (i : ℕ) (t : Bool) → keeps end s ≡ keeps end (drop i s) → i < length s → t ≡ within 0x20 0x7E (get_or s i 0) → t ≡ true
    → keeps end s ≡ keeps end (drop (i + 1) s)
keeps-plain end s i t inv h e y = keeps_on end s i (i + 1) true inv (next_plain end s i t h e y) refl

pub line_ends : (end b : ℕ) → (eqb b end && not (eqb b 0x1B)) ≡ true → step end One b ≡ One
unfolding step
line_ends end b y = let q = both (eqb b end) _ y in rw (not-true (eqb b 0x1B) q.1, q.0)

pub keeps_line : (end : ℕ) (s : List ℕ) (i : ℕ) (t : Bool) → keeps end s ≡ keeps end (drop i s) → i < length s → (t ≡ true → step end One (get_or s i 0) ≡ One) → t ≡ true
    → keeps end s ≡ keeps end (drop (i + 1) s)
unfolding keeps walk
keeps_line end s i t inv h f y = inv ∙ ap (λ l. is_one (walk end One l)) (here 0 s i h) ∙ ap (λ m. is_one (walk end m (drop (i + 1) s))) (f y)

pub keeps-over : (end : ℕ) (s : List ℕ) (i : ℕ) → keeps end s ≡ keeps end (drop i s) → length s ≤ i → true ≡ keeps end s
unfolding keeps walk is_one
keeps-over end s i inv h = sym (inv ∙ rw (over s i h))

-- ---- what stands before the first byte that p holds of
module _ (end : ℕ) (s : List ℕ) (i : ℕ) (p : ℕ → Bool) where
  until-on : (j : ℕ) (k : Bool) → Reaches end s i j k → Far p → p (get_or s i 0) ≡ false
      → until p (marks end One (drop i s)) ≡ get_or s i 0 ∷ (hidden (between (i + 1) j s) ++ until p (marks end One (drop j s)))
  until-on j k r f e =
      ap (until p) r.met ∙ until-no p (get_or s i 0) (hidden (between (i + 1) j s) ++ marks end One (drop j s)) e
      ∙ ap (λ l. get_or s i 0 ∷ l) (hidden-until p f (between (i + 1) j s) (marks end One (drop j s)))

  until-here : i < length s → p (get_or s i 0) ≡ true → until p (marks end One (drop i s)) ≡ []
  unfolding mark is_one
  until-here h e = ap (until p) (marks-here end s i One h) ∙ until-yes p (get_or s i 0) (marks end (step end One (get_or s i 0)) (drop (i + 1) s)) e

  until-over : length s ≤ i → until p (marks end One (drop i s)) ≡ []
  until-over h = ap (until p) (marks-over end s i One h) ∙ until-nil p

-- i bytes stand before what is left
abbrev pub Before : ℕ → List ℕ → (ℕ → Bool) → ℕ → Type 0
Before end s p i = length (until p (marks end One s)) ≡ i + length (until p (marks end One (drop i s)))

module _ (end : ℕ) (s : List ℕ) (i : ℕ) (p : ℕ → Bool) (inv : Before end s p i) where
  before_on : (j : ℕ) (k : Bool) → Reaches end s i j k → Far p → p (get_or s i 0) ≡ false → Before end s p j
  before_on j k r f e =
      let U : List ℕ = until p (marks end One (drop j s)) in
      let w : List ℕ = between (i + 1) j s in
      let q : length (until p (marks end One s)) ≡ i + suc (length (hidden w ++ U)) = inv ∙ ap (λ l. i + length l) (until-on end s i p j k r f e) in
      omega (arith, length-append (hidden w) U, hidden-length w, between-length s (i + 1) j r.inside, r.later)

  before-done : until p (marks end One (drop i s)) ≡ [] → i ≡ length (until p (marks end One s))
  before-done e = let q : length (until p (marks end One s)) ≡ i + 0 = inv ∙ ap (λ l. i + length l) e in omega arith

-- ---- find
module _ (end sep : ℕ) (s : List ℕ) (i : ℕ) (inv : Before end s (is_byte sep) i) where
  pub find-on : (j : ℕ) (k : Bool) → Reaches end s i j k → sep < 256 → (get_or s i 0 ≡ sep → ⊥) → Before end s (is_byte sep) j
  find-on j k r l n = before_on end s i (is_byte sep) inv j k r (far-is sep l) (ne_eqb (get_or s i 0) sep n)

  pub find-plain : (t : Bool) → i < length s → sep < 256 → (get_or s i 0 ≡ sep → ⊥) → t ≡ within 0x20 0x7E (get_or s i 0) → t ≡ true → Before end s (is_byte sep) (i + 1)
  find-plain t h l n e y = find-on (i + 1) true (plain-on end s i h (sym e ∙ y)) l n

  pub find-here : i < length s → get_or s i 0 ≡ sep → i ≡ length (until (is_byte sep) (marks end One s))
  find-here h e = before-done end s i (is_byte sep) inv (until-here end s i (is_byte sep) h (eq-eqb (get_or s i 0) sep e))

  pub find-over : length s ≤ i → i ≡ length (until (is_byte sep) (marks end One s))
  find-over h = before-done end s i (is_byte sep) inv (until-over end s i (is_byte sep) h)

-- ---- past
past-at : (s : List ℕ) (sep r : ℕ) → sep < 256 → r ≡ length (until (is_byte sep) (met s)) → after_sep sep (met s) ≡ drop 1 (met (drop r s))
past-at s sep r l e = after-drop sep (met s) ∙ ap (drop 1) (from-met (is_byte sep) (far-is sep l) s ∙ ap (λ k. met (drop k s)) (sym e))

pub past_over : (s : List ℕ) (sep r : ℕ) → sep < 256 → r ≡ length (until (is_byte sep) (marks 0x0D One s)) → r ≡ length s → met (drop r s) ≡ after_sep sep (met s)
unfolding met
past_over s sep r l e h =
    let n : met (drop r s) ≡ [] = marks-over 0x0D s r One (omega arith) in
    n ∙ sym (past-at s sep r l e ∙ ap (drop 1) n)

pub past_next : (s : List ℕ) (sep r : ℕ) → Delim sep → r ≡ length (until (is_byte sep) (marks 0x0D One s)) → r ≤ length s → (r ≡ length s → ⊥)
    → met (drop (r + 1) s) ≡ after_sep sep (met s)
unfolding met mark is_one
past_next s sep r p e l n =
    let b : ℕ = get_or s r 0 in
    let far : sep < 256 = delim-small sep p in
    let h : r < length s = omega arith in
    let m : r < length (met s) = omega (arith, length-marks 0x0D One s) in
    let at-r : met (drop r s) ≡ b ∷ marks 0x0D (step 0x0D One b) (drop (r + 1) s) = marks-here 0x0D s r One h in
    let same : get_or (met s) r 0 ∷ drop (r + 1) (met s) ≡ b ∷ marks 0x0D (step 0x0D One b) (drop (r + 1) s)
    = sym (here 0 (met s) r m) ∙ ap (λ k. drop k (met s)) e ∙ from-met (is_byte sep) (far-is sep far) s ∙ ap (λ k. met (drop k s)) (sym e) ∙ at-r in
    let stop : eqb (get_or (met s) r 0) sep ≡ true = rw e (until-stops (is_byte sep) (met s) (rw e at m)) in
    let y : eqb b sep ≡ true = ap (λ x. eqb x sep) (let q : b ≡ get_or (met s) r 0 = cc in q) ∙ stop in
    sym (past-at s sep r far e ∙ ap (drop 1) at-r ∙ met-rest 0x0D One b sep (drop (r + 1) s) (printable sep p).0 (printable sep p).1 y)

-- ---- skip
skip-step : (s : List ℕ) (sep n left at r : ℕ) → onward sep n (met s) ≡ onward sep left (met (drop at s)) → 0 < left
    → met (drop r (take (length s - at) (drop at s))) ≡ after_sep sep (met (take (length s - at) (drop at s)))
    → onward sep n (met s) ≡ onward sep (left - 1) (met (drop (at + r) s))
unfolding onward
skip-step s sep n zero at r inv h e = absurd (omega arith)
skip-step s sep n (suc k) at r inv h e =
    let j : suc k - 1 ≡ k = omega arith in
    let q : met (drop (at + r) s) ≡ after_sep sep (met (drop at s)) = rw (rest-is s at, drop-drop) at e in
    rw (inv, j, q)

pub skip-on : (s : List ℕ) (sep n i at r : ℕ) → onward sep n (met s) ≡ onward sep (n - i) (met (drop at s)) → i < n
    → met (drop r (take (length s - at) (drop at s))) ≡ after_sep sep (met (take (length s - at) (drop at s)))
    → onward sep n (met s) ≡ onward sep (n - (i + 1)) (met (drop (at + r) s))
skip-on s sep n i at r inv h e = let j : n - (i + 1) ≡ n - i - 1 = omega arith in rw j (skip-step s sep n (n - i) at r inv (omega arith) e)

pub skip-end : (s : List ℕ) (sep n i at : ℕ) → onward sep n (met s) ≡ onward sep (n - i) (met (drop at s)) → n ≤ i
    → met (take (length s - at) (drop at s)) ≡ onward sep n (met s)
unfolding onward
skip-end s sep n i at inv h = let z : n - i ≡ 0 = omega arith in rw (rest-is s at, inv, z)

-- ---- first
pub record Cutting (d : Delims) (t : List ℕ) (clean : Bool) (i : ℕ) : Type 0 where
  pub long : Before 0x0D t (ends d) i
  pub plain : plain_text d (until (ends d) (marks 0x0D One t)) ≡ (clean && plain_text d (until (ends d) (marks 0x0D One (drop i t))))
  pub raw : map byte_of (until (ends d) (marks 0x0D One t)) ≡ take i t ++ map byte_of (until (ends d) (marks 0x0D One (drop i t)))

pub first-starts : (d : Delims) (t : List ℕ) → Cutting d t true 0
first-starts d t = record { long = omega arith; plain = refl; raw = refl }

module _ (d : Delims) (t : List ℕ) (clean : Bool) (i : ℕ) (inv : Cutting d t clean i) where
  first_done : until (ends d) (marks 0x0D One (drop i t)) ≡ [] → CutOf d t i clean
  unfolding met
  first_done u =
      record {
        long = before-done 0x0D t i (ends d) inv.long u;
        plain = sym (inv.plain ∙ ap (λ l. clean && plain_text d l) u ∙ ap (λ b. clean && b) (plain-nil d) ∙ and-true clean);
        raw = inv.raw ∙ ap (λ l. take i t ++ map byte_of l) u ∙ append-nil (take i t);
      }

  pub first-here : (y : Bool) → i < length t → y ≡ ends d (get_or t i 0) → y ≡ true → CutOf d t i clean
  first-here y h e g = first_done (until-here 0x0D t i (ends d) h (sym e ∙ g))

  pub first-over : length t ≤ i → CutOf d t i clean
  first-over h = first_done (until-over 0x0D t i (ends d) h)

  pub first_on : (y z k : Bool) (j : ℕ) → Proper d → y ≡ ends d (get_or t i 0) → y ≡ false → z ≡ escapes d (get_or t i 0) → Reaches 0x0D t i j k
      → Cutting d t (clean && not z) j
  first_on y z k j p e g f r =
      let b : ℕ = get_or t i 0 in
      let w : List ℕ = between (i + 1) j t in
      let U : List ℕ = until (ends d) (marks 0x0D One (drop j t)) in
      let u : until (ends d) (marks 0x0D One (drop i t)) ≡ b ∷ (hidden w ++ U) = until-on 0x0D t i (ends d) j k r (ends-far d p) (sym e ∙ g) in
      let far : Far (escapes d) = far-escapes d (delim-small d.escape p.escape) (delim-small d.sub p.sub) in
      let plain-u : plain_text d (b ∷ (hidden w ++ U)) ≡ (not z && plain_text d U)
      = plain-cons d b (hidden w ++ U) ∙ rw (← f) (ap (λ x. not z && x) (hidden-plain d far w U)) in
      record {
        long = before_on 0x0D t i (ends d) inv.long j k r (ends-far d p) (sym e ∙ g);
        plain = inv.plain ∙ ap (λ l. clean && plain_text d l) u ∙ ap (λ x. clean && x) plain-u ∙ and_assoc clean (not z) (plain_text d U);
        raw = inv.raw ∙ ap (λ l. take i t ++ map byte_of l) u ∙ ap (λ l. take i t ++ l) (map-append byte_of (b ∷ hidden w) U ∙ ap (λ l. l ++ map byte_of U) (bytes_on 0x0D t i j k r))
            ∙ sym (append_assoc (take i t) (between i j t) (map byte_of U)) ∙ ap (λ l. l ++ map byte_of U) (between-take t i j (omega (arith, r.later)));
      }

  pub first_plain : (y z w : Bool) → i < length t → Proper d → y ≡ ends d (get_or t i 0) → y ≡ false → z ≡ escapes d (get_or t i 0) → w ≡ within 0x20 0x7E (get_or t i 0) → w ≡ true
      → Cutting d t (clean && not z) (i + 1)
  first_plain y z w h p e g f v o = first_on y z true (i + 1) p e g f (plain-on 0x0D t i h (sym v ∙ o))

-- a letter or a digit is no delimiter
pub apart : (b x : ℕ) → alnum b ≡ true → Delim x → eqb b x ≡ false
unfolding all bytes
apart b x h g = ne_eqb b x (λ q. let z : true ≡ false = sym h ∙ ap alnum q ∙ delim-apart x g alnum refl in never z)

pub first-simple : (d : Delims) (t : List ℕ) (clean : Bool) (i : ℕ) (y : Bool) → Cutting d t clean i → i < length t
    → y ≡ alnum (get_or t i 0) → y ≡ true → Proper d → Cutting d t clean (i + 1)
unfolding ends escapes
first-simple d t clean i y inv h e g p =
    let b : ℕ = get_or t i 0 in
    let a : alnum b ≡ true = sym e ∙ g in
    let no_end : false ≡ ends d b = rw (apart b d.field a p.field, apart b d.repetition a p.repetition, apart b d.component a p.component) in
    let no-escape : false ≡ escapes d b = rw (apart b d.escape a p.escape, apart b d.sub a p.sub) in
    subst (λ (k : Bool). Cutting d t k (i + 1)) (and-true clean)
    (first_on d t clean i inv false false true (i + 1) p no_end refl no-escape (plain-on 0x0D t i h (alnum-plain b a)))

-- ---- finish
abbrev pub Finishing : Delims → List ℕ → Bool → ℕ → Type 0
Finishing d t more i =
    Before 0x0D t (is_byte d.field) i
    × (has d.repetition (until (is_byte d.field) (marks 0x0D One t)) ≡ (more || has d.repetition (until (is_byte d.field) (marks 0x0D One (drop i t)))))

pub finish-starts : (d : Delims) (t : List ℕ) → Finishing d t false 0
finish-starts d t = (omega arith, refl)

module _ (d : Delims) (t : List ℕ) (more : Bool) (i : ℕ) (inv : Finishing d t more i) where
  finish-done : until (is_byte d.field) (marks 0x0D One (drop i t)) ≡ [] → TailOf d (met t) i more
  unfolding met
  finish-done u =
      record {
        long = before-done 0x0D t i (is_byte d.field) inv.0 u;
        more = sym (inv.1 ∙ ap (λ l. more || has d.repetition l) u ∙ ap (λ b. more || b) (has-nil d.repetition) ∙ or-false more);
      }

  pub finish-here : i < length t → get_or t i 0 ≡ d.field → TailOf d (met t) i more
  finish-here h e = finish-done (until-here 0x0D t i (is_byte d.field) h (eq-eqb (get_or t i 0) d.field e))

  pub finish-over : length t ≤ i → TailOf d (met t) i more
  finish-over h = finish-done (until-over 0x0D t i (is_byte d.field) h)

  pub finish-on : (k : Bool) (j : ℕ) → d.field < 256 → d.repetition < 256 → (get_or t i 0 ≡ d.field → ⊥) → Reaches 0x0D t i j k
      → Finishing d t (more || eqb (get_or t i 0) d.repetition) j
  finish-on k j f l n r =
      let b : ℕ = get_or t i 0 in
      let w : List ℕ = between (i + 1) j t in
      let U : List ℕ = until (is_byte d.field) (marks 0x0D One (drop j t)) in
      let no : eqb b d.field ≡ false = ne_eqb b d.field n in
      let has-u : has d.repetition (until (is_byte d.field) (marks 0x0D One (drop i t))) ≡ (eqb b d.repetition || has d.repetition U)
      = ap (has d.repetition) (until-on 0x0D t i (is_byte d.field) j k r (far-is d.field f) no)
      ∙ has-cons d.repetition b (hidden w ++ U) ∙ ap (λ x. eqb b d.repetition || x) (hidden-has d.repetition l w U) in (
        before_on 0x0D t i (is_byte d.field) inv.0 j k r (far-is d.field f) no,
        inv.1 ∙ ap (λ x. more || x) has-u ∙ or_assoc more (eqb b d.repetition) (has d.repetition U),
      )

  pub finish-plain : (y : Bool) → i < length t → d.field < 256 → d.repetition < 256 → (get_or t i 0 ≡ d.field → ⊥) → y ≡ within 0x20 0x7E (get_or t i 0) → y ≡ true
      → Finishing d t (more || eqb (get_or t i 0) d.repetition) (i + 1)
  finish-plain y h f l n e g = finish-on true (i + 1) f l n (plain-on 0x0D t i h (sym e ∙ g))

-- ---- behind
module _ (t : List ℕ) (n : ℕ) (d : Delims) (pre : (n ≡ length (until (ends d) (met t))) × (n ≤ length t) × Proper d) where
  next-is : next d (met t) ≡ next_from d (met (drop n t))
  unfolding next
  next-is =
      let e : n ≡ length (until (ends d) (met t)) = pre.0 in
      ap (next_from d) (from-met (ends d) (ends-far d pre.2) t ∙ ap (λ k. met (drop k t)) (sym e))

  pub behind_end : n ≡ length t → met (take (length t - n) (drop n t)) ≡ next d (met t)
  unfolding next_from met
  behind_end h =
      let none : met (drop n t) ≡ [] = marks-over 0x0D t n One (omega arith) in
      ap met (rest-is t n) ∙ none ∙ sym (next-is ∙ ap (next_from d) none)

  at_n : n < length t → met (drop n t) ≡ get_or t n 0 ∷ marks 0x0D (step 0x0D One (get_or t n 0)) (drop (n + 1) t)
  unfolding met mark is_one
  at_n h = marks-here 0x0D t n One h

  pub behind_next : (n ≡ length t → ⊥) → get_or t n 0 ≡ d.component → met (take (length t - (n + 1)) (drop (n + 1) t)) ≡ next d (met t)
  unfolding next_from met mark is_one
  behind_next h e =
      let l : n < length t = let k : n ≤ length t = pre.1 in omega arith in
      let p = printable d.component pre.2.component in
      let y : eqb (get_or t n 0) d.component ≡ true = eq-eqb (get_or t n 0) d.component e in
      let q : marks 0x0D (step 0x0D One (get_or t n 0)) (drop (n + 1) t) ≡ met (drop (n + 1) t) = met-rest 0x0D One (get_or t n 0) d.component (drop (n + 1) t) p.0 p.1 y in
      ap met (rest-is t (n + 1)) ∙ sym (next-is ∙ cc (at_n l, q, y))

  pub behind_same : (n ≡ length t → ⊥) → (get_or t n 0 ≡ d.component → ⊥) → met (take (length t - n) (drop n t)) ≡ next d (met t)
  unfolding next_from
  behind_same h e =
      let l : n < length t = let k : n ≤ length t = pre.1 in omega arith in
      ap met (rest-is t n) ∙ sym (next-is ∙ cc (at_n l, ne_eqb (get_or t n 0) d.component e))

pub ruleset each = (meets_is, line_ends, next_plain, past_over, past_next, behind_end, behind_next, behind_same)
