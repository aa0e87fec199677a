-- A text that is escaped: it keeps the shift rule, holds no separator, is unescaped to itself, and is at most three times as long. Over any
-- five delimiters that the header rule allows. Assumes nothing.
use mathlib.Core.Path.{◌≡◌, refl, ap, ◌∙◌}
use mathlib.Core.Bool.{Bool, true, false, not, ◌&&◌}
use mathlib.Core.List.{List, [], ◌∷◌}
use mathlib.Core.Option.{Option, none, some}
use Prim.Native.Nat.{ℕ, ◌+◌, ◌-◌, ◌*◌, ◌≤◌, ◌<◌}
use native.Mathlib.Omega.{arith}
use borrow.Author.Tests.{eqb-true, leb-true, le-ltb, lt-ltb}
use lib.Dec.{eqb, leb}
use lib.ListN.{length}
use Rattle.rules.specs.declared.Delims.{Delims}
use Rattle.rules.specs.declared.Mode.{Mode}
use Rattle.rules.specs.declared.Mode.TheVariants.{One, Bad}
use Rattle.rules.specs.Lists.{bytes, empty, same, has, any, all}
use Rattle.rules.specs.Shift.{step, is_one, walk, mark, marks, met, byte_of}
use Rattle.rules.specs.Frame.{twelve}
use Rattle.rules.specs.Proper.{Delim, Proper}
use Rattle.rules.specs.Escape.{Letter, letters, meaning, letter_for, plain, push, unescape_at, unescape, escape_met, escape}
use Rattle.rules.proofs.Logic.{cases, option_cases, nothing-some, both, not-true, eqb-self}
use Rattle.rules.proofs.Lists.{same-eq, same_self, all_first}
use Rattle.rules.proofs.Modes.{one-is, walk_step, length-met}
use Rattle.rules.proofs.Clean.{Clean, not-bad, agree, stays, met-cons, clean-cons}
use Rattle.rules.proofs.Header.{delim-one, delim-ne, delim-far}

-- a byte that is written as itself: allowed in one-byte mode, and no delimiter
unfoldable pub plain_byte : ℕ → Bool
plain_byte b = is_one (step 0x20 One b) && not (has b twelve)

plain-one : (b : ℕ) → plain_byte b ≡ true → (step 0x20 One b ≡ One) × (has b twelve ≡ false)
unfolding plain_byte
plain-one b h =
    let p = both (is_one (step 0x20 One b)) (not (has b twelve)) h in
    (one-is (step 0x20 One b) p.0, not-true (has b twelve) p.1)

-- ---- no byte takes more than three, in any text and under any delimiters
units-length : (d : Delims) (s : List ℕ) → length (escape_met d s) ≤ 3 * length s
unfolding escape_met
units-length d [] = omega arith
units-length d (x ∷ s) =
    option_cases (letter_for (letters d) x)
    (λ l q. rw (q, escape_met) (omega (arith, units-length d s)))
    (λ q. rw (q, escape_met) (omega (arith, units-length d s)))

pub escaped-length : (d : Delims) (v : List ℕ) → length (escape d v) ≤ 3 * length v
unfolding escape
escaped-length d v = omega (arith, units-length d (met v), length-met v)

-- ---- what is read where a byte is read first
pub push_cases : {P : Type 0} (b : ℕ) (o : Option (List ℕ)) (v : List ℕ) → push b o ≡ some v → ((w : List ℕ) → o ≡ some w → v ≡ b ∷ w → P) → P
unfolding push
push_cases b none v h f = nothing-some h
push_cases b (some w) v h f = f w refl (cc)

-- ---- the table of letters
none_first : (r : Letter) (rs : List Letter) (b : ℕ) → letter_for (r ∷ rs) b ≡ none → (eqb b r.stands ≡ false) × (letter_for rs b ≡ none)
unfolding letter_for
none_first r rs b h = cases (eqb b r.stands) (λ e. (cc, cc)) (λ e. (e, cc))

-- a byte for which no letter stands is no delimiter
pub record Apart (d : Delims) (b : ℕ) : Type 0 where
  pub f : eqb b d.field ≡ false
  pub c : eqb b d.component ≡ false
  pub r : eqb b d.repetition ≡ false
  pub e : eqb b d.escape ≡ false
  pub s : eqb b d.sub ≡ false

apart : (d : Delims) (b : ℕ) → letter_for (letters d) b ≡ none → Apart d b
unfolding letters
apart d b h =
    let a0 = none_first _ _ b h in
    let a1 = none_first _ _ b a0.1 in
    let a2 = none_first _ _ b a1.1 in
    let a3 = none_first _ _ b a2.1 in
    record { f = a0.0; c = a1.0; r = a3.0; e = (none_first _ _ b a3.1).0; s = a2.0 }

-- a separator of the pieces that are read: any delimiter but the escape byte
pub record Separator (d : Delims) (x : ℕ) : Type 0 where
  pub is : Delim x
  pub escape : eqb d.escape x ≡ false
  pub apart : (b : ℕ) → Apart d b → eqb b x ≡ false

module _ (d : Delims) (p : Proper d) where
  pub by_field : Separator d d.field
  by_field = record { is = p.field; escape = p.escape-field; apart = λ b a. a.f }

  pub by-component : Separator d d.component
  by-component = record { is = p.component; escape = p.escape-component; apart = λ b a. a.c }

  pub by-repetition : Separator d d.repetition
  by-repetition = record { is = p.repetition; escape = p.escape-repetition; apart = λ b a. a.r }

-- a letter stands for a delimiter, means it, and is itself written plainly
record Coded (d : Delims) (b l : ℕ) : Type 0 where
  means : meaning (letters d) l ≡ some b
  delim : Delim b
  fine : plain_byte l ≡ true

-- a byte that is none of the five has no letter
pub no-letter : (d : Delims) (y : ℕ) → eqb y d.field ≡ false → eqb y d.component ≡ false → eqb y d.sub ≡ false
    → eqb y d.repetition ≡ false → eqb y d.escape ≡ false → letter_for (letters d) y ≡ none
unfolding letter_for letters
no-letter d y f c s r e = cc

module _ (d : Delims) (p : Proper d) where
  -- so one other than the twelve, or outside one-byte mode
  pub unlettered : (y : ℕ) → ((x : ℕ) → Delim x → eqb y x ≡ false) → letter_for (letters d) y ≡ none
  unlettered y n = no-letter d y (n d.field p.field) (n d.component p.component) (n d.sub p.sub) (n d.repetition p.repetition) (n d.escape p.escape)

  coded-is : (b l : ℕ) → letter_for (letters d) b ≡ some l → Coded d b l
  unfolding letter_for letters meaning plain_byte bytes has any is_one step
  coded-is b l h =
      cases (eqb b d.field) (λ e0. is 70 d.field (cc) e0 refl p.field refl)
      (λ e0. cases (eqb b d.component) (λ e1. is 83 d.component (cc) e1 refl p.component refl)
      (λ e1. cases (eqb b d.sub) (λ e2. is 84 d.sub (cc) e2 refl p.sub refl)
      (λ e2. cases (eqb b d.repetition) (λ e3. is 82 d.repetition (cc) e3 refl p.repetition refl)
      (λ e3. cases (eqb b d.escape) (λ e4. is 69 d.escape (cc) e4 refl p.escape refl)
      (λ e4. let z : ◌≡◌ {A = ℕ} 0 1 = cc in absurd (omega arith))))))
    where
      is : (k x : ℕ) → k ≡ l → eqb b x ≡ true → meaning (letters d) k ≡ some x → Delim x → plain_byte k ≡ true → Coded d b l
      is k x e t m i f = record { means = cc (eqb-true b x t); delim = rw (eqb-true b x t) i; fine = rw e at f }

-- ---- the shape of what is met of an escaped text, without modes
data Esc (d : Delims) : List ℕ → List ℕ → Type 0 where
  done : Esc d [] []
  far : {b : ℕ} {r v : List ℕ} → Esc d r v → Esc d ((256 + b) ∷ r) (b ∷ v)
  near : {b : ℕ} {r v : List ℕ} → letter_for (letters d) b ≡ none → b < 256 → Esc d r v → Esc d (b ∷ r) (b ∷ v)
  coded : {b l : ℕ} {r v : List ℕ} → Coded d b l → Esc d r v → Esc d (d.escape ∷ l ∷ d.escape ∷ r) (b ∷ v)

pub small_one : (b : ℕ) → (step 0x20 One b ≡ Bad → ⊥) → b < 256
unfolding step
small_one b h =
    cases (eqb b 0x1B) (λ e. omega (arith, eqb-true b 0x1B e))
    (λ e. cases (leb b 0x7E) (λ l. omega (arith, leb-true b 0x7E l))
    (λ l. cases (eqb b 0x20) (λ q. omega (arith, eqb-true b 0x20 q)) (λ q. cases (leb 0x20 b) (λ g. absurd (h (cc))) (λ g. absurd (h (cc))))))

pub byte-far : (b : ℕ) → byte_of (256 + b) ≡ b
byte-far b = let e : 256 + b - 256 ≡ b = omega arith in rw (le-ltb (256 + b) 256 (omega arith), e)

pub byte-near : (b : ℕ) → b < 256 → byte_of b ≡ b
byte-near b h = rw (lt-ltb b 256 h)

-- a byte met outside one-byte mode is written as it is
pub escape-far : (d : Delims) (b : ℕ) (t : List ℕ) → letter_for (letters d) (256 + b) ≡ none → escape_met d ((256 + b) ∷ t) ≡ b ∷ escape_met d t
unfolding escape_met
escape-far d b t h = cc (byte-far b)

module _ (d : Delims) (p : Proper d) where
  escape-near : (b : ℕ) (t : List ℕ) → letter_for (letters d) b ≡ none → b < 256 → escape_met d (b ∷ t) ≡ b ∷ escape_met d t
  unfolding escape_met
  escape-near b t h l = cc (byte-near b l)

  escape-coded : (b l : ℕ) (t : List ℕ) → letter_for (letters d) b ≡ some l → escape_met d (b ∷ t) ≡ d.escape ∷ l ∷ d.escape ∷ escape_met d t
  unfolding escape_met
  escape-coded b l t h = cc

  three-marks : (l : ℕ) (w : List ℕ) → step 0x20 One l ≡ One → marks 0x0D One (d.escape ∷ l ∷ d.escape ∷ w) ≡ d.escape ∷ l ∷ d.escape ∷ marks 0x0D One w
  unfolding marks mark is_one
  three-marks l w h = simp (stays d.escape (delim-one d.escape p.escape), stays l h)

  three-walk : (l : ℕ) (w : List ℕ) → step 0x20 One l ≡ One → walk 0x20 One (d.escape ∷ l ∷ d.escape ∷ w) ≡ walk 0x20 One w
  unfolding walk
  three-walk l w h = simp (delim-one d.escape p.escape, h)

  -- the text as it is written from a mode on
  abbrev wrote : Mode → List ℕ → List ℕ
  wrote m v = escape_met d (marks 0x0D m v)

  wrote-step : (m : Mode) (b : ℕ) (v : List ℕ) → (step 0x20 m b ≡ Bad → ⊥) → wrote m (b ∷ v) ≡ escape_met d (mark m b ∷ marks 0x0D (step 0x20 m b) v)
  unfolding marks
  wrote-step m b v h = ap (λ (z : Mode). escape_met d (mark m b ∷ marks 0x0D z v)) (agree 0x0D m b h)

  marks-step : (m : Mode) (b : ℕ) (w : List ℕ) → (step 0x20 m b ≡ Bad → ⊥) → marks 0x0D m (b ∷ w) ≡ mark m b ∷ marks 0x0D (step 0x20 m b) w
  unfolding marks
  marks-step m b w h = ap (λ (z : Mode). mark m b ∷ marks 0x0D z w) (agree 0x0D m b h)

  record Shape (m : Mode) (v : List ℕ) : Type 0 where
    esc : Esc d (marks 0x0D m (wrote m v)) v
    walks : walk 0x20 m (wrote m v) ≡ One

  itself : (m : Mode) (b : ℕ) (v : List ℕ) → (step 0x20 m b ≡ Bad → ⊥) → wrote m (b ∷ v) ≡ b ∷ wrote (step 0x20 m b) v → Shape (step 0x20 m b) v
      → Esc d (mark m b ∷ marks 0x0D (step 0x20 m b) (wrote (step 0x20 m b) v)) (b ∷ v) → Shape m (b ∷ v)
  itself m b v n e s x =
      record {
        esc = rw (e, marks-step m b (wrote (step 0x20 m b) v) n) x;
        walks = rw (e, walk_step 0x20 m b (wrote (step 0x20 m b) v) refl) s.walks;
      }

  one-shape : (b : ℕ) (v : List ℕ) → (step 0x20 One b ≡ Bad → ⊥) → Shape (step 0x20 One b) v → Shape One (b ∷ v)
  unfolding mark is_one
  one-shape b v n s =
      option_cases (letter_for (letters d) b)
      (λ l h.
      let c = coded-is d p b l h in
      let o = delim-one b c.delim in
      let q = (plain-one l c.fine).0 in
      let s' : Shape One v = rw o at s in
      let e : wrote One (b ∷ v) ≡ d.escape ∷ l ∷ d.escape ∷ wrote One v = wrote-step One b v n ∙ (rw o (escape-coded b l (marks 0x0D One v) h)) in
      record {
        esc = rw (e, three-marks l (wrote One v) q) (coded c s'.esc);
        walks = rw (e, three-walk l (wrote One v) q) s'.walks;
      })
      (λ h.
      let l = small_one b n in
      itself One b v n (wrote-step One b v n ∙ escape-near b (marks 0x0D (step 0x20 One b) v) h l) s (near h l s.esc))

  far-shape : (m : Mode) (b : ℕ) (v : List ℕ) → is_one m ≡ false → (step 0x20 m b ≡ Bad → ⊥) → Shape (step 0x20 m b) v → Shape m (b ∷ v)
  far-shape m b v o n s =
      let k : mark m b ≡ 256 + b = unfold mark in rw o in
      itself m b v n (wrote-step m b v n ∙ (rw k (escape-far d b (marks 0x0D (step 0x20 m b) v) (unlettered d p (256 + b) (λ x h. delim-far x h b))))) s (rw k (far s.esc))

  shape : (m : Mode) (v : List ℕ) → walk 0x20 m v ≡ One → Shape m v
  unfolding walk
  shape m [] h = record { esc = unfold marks escape_met in done; walks = unfold marks escape_met in h }
  shape m (b ∷ v) h =
      let n = not-bad 0x20 (step 0x20 m b) v h in
      let s = shape (step 0x20 m b) v h in
      cases (is_one m)
      (λ e. let q = one-is m e in rw q (one-shape b v (rw q at n) (rw q at s)))
      (λ e. far-shape m b v e n s)

  -- ---- what the shape says
  esc-unescaped : {r v : List ℕ} → Esc d r v → unescape_at d plain r ≡ some v
  unfolding unescape_at push
  esc-unescaped done = refl
  esc-unescaped (far {b} x) = cc (delim-far d.escape p.escape b, delim-far d.sub p.sub b, byte-far b, esc-unescaped x)
  esc-unescaped (near {b} h l x) = let a = apart d b h in cc (a.e, a.s, byte-near b l, esc-unescaped x)
  esc-unescaped (coded {b} {l} c x) = cc (eqb-self d.escape, c.means, esc-unescaped x)

  esc-free : (x : ℕ) → Separator d x → {r v : List ℕ} → Esc d r v → has x r ≡ false
  unfolding has any
  esc-free x s done = refl
  esc-free x s (far {b} y) = cc (delim-far x s.is b, esc-free x s y)
  esc-free x s (near {b} h l y) = cc (s.apart b (apart d b h), esc-free x s y)
  esc-free x s (coded {b} {l} c y) = cc (s.escape, delim-ne x s.is l (plain-one l c.fine).1, esc-free x s y)

  esc-empty : {r v : List ℕ} → Esc d r v → empty r ≡ empty v
  unfolding empty
  esc-empty done = refl
  esc-empty (far y) = refl
  esc-empty (near h l y) = refl
  esc-empty (coded c y) = refl

  -- THE LAWS OF AN ESCAPED TEXT
  module _ (v : List ℕ) (h : Clean v) where
    sh : Esc d (met (escape d v)) v
    unfolding met escape
    sh = (shape One v h).esc

    pub escaped-clean : Clean (escape d v)
    unfolding met escape
    escaped-clean = (shape One v h).walks

    pub escaped-back : unescape d (met (escape d v)) ≡ some v
    unfolding unescape
    escaped-back = esc-unescaped sh

    pub escaped-free : (x : ℕ) → Separator d x → has x (met (escape d v)) ≡ false
    escaped-free x s = esc-free x s sh

    pub escaped-empty : empty (met (escape d v)) ≡ empty v
    escaped-empty = esc-empty sh

    -- 21: a text other than "" is not written so
    pub escaped-null : same v (bytes "\"\"") ≡ false → same (met (escape d v)) (bytes "\"\"") ≡ false
    escaped-null n =
        cases (same (met (escape d v)) (bytes "\"\""))
        (λ e.
        let q = same-eq (met (escape d v)) (bytes "\"\"") e in
        let e1 = delim-ne d.escape p.escape 34 (unfold has any bytes in refl) in
        let e2 = delim-ne d.sub p.sub 34 (unfold has any bytes in refl) in
        let u : unescape d (bytes "\"\"") ≡ some (bytes "\"\"") = unfold unescape unescape_at bytes push in cc in
        let w : v ≡ bytes "\"\"" = cc (escaped-back) in
        cc (same_self (bytes "\"\"")))
        (λ e. e)

  -- ---- a word of plain bytes is written as itself
  word_on : (b : ℕ) (v : List ℕ) → plain_byte b ≡ true → (escape d v ≡ v) × Clean v → (escape d (b ∷ v) ≡ b ∷ v) × Clean (b ∷ v)
  unfolding escape
  word_on b v h r =
      let q = plain-one b h in
      let l = small_one b (λ e. let z : ◌≡◌ {A = ℕ} 0 1 = cc in omega arith) in
      (rw (met-cons b q.0 v) (escape-near b (met v) (unlettered d p b (λ x i. delim-ne x i b q.1)) l ∙ (rw r.0)), clean-cons b q.0 v r.1)

  pub word : (v : List ℕ) → all plain_byte v ≡ true → (escape d v ≡ v) × Clean v
  word [] h = (unfold escape escape_met met marks in refl, unfold walk in refl)
  word (b ∷ v) h = let a = all_first plain_byte b v h in word_on b v a.0 (word v a.1)
