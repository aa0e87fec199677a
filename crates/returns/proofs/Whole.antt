-- Any message: its pieces each keep the shift rule by themselves, and what is unescaped of one keeps it, is no longer, and is "" only where
-- the piece is. Assumes nothing.
use mathlib.Core.Path.{◌≡◌, refl, sym, ap, ◌∙◌}
use mathlib.Core.Bool.{Bool, true, false}
use mathlib.Core.List.{List, [], ◌∷◌}
use mathlib.Core.Option.{none, some}
use Prim.Native.Nat.{ℕ, ◌≤◌}
use native.Mathlib.Omega.{arith}
use borrow.Author.Tests.{eqb-true, eq-eqb}
use lib.Dec.{eqb}
use lib.ListN.{length}
use Rattle.rules.specs.declared.Delims.{Delims}
use Rattle.rules.specs.declared.Mode.{Mode}
use Rattle.rules.specs.declared.Mode.TheVariants.{One, Bad}
use Rattle.rules.specs.Told.{◌when◌}
use Rattle.rules.specs.Lists.{bytes, empty, or_empty, same, has, any, split, nth}
use Rattle.rules.specs.Shift.{walk, is_one, step, mark, marks, met, byte_of}
use Rattle.rules.specs.Frame.{twelve}
use Rattle.rules.specs.Proper.{Delim, Proper}
use Rattle.rules.specs.Value.{Rule, fault}
use Rattle.rules.specs.Escape.{Letter, letters, meaning, At, plain, opened, named, unescape_at, unescape}
use Rattle.rules.specs.Judge.{plain_of, fault_or23, judge}
use Rattle.rules.proofs.Logic.{cases, option_cases, never, then-none, when-none, nothing-some}
use Rattle.rules.proofs.Lists.{same-eq, same_self}
use Rattle.rules.proofs.Modes.{one-is, length-marks, met-one}
use Rattle.rules.proofs.Header.{delim-one, delim-small}
use Rattle.rules.proofs.Clean.{Clean, not-bad, agree, clean-keeps, keeps-clean, clean_free, end-0D}
use Rattle.rules.proofs.Pieces.{piece_bytes}
use Rattle.rules.proofs.Escaped.{push_cases, small_one, byte-far, byte-near}
use Rattle.rules.proofs.Where.{cut}
use Rattle.returns.proofs.Groups.{Keeps}

-- a text as it is met that begins in one-byte mode and ends there
pub record Whole (r : List ℕ) : Type 0 where
  pub text : List ℕ
  pub is : r ≡ met text
  pub clean : Clean text

-- a piece of such a text is one
pub whole-nth : (x : ℕ) → Delim x → (r : List ℕ) → Whole r → (i : ℕ) → Whole (nth (split x r) i)
whole-nth x h r w i =
    let c = cut x i w.text h (clean-keeps 0x0D w.text w.clean) in
    record {
      text = c.own;
      is = ap (λ (t : List ℕ). nth (split x t) i) w.is ∙ sym c.is;
      clean = keeps-clean 0x0D c.own c.own-kept (piece_bytes c 0x0D (clean_free 0x0D end-0D One w.text w.clean)).1;
    }

pub whole-nil : Whole []
whole-nil = record { text = []; is = unfold met marks in refl; clean = unfold walk in refl }

-- ---- unescaping
-- where a reader stands, an escape acts in one-byte mode
FitsAt : At → Mode → Type 0
FitsAt plain m = Unit
FitsAt opened m = m ≡ One
FitsAt (named x) m = (m ≡ One) × Delim x

byte-mark : (m : Mode) (b : ℕ) → (step 0x20 m b ≡ Bad → ⊥) → byte_of (mark m b) ≡ b
unfolding mark
byte-mark m b n =
    cases (is_one m)
    (λ e. let q = one-is m e in rw e (byte-near b (small_one b (rw q at n))))
    (λ e. rw e (byte-far b))

mark-one : (m : Mode) (b : ℕ) → m ≡ One → mark m b ≡ b
unfolding mark is_one
mark-one m b e = rw e

-- what a letter stands for is a delimiter, and the letter is allowed
meaning-first : (r : Letter) (rs : List Letter) (l x : ℕ) {P : Type 0} → meaning (r ∷ rs) l ≡ some x → (r.letter ≡ l → r.stands ≡ x → P) → (meaning rs l ≡ some x → P) → P
unfolding meaning
meaning-first r rs l x h f g = cases (eqb l r.letter) (λ e. f (sym (eqb-true l r.letter e)) (cc)) (λ e. g (cc))

means : (d : Delims) → Proper d → (l x : ℕ) → meaning (letters d) l ≡ some x → Delim x × (step 0x20 One l ≡ One)
unfolding letters step
means d p l x h =
    meaning-first _ _ l x h (λ e f. (rw f at p.field, rw (← e)))
    (λ h. meaning-first _ _ l x h (λ e f. (rw f at p.component, rw (← e)))
    (λ h. meaning-first _ _ l x h (λ e f. (rw f at p.sub, rw (← e)))
    (λ h. meaning-first _ _ l x h (λ e f. (rw f at p.repetition, rw (← e)))
    (λ h. meaning-first _ _ l x h (λ e f. (rw f at p.escape, rw (← e)))
    (λ h. let z : none ≡ some x = unfold meaning in h in nothing-some z)))))

module _ (d : Delims) (b : ℕ) (s v : List ℕ) {P : Type 0} where
  plain_step : unescape_at d plain (b ∷ s) ≡ some v → (eqb b d.escape ≡ true → unescape_at d opened s ≡ some v → P)
      → ((w : List ℕ) → eqb b d.escape ≡ false → unescape_at d plain s ≡ some w → v ≡ byte_of b ∷ w → P) → P
  unfolding unescape_at
  plain_step u f g =
      cases (eqb b d.escape)
      (λ e. f e (cc))
      (λ e. cases (eqb b d.sub)
      (λ q. let z : none ≡ some v = cc in nothing-some z)
      (λ q. push_cases (byte_of b) (unescape_at d plain s) v (cc) (λ w h k. g w e h k)))

  opened-step : unescape_at d opened (b ∷ s) ≡ some v → ((x : ℕ) → meaning (letters d) b ≡ some x → unescape_at d (named x) s ≡ some v → P) → P
  unfolding unescape_at
  opened-step u f = option_cases (meaning (letters d) b) (λ x e. f x e (cc)) (λ e. let z : none ≡ some v = cc in nothing-some z)

  named_step : (x : ℕ) → unescape_at d (named x) (b ∷ s) ≡ some v → ((w : List ℕ) → eqb b d.escape ≡ true → unescape_at d plain s ≡ some w → v ≡ x ∷ w → P) → P
  unfolding unescape_at
  named_step x u f =
      cases (eqb b d.escape)
      (λ e. push_cases x (unescape_at d plain s) v (cc) (λ w h k. f w e h k))
      (λ e. let z : none ≡ some v = cc in nothing-some z)

module _ (d : Delims) (p : Proper d) where
  -- the mode goes on through what is unescaped, and it is no longer
  unescaped-law : (c : List ℕ) (a : At) (m : Mode) (v : List ℕ) → FitsAt a m → walk 0x20 m c ≡ One → unescape_at d a (marks 0x0D m c) ≡ some v
      → (walk 0x20 m v ≡ One) × (length v ≤ length c)
  unfolding FitsAt walk marks unescape_at
  unescaped-law [] plain m v f h u = let q : [] ≡ v = cc in (rw (← q) h, rw (← q) (omega arith))
  unescaped-law [] opened m v f h u = nothing-some u
  unescaped-law [] (named x) m v f h u = nothing-some u
  unescaped-law (b ∷ c) plain m v f h u =
      let n = not-bad 0x20 (step 0x20 m b) c h in
      let g = agree 0x0D m b n in
      plain_step d (mark m b) (marks 0x0D (step 0x0D m b) c) v u
      (λ e u'.
      let q = met-one m b d.escape (delim-small d.escape p.escape) e in
      let o : step 0x20 m b ≡ One = rw (q.0, q.1) (delim-one d.escape p.escape) in
      let r = unescaped-law c opened (step 0x20 m b) v o h (rw g at u') in
      (cc r.0, omega (arith, r.1)))
      (λ w e u' k.
      let r = unescaped-law c plain (step 0x20 m b) w tt h (rw g at u') in
      let y : v ≡ b ∷ w = cc (byte-mark m b n) in
      (rw y r.0, rw y (omega (arith, r.1))))
  unescaped-law (b ∷ c) opened m v f h u =
      let n = not-bad 0x20 (step 0x20 m b) c h in
      let g = agree 0x0D m b n in
      opened-step d (mark m b) (marks 0x0D (step 0x0D m b) c) v u
      (λ x e u'.
      let t = means d p b x (rw (mark-one m b f) at e) in
      let o : step 0x20 m b ≡ One = rw f t.1 in
      let r = unescaped-law c (named x) (step 0x20 m b) v (o, t.0) h (rw g at u') in
      (cc r.0, omega (arith, r.1)))
  unescaped-law (b ∷ c) (named x) m v f h u =
      let n = not-bad 0x20 (step 0x20 m b) c h in
      let g = agree 0x0D m b n in
      named_step d (mark m b) (marks 0x0D (step 0x0D m b) c) v x u
      (λ w e u' k.
      let q = met-one m b d.escape (delim-small d.escape p.escape) e in
      let o : step 0x20 m b ≡ One = rw (q.0, q.1) (delim-one d.escape p.escape) in
      let o' : step 0x20 m x ≡ One = rw q.0 (delim-one x f.1) in
      let r = unescaped-law c plain (step 0x20 m b) w tt h (rw g at u') in
      (rw (k, o') (rw o at r.0), rw k (omega (arith, r.1))))

  -- an escape gives a delimiter, and so never an empty text nor a quote
  opened-first : (r v : List ℕ) {P : Type 0} → unescape_at d opened r ≡ some v → ((y : ℕ) (w : List ℕ) → v ≡ y ∷ w → Delim y → P) → P
  unfolding unescape_at
  opened-first [] v u f = nothing-some u
  opened-first (b ∷ []) v u f = opened-step d b [] v u (λ x e u'. nothing-some u')
  opened-first (b ∷ c ∷ r) v u f =
      opened-step d b (c ∷ r) v u (λ x e u'. named_step d c r v x u' (λ w q h k. f x w k (means d p b x e).0))

  nothing-of : (r : List ℕ) → unescape_at d plain r ≡ some [] → r ≡ []
  nothing-of [] u = refl
  nothing-of (b ∷ s) u =
      plain_step d b s [] u
      (λ e u'. opened-first s [] u' (λ y w k h. cc))
      (λ w e u' k. cc)

  quote-first : (c w : List ℕ) {P : Type 0} → Clean c → unescape_at d plain (met c) ≡ some (34 ∷ w)
      → ((c' : List ℕ) → met c ≡ 34 ∷ met c' → Clean c' → unescape_at d plain (met c') ≡ some w → P) → P
  unfolding met marks walk mark is_one
  quote-first [] w h u f = let z : ◌≡◌ {A = ℕ} 0 1 = (unfold unescape_at in cc) in absurd (omega arith)
  quote-first (b ∷ c) w h u f =
      let n = not-bad 0x20 (step 0x20 One b) c h in
      let g = agree 0x0D One b n in
      plain_step d b (marks 0x0D (step 0x0D One b) c) (34 ∷ w) u
      (λ e u'.
      opened-first _ (34 ∷ w) u'
      (λ y z k t.
      let q : y ≡ 34 = cc in
      let i : has 34 twelve ≡ false = unfold has any bytes in refl in
      never (cc (ap (λ (a : ℕ). has a twelve) q))))
      (λ w' e u' k.
      let q : b ≡ 34 = cc (byte-near b (small_one b n)) in
      let o : step 0x20 One b ≡ One = rw q (unfold step in refl) in
      let y : w' ≡ w = cc in
      f c (rw (g, o, q)) (rw o at h) (rw (g, o, y) at u'))

  quotes : (r : List ℕ) → Whole r → unescape d r ≡ some (bytes "\"\"") → r ≡ bytes "\"\""
  unfolding unescape bytes
  quotes r W u =
      quote-first W.text (34 ∷ []) W.clean (rw W.is at u)
      (λ c e h u1. quote-first c [] h u1 (λ c' e' h' u2. cc (W.is, e, e', nothing-of (met c') u2)))

-- ---- a component that is judged without fault: what the sheet asks of its text
pub record Fair (q : Bool) (r : Rule) (raw v : List ℕ) : Type 0 where
  pub keeps : Keeps q r v
  pub clean : Clean v
  pub size : length v ≤ length raw
  pub blank : empty v ≡ empty raw

module _ (d : Delims) (p : Proper d) where
  unescaped-clean : (r v : List ℕ) → Whole r → unescape d r ≡ some v → Clean v × (length v ≤ length r)
  unfolding unescape FitsAt met
  unescaped-clean r v W u =
      let l = unescaped-law d p W.text plain One v tt W.clean (rw W.is at u) in
      (l.0, rw (W.is, length-marks) l.1)

  blank_of : (raw v : List ℕ) → unescape d raw ≡ some v → empty v ≡ empty raw
  unfolding unescape unescape_at empty
  blank_of raw [] u = rw (nothing-of d p raw u)
  blank_of [] (x ∷ v) u = cc
  blank_of (b ∷ raw) (x ∷ v) u = refl

  pub fair : (q : Bool) (r : Rule) (raw : List ℕ) → Whole raw → judge d q r raw ≡ 0 → Fair q r raw (plain_of d raw)
  unfolding judge fault_or23 or_empty
  fair q r raw W h =
      let z = then-none (21 when same raw (bytes "\"\"")) (fault_or23 q r (unescape d raw)) h in
      let n = when-none 20 (same raw (bytes "\"\"")) z.0 in
      option_cases (unescape d raw)
      (λ v e.
      let c = unescaped-clean raw v W e in
      let m : same v (bytes "\"\"") ≡ false =
      cases (same v (bytes "\"\""))
      (λ t.
      let y : raw ≡ bytes "\"\"" = quotes d p raw W (e ∙ ap some (same-eq v (bytes "\"\"") t)) in
      cc (same_self (bytes "\"\"")))
      (λ t. t) in
      rw e (record { keeps = (m, eq-eqb (fault q r v) 0 (rw e at z.1)); clean = c.0; size = c.1; blank = blank_of raw v e }))
      (λ e. absurd (let x : ◌≡◌ {A = ℕ} 23 0 = rw e at z.1 in omega arith))
