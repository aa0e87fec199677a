-- The laws of OBX-5's lines. Assumes nothing.
use Prim.Native.Nat.{ℕ, ◌+◌}
use native.Mathlib.Omega.{arith}
use mathlib.Core.Path.{◌≡◌, refl, sym, ap, ◌∙◌}
use mathlib.Core.List.{List, [], ◌∷◌, ◌++◌}
use mathlib.Core.Bool.{Bool, true, false, ◌&&◌, ◌||◌}
use borrow.Author.Tests.{ne_eqb}
use lib.Dec.{eqb}
use lib.ListN.{length}
use Rattle.rules.specs.declared.Delims.{Delims}
use Rattle.rules.specs.Lists.{or_empty, bytes, nth, same, split}
use Rattle.rules.specs.Shift.{met}
use Rattle.rules.specs.Escape.{unescape, unescape_at}
use Rattle.rules.specs.Judge.{plain_of, is_sn, raw_four}
use Rattle.rules.proofs.Logic.{cases, neither}
use Rattle.plain_bytes.specs.Bytes.{until, is_byte}
use Rattle.scan.specs.Scan.{ends, onward, CutOf}
use Rattle.scan.proofs.Laws.{onward-add, first_piece}
use Rattle.unescape.specs.Unescaped.{fill}
use Rattle.components.proofs.Pieces.{piece-at}
use Rattle.fill.specs.declared.Lines.{Lines}
use Rattle.fill.specs.Fill.{Filled, keyed}
use Rattle.fill.specs.Lines.{Continued}
use Rattle.fill.proofs.Laws.{clean-whole, clean-plain, then, lines_as}
use Rattle.report_value.specs.Value.{four_lines, four_in, only_in, value_line}

ends-component : (d : Delims) (b : ℕ) → ends d b ≡ false → eqb b d.component ≡ false
unfolding ends
ends-component d b e = (neither (eqb b d.field || eqb b d.repetition) (eqb b d.component) e).1

-- what ends earlier is cut no further
until-less : (p q : ℕ → Bool) → ((b : ℕ) → p b ≡ false → q b ≡ false) → (m : List ℕ) → until q (until p m) ≡ until p m
unfolding until
until-less p q w [] = refl
until-less p q w (x ∷ m) = cases (p x) (λ e. cc) (λ e. cc (w x e, until-less p q w m))

module _ (d : Delims) (f : List ℕ) where
  nth-is : (t a : List ℕ) (n : ℕ) → met t ≡ onward d.component n (met f) → met a ≡ until (is_byte d.component) (met t) → met a ≡ nth (split d.component (met f)) n
  nth-is t a n e g = g ∙ ap (until (is_byte d.component)) e ∙ sym (piece-at d.component n (met f))

  skip-on : (t u : List ℕ) (n : ℕ) → met t ≡ onward d.component n (met f) → met u ≡ onward d.component 1 (met t) → met u ≡ onward d.component (n + 1) (met f)
  skip-on t u n e g = g ∙ ap (onward d.component 1) e ∙ onward-add d.component n 1 (met f)

  pub numbers_is : (l m n o p : Lines) (t u w a b c e h i j k : List ℕ)
      → Continued 1 l m (λ d. keyed d h (met a) ∷ []) → Continued 1 m n (λ d. keyed d i (met b) ∷ [])
      → Continued 1 n o (λ d. keyed d j (met c) ∷ []) → Continued 1 o p (λ d. keyed d k (met e) ∷ []) → d ≡ l.delims
      → met t ≡ onward d.component 1 (met f) → met u ≡ onward d.component 1 (met t) → met w ≡ onward d.component 1 (met u)
      → met a ≡ until (is_byte d.component) (met f) → met b ≡ until (is_byte d.component) (met t)
      → met c ≡ until (is_byte d.component) (met u) → met e ≡ until (is_byte d.component) (met w)
      → h ≡ bytes "compare=" → i ≡ bytes "value=" → j ≡ bytes "join=" → k ≡ bytes "second=" → Continued 4 l p (λ d. four_lines d (four_in d (met f)))
  unfolding four_lines four_in
  numbers_is l m n o p t u w a b c e h i j k p1 p2 p3 p4 ed et eu ew fa fb fc fe eh ei ej ek =
      let u2 : met u ≡ onward d.component 2 (met f) = skip-on t u 1 et eu in
      let w3 : met w ≡ onward d.component 3 (met f) = skip-on u w 2 u2 ew in
      lines_as (then (then (then p1 p2) p3) p4)
      (rw (← ed, eh, ei, ej, ek, fa ∙ sym (first_piece d.component (met f)), nth-is t b 1 et fb, nth-is u c 2 u2 fc, nth-is w e 3 w3 fe) refl)

module _ (l m : Lines) (f : List ℕ) where
  module _ (q : Bool) (kind : List ℕ) (g : q ≡ is_sn (plain_of l.delims kind)) where
    pub parts_sn : q ≡ true → Continued 4 l m (λ d. four_lines d (four_in d (met f))) → Continued 4 l m (λ d. four_lines d (raw_four d (plain_of d kind) (met f)))
    unfolding raw_four four_in
    parts_sn h p = lines_as p (rw (← g, h) refl)

    pub parts_one : q ≡ false → Continued 4 l m (λ d. four_lines d (only_in d (met f))) → Continued 4 l m (λ d. four_lines d (raw_four d (plain_of d kind) (met f)))
    unfolding raw_four only_in
    parts_one h p = lines_as p (rw (← g, h) refl)

  module _ (k : List ℕ) (i : k ≡ bytes "value=") where
    pub value_part : (a : List ℕ) → met a ≡ until (is_byte l.delims.component) (met f) → Continued 1 l m (λ d. keyed d k (met a) ∷ [])
        → Continued 1 l m (λ d. value_line d (met f) ∷ [])
    unfolding value_line
    value_part a e p = lines_as p (rw (first_piece l.delims.component (met f), ← e, i) refl)

    pub value_whole : (n : ℕ) (q : Bool) → CutOf l.delims f n q → (q && eqb n (length f)) ≡ true → Continued 1 l m (λ d. (k ++ f) ∷ [])
        → Continued 1 l m (λ d. value_line d (met f) ∷ [])
    unfolding value_line
    value_whole n q c h p =
        let d = l.delims in
        let e : until (ends d) (met f) ≡ met f = clean-whole d f n q c h in
        let u : until (is_byte d.component) (met f) ≡ met f = ap (until (is_byte d.component)) (sym e) ∙ until-less (ends d) (is_byte d.component) (ends-component d) (met f) ∙ e in
        lines_as p (rw (first_piece d.component (met f), u, clean-plain d f n q c h, i) refl)

pub single_is : (l m n o p : Lines) (f a b c : List ℕ) → Continued 1 l m (λ d. a ∷ []) → Continued 1 m n (λ d. value_line d f ∷ [])
    → Continued 1 n o (λ d. b ∷ []) → Continued 1 o p (λ d. c ∷ []) → a ≡ bytes "compare=" → b ≡ bytes "join=" → c ≡ bytes "second="
    → Continued 4 l p (λ d. four_lines d (only_in d f))
unfolding four_lines only_in value_line or_empty unescape unescape_at bytes
single_is l m n o p f a b c p1 p2 p3 p4 ea eb ec = lines_as (then (then (then p1 p2) p3) p4) (rw (ea, eb, ec) refl)

sn-far : (n : ℕ) (t : Bool) → (n ≡ 2 → ⊥) → (eqb n 2 && t) ≡ false
sn-far n t h = rw (ne_eqb n 2 h)

pub sn_is : (w x : List ℕ) (n : ℕ) (t : Bool) → Filled n x w (0 ∷ 0 ∷ []) → t ≡ same x (83 ∷ 78 ∷ []) → (eqb n 2 && t) ≡ is_sn w
unfolding bytes same fill
sn_is [] x n t f e = sn-far n t (λ g. let z : n ≡ 2 = g in omega (arith, f.ends))
sn_is (a ∷ []) x n t f e = sn-far n t (λ g. let z : n ≡ 2 = g in omega (arith, f.ends)) ∙ cases (eqb a 83) (λ u. cc) (λ u. cc)
sn_is (a ∷ b ∷ []) x n t f e = rw (e, f.is, f.ends)
sn_is (a ∷ b ∷ c ∷ w) x n t f e =
    sn-far n t (λ g. let z : n ≡ 2 = g in omega (arith, f.ends)) ∙ cases (eqb a 83) (λ u. cases (eqb b 78) (λ v. cc) (λ v. cc)) (λ u. cc)
