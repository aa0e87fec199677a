-- The laws of escaping: how a byte is written, and what a loop that escapes a text keeps. Assumes nothing.
use mathlib.Core.Path.{◌≡◌, refl, sym, ap, ◌∙◌}
use mathlib.Core.Bool.{Bool, true}
use mathlib.Core.Option.{none, some}
use mathlib.Core.List.{List, [], ◌∷◌, ◌++◌}
use Prim.Native.Nat.{ℕ, ◌+◌, ◌-◌, ◌≤◌, ◌<◌}
use native.Mathlib.Omega.{arith}
use borrow.Author.Tests.{eq-eqb, ne_eqb}
use lib.ListN.{length, drop, get_or, set, length-append}
use Rattle.rules.specs.declared.Delims.{Delims}
use Rattle.rules.specs.declared.Mode.TheVariants.{One}
use Rattle.rules.specs.Shift.{marks, met}
use Rattle.rules.specs.Escape.{letters, letter_for, escape_met, escape}
use Rattle.rules.specs.Proper.{Proper}
use Rattle.rules.proofs.Logic.{option_cases}
use Rattle.rules.proofs.Modes.{marks-over}
use Rattle.rules.proofs.Header.{delim-far}
use Rattle.rules.proofs.Escaped.{no-letter, unlettered, byte-near, escape-far}
use Rattle.scan.specs.Scan.{between, hidden, Reaches, alnum}
use Rattle.scan.proofs.Laws.{between_none, between-length, alnum-plain}
use Rattle.scan.proofs.Walk.{plain-on, apart}
use Rattle.writer.specs.Over.{Wrote, Put}
use Rattle.writer.specs.Escaping.{unit_as, unit_of}
use Rattle.writer.proofs.Laws.{stored, Splits, Running, run-start, run_room, run-next, run_end}

-- ---- the letter of a byte
module _ (d : Delims) (b : ℕ) where
  pub letter_field : b ≡ d.field → letter_for (letters d) b ≡ some 70
  unfolding letter_for letters
  letter_field e = cc (eq-eqb b d.field e)

  module _ (n1 : b ≡ d.field → ⊥) where
    pub letter_component : b ≡ d.component → letter_for (letters d) b ≡ some 83
    unfolding letter_for letters
    letter_component e = cc (ne_eqb b d.field n1, eq-eqb b d.component e)

    module _ (n2 : b ≡ d.component → ⊥) where
      pub letter_sub : b ≡ d.sub → letter_for (letters d) b ≡ some 84
      unfolding letter_for letters
      letter_sub e = cc (ne_eqb b d.field n1, ne_eqb b d.component n2, eq-eqb b d.sub e)

      module _ (n3 : b ≡ d.sub → ⊥) where
        pub letter_repetition : b ≡ d.repetition → letter_for (letters d) b ≡ some 82
        unfolding letter_for letters
        letter_repetition e = cc (ne_eqb b d.field n1, ne_eqb b d.component n2, ne_eqb b d.sub n3, eq-eqb b d.repetition e)

        module _ (n4 : b ≡ d.repetition → ⊥) where
          pub letter_escape : b ≡ d.escape → letter_for (letters d) b ≡ some 69
          unfolding letter_for letters
          letter_escape e =
              cc (ne_eqb b d.field n1, ne_eqb b d.component n2, ne_eqb b d.sub n3, ne_eqb b d.repetition n4, eq-eqb b d.escape e)

          pub letter_none : (b ≡ d.escape → ⊥) → letter_for (letters d) b ≡ none
          letter_none n5 = no-letter d b (ne_eqb b d.field n1) (ne_eqb b d.component n2) (ne_eqb b d.sub n3) (ne_eqb b d.repetition n4) (ne_eqb b d.escape n5)

pub ruleset letter_laws = (letter_field, letter_component, letter_sub, letter_repetition, letter_escape, letter_none)

-- ---- one byte of one-byte mode written
module _ (d : Delims) (b : ℕ) where
  pub unit_plain : letter_for (letters d) b ≡ none → b < 256 → unit_of d b ≡ b ∷ []
  unfolding unit_of unit_as
  unit_plain e h = rw (e, byte-near b h)

  pub unit_escaped : (l : ℕ) → letter_for (letters d) b ≡ some l → unit_of d b ≡ d.escape ∷ l ∷ d.escape ∷ []
  unfolding unit_of unit_as
  unit_escaped l e = rw e

  pub len_plain : letter_for (letters d) b ≡ none → length (unit_of d b) ≡ 1
  unfolding unit_of unit_as
  len_plain e = rw e

  pub len_escaped : (l : ℕ) → letter_for (letters d) b ≡ some l → length (unit_of d b) ≡ 3
  len_escaped l e = rw (unit_escaped l e)

-- ---- a text written from one byte of one-byte mode to the next
escape-cons : (d : Delims) (x : ℕ) (s : List ℕ) → escape_met d (x ∷ s) ≡ unit_of d x ++ escape_met d s
unfolding escape_met unit_of unit_as
escape-cons d x s = option_cases (letter_for (letters d) x) (λ l q. rw (q, escape_met)) (λ q. rw (q, escape_met))

escape_end : (d : Delims) (t : List ℕ) (i : ℕ) → length t ≤ i → escape_met d (marks 0x0D One (drop i t)) ≡ []
unfolding escape_met
escape_end d t i h = rw (marks-over 0x0D t i One h)

module _ (d : Delims) (p : Proper d) where
  escape-hidden : (w t : List ℕ) → escape_met d (hidden w ++ t) ≡ w ++ escape_met d t
  unfolding hidden
  escape-hidden [] t = refl
  escape-hidden (b ∷ w) t = escape-far d b (hidden w ++ t) (unlettered d p (256 + b) (λ x h. delim-far x h b)) ∙ ap (λ (l : List ℕ). b ∷ l) (escape-hidden w t)

  -- a byte of one-byte mode, what stands between as it is, and the rest from the next such byte on
  escape-next : (t : List ℕ) (i j : ℕ) (k : Bool) → Reaches 0x0D t i j k
      → Splits (escape_met d (marks 0x0D One (drop i t))) (unit_of d (get_or t i 0)) (between (i + 1) j t ++ escape_met d (marks 0x0D One (drop j t)))
  escape-next t i j k g =
      let w : List ℕ = between (i + 1) j t in
      let m : List ℕ = marks 0x0D One (drop j t) in
      record { eq = ap (escape_met d) g.met ∙ escape-cons d (get_or t i 0) (hidden w ++ m) ∙ ap (λ l. unit_of d (get_or t i 0) ++ l) (escape-hidden w m) }

  -- a letter or a digit is no delimiter and stands for itself
  unit-simple : (b : ℕ) → alnum b ≡ true → b < 256 → unit_of d b ≡ b ∷ []
  unfolding unit_of unit_as
  unit-simple b a h = rw (unlettered d p b (λ x g. apart b x a g), byte-near b h)

  simple-next : (t : List ℕ) (i : ℕ) (y : Bool) → i < length t → y ≡ alnum (get_or t i 0) → y ≡ true
      → Splits (escape_met d (marks 0x0D One (drop i t))) (get_or t i 0 ∷ []) (escape_met d (marks 0x0D One (drop (i + 1) t)))
  simple-next t i y h e g =
      let a : alnum (get_or t i 0) ≡ true = sym e ∙ g in
      let r = plain-on 0x0D t i h (alnum-plain (get_or t i 0) a) in
      record { eq = (escape-next t i (i + 1) true r).eq ∙ rw (unit-simple (get_or t i 0) a r.byte, between_none t (i + 1)) }

-- ---- the loop that writes
pub escape-begins : (d : Delims) (t out : List ℕ) → length (escape d t) ≤ length out → Running (escape d t) (escape_met d (marks 0x0D One (drop 0 t))) out out 0
unfolding escape met
escape-begins d t out h = run-start (escape d t) out h

module _ (d : Delims) (t whole out₀ out : List ℕ) (i at : ℕ) (p : Running whole (escape_met d (marks 0x0D One (drop i t))) out₀ out at) where
  pub escape-ends : length t ≤ i → Wrote at out whole out₀
  escape-ends h = run_end p (escape_end d t i h)

  module _ (y : Bool) (h : i < length t) (e : y ≡ alnum (get_or t i 0)) (g : y ≡ true) (q : Proper d) where
    pub simple-room : at < length out
    simple-room = omega (arith, run_room p (simple-next d q t i y h e g))

    pub simple-few : length out₀ < 18446744073709551616 → at + 1 < 18446744073709551616
    simple-few l = omega (arith, p.same, simple-room)

    pub simple-goes : Running whole (escape_met d (marks 0x0D One (drop (i + 1) t))) out₀ (set out at (get_or t i 0)) (at + 1)
    simple-goes = run-next p (simple-next d q t i y h e g) (stored at out (get_or t i 0) simple-room)

  module _ (j : ℕ) (k : Bool) (g : Reaches 0x0D t i j k) (o : Proper d) where
    pub byte-room : at + length (unit_of d (get_or t i 0)) ≤ length out
    byte-room = run_room p (escape-next d o t i j k g)

    module _ (r : ℕ) (y : List ℕ) (q : Put at out (unit_of d (get_or t i 0)) r y) where
      byte-goes : Running whole (between (i + 1) j t ++ escape_met d (marks 0x0D One (drop j t))) out₀ y r
      byte-goes = run-next p (escape-next d o t i j k g) q

      pub stretch-room : r + length (between (i + 1) j t) ≤ length y
      stretch-room = run_room byte-goes {b = between (i + 1) j t} {l = escape_met d (marks 0x0D One (drop j t))} (record { eq = refl })

      pub escape-goes : (n : ℕ) (z : List ℕ) → Put r y (between (i + 1) j t) n z → Running whole (escape_met d (marks 0x0D One (drop j t))) out₀ z n
      escape-goes n z w = run-next byte-goes (record { eq = refl }) w

-- ---- the loop that measures
pub measure-begins : (d : Delims) (t : List ℕ) → 0 + length (escape_met d (marks 0x0D One (drop 0 t))) ≡ length (escape d t)
unfolding escape met
measure-begins d t = omega arith

module _ (d : Delims) (t whole : List ℕ) (i n : ℕ) (p : n + length (escape_met d (marks 0x0D One (drop i t))) ≡ length whole) where
  pub measure-goes : (j u : ℕ) (k : Bool) → Reaches 0x0D t i j k → u ≡ length (unit_of d (get_or t i 0)) → Proper d
      → (n + (u + (j - (i + 1)))) + length (escape_met d (marks 0x0D One (drop j t))) ≡ length whole
  measure-goes j u k g e o =
      omega (arith, simp length-append at (ap length (escape-next d o t i j k g).eq), between-length t (i + 1) j g.inside)

  pub simple-measured : (y : Bool) → i < length t → y ≡ alnum (get_or t i 0) → y ≡ true → Proper d → (n + 1) + length (escape_met d (marks 0x0D One (drop (i + 1) t))) ≡ length whole
  simple-measured y h e g q = omega (arith, ap length (simple-next d q t i y h e g).eq)

  pub measure-ends : length t ≤ i → n ≡ length whole
  measure-ends h = omega (arith, ap length (escape_end d t i h))
