-- Laws of the first components of a field. Assumes nothing.
use Prim.Native.Nat.{ℕ, ◌+◌, ◌-◌, ◌≤◌}
use native.Mathlib.Omega.{arith}
use mathlib.Core.Path.{◌≡◌, sym, ap, ◌∙◌}
use mathlib.Core.List.{List, [], ◌∷◌, map}
use mathlib.Core.Bool.{Bool, true, false}
use lib.ListN.{length, take, drop}
use Rattle.std.specs.declared.result.Result.{Result}
use Rattle.std.specs.declared.result.Result.TheVariants.{Ok}
use Rattle.std.specs.Result.{result_and}
use Rattle.rules.specs.declared.Kind.{Kind}
use Rattle.rules.specs.declared.Delims.{Delims}
use Rattle.rules.specs.Told.{◌then◌}
use Rattle.rules.specs.Lists.{has}
use Rattle.rules.specs.Shift.{met, byte_of}
use Rattle.rules.specs.Proper.{Proper}
use Rattle.rules.specs.Judge.{judge}
use Rattle.rules.proofs.Logic.{then-zero}
use Rattle.rules.proofs.Lists.{rest-is}
use Rattle.rules.proofs.Modes.{length-met}
use Rattle.plain_bytes.specs.Bytes.{until, is_byte}
use Rattle.scan.specs.Scan.{ends, next, plain_text, CutOf, TailOf}
use Rattle.scan.proofs.Laws.{from-met, piece-met, ends-far}
use Rattle.value.specs.Rules.{rule_of, fault_no}
use Rattle.value.specs.declared.Rule.{Rule}
use Rattle.value.specs.declared.Place.{Place}
use Rattle.value.specs.declared.Place.TheVariants.{Unread, Must, May}
use Rattle.judge.specs.Judge.{Clean, Small}
use Rattle.components.specs.Components.{component_at, forward, place_fault, Smalls, JudgedOf, components_fault, ComponentsOf}
use Rattle.components.proofs.Pieces.{forward-repeats, forward-long, forward-short, rest-long, rest_more}

-- ---- the component at the start of t, by itself
module _ (d : Delims) (t : List ℕ) (n : ℕ) (clean : Bool) (c : CutOf d t n clean) where
  pub head-met : met (take n t) ≡ component_at d t
  head-met = ap (λ k. met (take k t)) c.long ∙ piece-met (ends d) t

  pub head-clean : clean ≡ true → Clean d (take n t)
  head-clean h = record { plain = ap (plain_text d) head-met ∙ sym c.plain ∙ h; bytes = ap (map byte_of) head-met ∙ c.raw }

-- what is left from the next component on is no longer
pub next-within : (t u : List ℕ) (d : Delims) → Proper d → met u ≡ next d (met t) → length u ≤ length t
unfolding forward
next-within t u d p e = omega (arith, length-met t, length-met u, ap length e, forward-short d p 1 (met t))

-- ---- one component
module _ (d : Delims) (place : Place) where
  pub unread-is : (raw : List ℕ) → place ≡ Unread → 0 ≡ place_fault d place raw
  unfolding place_fault
  unread-is raw e = rw e

  module _ (f : Result (Unit {0}) Kind) (r : Rule) (raw : List ℕ) where
    pub must-is : place ≡ Must r → fault_no f ≡ judge d true (rule_of r) raw → fault_no f ≡ place_fault d place raw
    unfolding place_fault
    must-is e h = rw e h

    pub may-is : place ≡ May r → fault_no f ≡ judge d false (rule_of r) raw → fault_no f ≡ place_fault d place raw
    unfolding place_fault
    may-is e h = rw e h

pub must-small : (place : Place) (r : Rule) → place ≡ Must r → Smalls place → Small r
unfolding Smalls
must-small place r e h = rw e at h

pub may-small : (place : Place) (r : Rule) → place ≡ May r → Smalls place → Small r
unfolding Smalls
may-small place r e h = rw e at h

pub ruleset place_laws = (unread-is, must-is, may-is, must-small, may-small)

module _ (d : Delims) (t : List ℕ) (n : ℕ) (clean : Bool) (c : CutOf d t n clean) where
  pub component-judged : (place : Place) (f : ℕ) → f ≡ place_fault d place (met (take n t)) → JudgedOf d place t f n
  component-judged place f e = record { told = e ∙ ap (place_fault d place) (head-met d t n clean c); long = c.long; raw = c.raw }

-- ---- one field
pub one-read : (d : Delims) → Proper d → (place : Place) (t : List ℕ) (f n k : ℕ) (more : Bool) → JudgedOf d place t f n
    → TailOf d (met (take (length t - n) (drop n t))) k more → ComponentsOf d (place ∷ []) t more f n (n + k)
unfolding components_fault
one-read d p place t f n k more j e =
    let m : List ℕ = met t in
    let a : met (take (length t - n) (drop n t)) ≡ drop (length (until (ends d) m)) m
    = ap met (rest-is t n) ∙ ap (λ i. met (drop i t)) j.long ∙ sym (from-met (ends d) (ends-far d p) t) in
    let b : k ≡ length (until (is_byte d.field) (drop (length (until (ends d) m)) m)) = e.long ∙ ap (λ l. length (until (is_byte d.field) l)) a in
    record {
      more = e.more ∙ ap (λ l. has d.repetition (until (is_byte d.field) l)) a ∙ sym (rest_more d m);
      told = j.told ∙ sym (then-zero (place_fault d place (until (ends d) m)));
      short = j.long;
      raw = j.raw;
      long = omega (arith, rest-long d m, j.long);
    }

-- a component before the others
module _ (d : Delims) (p : Proper d) (t u : List ℕ) (e : met u ≡ next d (met t)) where
  pub led-read : (place : Place) (ps : List Place) (f g h n k l : ℕ) (more : Bool) → JudgedOf d place t f n → ComponentsOf d ps u more g k l
      → h ≡ (f then g) → ComponentsOf d (place ∷ ps) t more h n (length t - length u + l)
  unfolding components_fault forward
  led-read place ps f g h n k l more j r q = record {
    more = r.more ∙ ap (λ m. has d.repetition (until (is_byte d.field) m)) e ∙ forward-repeats d p 1 (met t);
    told = q ∙ cc (j.told, r.told);
    short = j.long;
    raw = j.raw;
    long = let a : l ≡ length (until (is_byte d.field) (next d (met t))) = r.long ∙ ap (λ m. length (until (is_byte d.field) m)) e in
        omega (arith, forward-long d p 1 (met t), length-met t, length-met u, ap length e, next-within t u d p e);
  }

  pub led-within : (l : ℕ) → l ≤ length u → length t - length u + l ≤ length t
  led-within l h = omega (arith, next-within t u d p e)
