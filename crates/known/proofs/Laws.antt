-- Laws of the known segments, one after another. Assumes nothing.
use mathlib.Core.Path.{◌≡◌, refl, sym, ap, ◌∙◌}
use mathlib.Core.Bool.{Bool, true, false}
use mathlib.Core.List.{List, [], ◌∷◌}
use Prim.Native.Nat.{ℕ, suc, ◌+◌, ◌-◌, ◌≤◌, ◌<◌}
use native.Mathlib.Omega.{arith}
use native.Mathlib.Numerals.{add-one}
use lib.ListN.{length, take, drop}
use lib.Seq.{drop-drop}
use Rattle.std.specs.declared.option.Option.{Option}
use Rattle.std.specs.declared.option.Option.TheVariants.{Some, None}
use Rattle.rules.specs.declared.Name.{Name}
use Rattle.rules.specs.declared.Name.TheVariants.{Other}
use Rattle.rules.specs.Told.{gives, refused}
use Rattle.rules.specs.Shift.{met}
use Rattle.rules.specs.Frame.{segments, name_of, Known, known_from, known}
use Rattle.rules.specs.Frame as Frame
use Rattle.rules.specs.Fetch.{ordinal}
use Rattle.rules.specs.Promises.{SegmentFound}
use Rattle.rules.proofs.Logic.{zero_cases}
use Rattle.frame.specs.Taken.{Taken, Ended}
use Rattle.frame.proofs.Taken.{taken-length, taken-segments, taken-front, taken-behind, ended-segments}
use Rattle.rules.specs.declared.KnownSegment.{KnownSegment}

known-other : (at : ℕ) (s : List ℕ) (ss : List (List ℕ)) → Frame.is (name_of s) Other ≡ true → known_from at (s ∷ ss) ≡ known_from (at + suc (length s)) ss
unfolding known_from
known-other at s ss e = rw e

known-here : (at : ℕ) (s : List ℕ) (ss : List (List ℕ)) → Frame.is (name_of s) Other ≡ false
    → known_from at (s ∷ ss) ≡ (record { name = name_of s; start = at; body = met s }) ∷ known_from (at + suc (length s)) ss
unfolding known_from
known-here at s ss e = rw e

ordinal-none : (n : ℕ) → ordinal {A = Known} [] (suc n) ≡ refused 30 0 0
unfolding ordinal
ordinal-none n = refl

ordinal-first : (k : Known) (ks : List Known) → ordinal (k ∷ ks) (suc 0) ≡ gives k
unfolding ordinal
ordinal-first k ks = refl

ordinal-later : (k : Known) (ks : List Known) (n : ℕ) → ordinal (k ∷ ks) (suc (suc n)) ≡ ordinal ks (suc n)
unfolding ordinal
ordinal-later k ks n = refl

-- before the known segment of the ordinal o, `left` others are still to come in the rest r, which begins at `at`
pub record Seeking (m : List ℕ) (o left at : ℕ) (r : List ℕ) : Type 0 where
  pub same : ordinal (known m) o ≡ ordinal (known_from at (segments r)) (suc left)
  pub lies : drop at m ≡ r
  pub inside : at + length r ≡ length m

pub segment-zero : (m : List ℕ) (o : ℕ) → o ≡ 0 → refused 30 0 0 ≡ ordinal (known m) o
unfolding ordinal
segment-zero m o e = rw e

pub segment-starts : (m : List ℕ) (o : ℕ) → (o ≡ 0 → ⊥) → Seeking m o (o - 1) 0 m
unfolding known
segment-starts m o h =
    zero_cases o (λ e. absurd (h e))
    (λ k e. let z : o ≡ suc (o - 1) = omega arith in record { same = ap (ordinal (known_from 0 (segments m))) z; lies = refl; inside = omega arith })

module _ (m : List ℕ) (o left at : ℕ) (r : List ℕ) (inv : Seeking m o left at r) where
  pub segment-over : (t : List ℕ) → Ended r t → refused 30 0 0 ≡ ordinal (known m) o
  unfolding known_from
  segment-over t h = sym (inv.same ∙ rw (ended-segments r h.whole) (ordinal-none left))

  module _ (x t : List ℕ) (h : Taken r x t) where
    pub place-fits : (n : ℕ) → length m ≤ n → at + (length x + 1) ≤ n
    place-fits n k = omega (arith, inv.inside, taken-length r x t h)

    body : take (length x) (drop at m) ≡ x
    body = rw inv.lies (taken-front r x t h)

    -- behind the segment
    on : (left' : ℕ) → ordinal (known m) o ≡ ordinal (known_from (at + suc (length x)) (segments t)) (suc left') → Seeking m o left' (at + (length x + 1)) t
    on left' e =
        record { same = rw add-one e; lies = sym (drop-drop (length x + 1) at m) ∙ rw inv.lies (taken-behind r x t h); inside = omega (arith, inv.inside, taken-length r x t h) }

    module _ (name : Name) (b : Bool) (ename : name ≡ name_of x) (eb : b ≡ Frame.is name Other) where
      abbrev found : Known
      found = record { name = name; start = at; body = met x }

      from-here : b ≡ false → known_from at (segments r) ≡ found ∷ known_from (at + suc (length x)) (segments t)
      from-here e = rw (taken-segments r x t h) (known-here at x (segments t) (rw (← ename, ← eb) e) ∙ rw ename)

      pub segment-found : b ≡ false → left ≡ 0 → SegmentFound m o (Some (record { name = name; start = at; len = length x }))
      segment-found e l =
          record {
            told = rw body (sym (inv.same ∙ rw (l, from-here e) (ordinal-first found (known_from (at + suc (length x)) (segments t)))));
            within = λ s q. let z : s ≡ record { name = name; start = at; len = length x } = cc in rw z (omega (arith, inv.inside, taken-length r x t h));
          }

      pub segment-past : b ≡ false → (left ≡ 0 → ⊥) → Seeking m o (left - 1) (at + (length x + 1)) t
      segment-past e l =
          zero_cases left (λ q. absurd (l q))
          (λ j q.
          let k : left - 1 ≡ j = omega arith in on (left - 1) (inv.same ∙ rw (k, q, from-here e) (ordinal-later found (known_from (at + suc (length x)) (segments t)) j)))

      pub segment-other : b ≡ true → Seeking m o left (at + (length x + 1)) t
      segment-other e =
          on left (inv.same ∙ rw (taken-segments r x t h) (ap (λ ks. ordinal ks (suc left)) (known-other at x (segments t) (rw (← ename, ← eb) e))))

-- where there is none
pub nothing-within : (n : ℕ) (s : KnownSegment) → None ≡ Some s → s.start + s.len ≤ n
nothing-within n s e = let z : ◌≡◌ {A = ℕ} 0 1 = cc in absurd (omega arith)
