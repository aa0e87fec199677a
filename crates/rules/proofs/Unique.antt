-- The paper's numbers tell the answers apart: two answers that are told the same are the same. Assumes nothing.
use mathlib.Core.Path.{◌≡◌, refl, sym, ap, ◌∙◌}
use mathlib.Core.Bool.{true, false}
use mathlib.Core.List.{List, [], ◌∷◌}
use Prim.Native.Nat.{ℕ, ◌<◌}
use native.Mathlib.Omega.{arith}
use lib.Dec.{eqb}
use Rattle.rules.specs.declared.Kind.{Kind}
use Rattle.rules.specs.declared.Kind.TheVariants.{TooLong, Header, Bytes, Segment, TooMany, Order, Missing, Null, Repeated, Escape, Long, Value, Status, Differs, NoOrdinal, Zero, SheetTooLong, SheetBytes, Key, LineValue, Overflow, Room}
use Rattle.rules.specs.declared.Refusal.{Refusal}
use Rattle.std.specs.declared.result.Result.{Result}
use Rattle.std.specs.declared.result.Result.TheVariants.{Ok, Err}
use Rattle.rules.specs.Told.{number, refusal, told}
use Rattle.rules.proofs.Logic.{zero_cases}

-- the kind that has a number: the first of some with it
unfoldable kinds : List Kind
kinds =
    TooLong ∷ Header ∷ Bytes ∷ Segment ∷ TooMany ∷ Order ∷ Missing ∷ Null ∷ Repeated ∷ Escape ∷ Long
    ∷ Value ∷ Status ∷ Differs ∷ NoOrdinal ∷ Zero ∷ SheetTooLong ∷ SheetBytes ∷ Key ∷ LineValue ∷ Overflow ∷ Room ∷ []

unfoldable numbered : List Kind → ℕ → Kind
numbered [] n = Room
numbered (k ∷ ks) n = elim (eqb (number k) n) [ true ↦ k | false ↦ numbered ks n ]

kind-back : (k : Kind) → numbered kinds (number k) ≡ k
unfolding kinds numbered
kind-back TooLong = refl
kind-back Header = refl
kind-back Bytes = refl
kind-back Segment = refl
kind-back TooMany = refl
kind-back Order = refl
kind-back Missing = refl
kind-back Null = refl
kind-back Repeated = refl
kind-back Escape = refl
kind-back Long = refl
kind-back Value = refl
kind-back Status = refl
kind-back Differs = refl
kind-back NoOrdinal = refl
kind-back Zero = refl
kind-back SheetTooLong = refl
kind-back SheetBytes = refl
kind-back Key = refl
kind-back LineValue = refl
kind-back Overflow = refl
kind-back Room = refl

pub number-unique : (k l : Kind) → number k ≡ number l → k ≡ l
number-unique k l e = sym (kind-back k) ∙ ap (numbered kinds) e ∙ kind-back l

-- none is 0
pub number-some : (k : Kind) → 0 < number k
unfolding kinds numbered
number-some k =
    zero_cases (number k)
    (λ z. let e : Room ≡ k = ap (numbered kinds) (sym z) ∙ kind-back k in absurd (omega (arith, ap number e)))
    (λ n e. omega arith)

-- ---- a refusal by what is told of it
abbrev refusal_of : Kind → ℕ → ℕ → Refusal
refusal_of k s f = record { kind = k; segment = s; field = f }

pub refusal-unique : (A : Type 0) (r s : Refusal) → refusal {A = A} r ≡ refusal {A = A} s → r ≡ s
refusal-unique A r s e =
    ap (λ k. refusal_of k r.segment r.field) (number-unique r.kind s.kind (cc))
    ∙ ap (λ n. refusal_of s.kind n r.field) (cc)
    ∙ ap (λ n. refusal_of s.kind s.segment n) (cc)

pub told-unique : {A : Type 0} (a b : Result A Refusal) → told a ≡ told b → a ≡ b
told-unique (Ok x) (Ok y) h = cc
told-unique (Ok x) (Err r) h = cc
told-unique (Err r) (Ok x) h = cc
told-unique (Err r) (Err s) h = ap Err (refusal-unique _ r s h)

-- the number of a kind that is known
pub number_is_lem : (kind k : Kind) (n : ℕ) → kind ≡ k → number k ≡ n → n ≡ number kind
number_is_lem kind k n e g = cc
