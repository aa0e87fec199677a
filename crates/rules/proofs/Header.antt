-- The delimiters and the header: what the header rule says of them, and of the bytes after which it still holds. Assumes nothing.
use mathlib.Core.Path.{◌≡◌, refl, ap, ◌∙◌}
use mathlib.Core.Bool.{Bool, true, false, not, ◌&&◌}
use mathlib.Core.List.{List, [], ◌∷◌, ◌++◌}
use Prim.Native.Nat.{ℕ, zero, suc, ◌+◌, ◌<◌, ◌≤◌}
use native.Mathlib.Omega.{arith}
use borrow.Author.Tests.{eqb-true, ne_eqb, leb-true}
use lib.Dec.{eqb, leb}
use lib.ListN.{length, get_or, take, drop, get_or-append}
use lib.Seq.{drop-cons}
use Rattle.rules.specs.declared.Delims.{Delims}
use Rattle.rules.specs.declared.Mode.TheVariants.{One}
use Rattle.rules.specs.Lists.{bytes, starts, all, has, distinct}
use Rattle.rules.specs.Shift.{within, step}
use Rattle.rules.specs.Frame.{delims_of, five_of, twelve, delims_ok, header_ok}
use Rattle.rules.specs.Proper.{Delim, Proper}
use Rattle.rules.proofs.Logic.{both, not-true, never, eqb-self, eqb-sym, or-true}
use Rattle.rules.proofs.Lists.{starts-eq, all_first, has-cons, has_first, has_here, in_all}
use Rattle.rules.proofs.Modes.{still_one}

-- ---- a delimiter: "one of `! # % & * ; ? @ \\ ^ | ~`"
module _ (x : ℕ) (h : Delim x) where
  pub delim-within : within 0x20 0x7E x ≡ true
  delim-within = in_all (within 0x20 0x7E) x twelve h (unfold all bytes in refl)

  pub printable : (0x20 ≤ x) × (x ≤ 0x7E)
  printable = let a = both (leb 0x20 x) (leb x 0x7E) delim-within in (leb-true 0x20 x a.0, leb-true x 0x7E a.1)

  pub delim-one : step 0x20 One x ≡ One
  delim-one = still_one 0x20 x printable.0 printable.1

  pub delim-small : x < 256
  delim-small = omega (arith, printable.1)

  -- no other byte is one
  pub delim-ne : (b : ℕ) → has b twelve ≡ false → eqb b x ≡ false
  delim-ne b n = ne_eqb b x (λ e. never (cc (ap (λ (y : ℕ). has y twelve) e)))

  -- what holds of none of the twelve doesn't hold of it
  pub delim-apart : (p : ℕ → Bool) → all (λ (b : ℕ). not (p b)) twelve ≡ true → p x ≡ false
  delim-apart p g = not-true (p x) (in_all (λ (b : ℕ). not (p b)) x twelve h g)

  pub delim-far : (b : ℕ) → eqb (256 + b) x ≡ false
  delim-far b = ne_eqb (256 + b) x (λ e. omega (arith, delim-small))

-- ---- "five different delimiters"
distinct-first : (x : ℕ) (s : List ℕ) → distinct (x ∷ s) ≡ true → (has x s ≡ false) × (distinct s ≡ true)
unfolding distinct
distinct-first x s h = let p = both (not (has x s)) (distinct s) h in (not-true (has x s) p.0, p.1)

pub proper : (d : Delims) → delims_ok d ≡ true → Proper d
unfolding delims_ok
proper d h =
    let p : ℕ → Bool = λ b. has b twelve in
    let b = both (all p (five_of d)) (distinct (five_of d)) h in
    let a0 = all_first p d.field _ b.0 in
    let a1 = all_first p d.component _ a0.1 in
    let a2 = all_first p d.repetition _ a1.1 in
    let a3 = all_first p d.escape _ a2.1 in
    let d0 = distinct-first d.field _ b.1 in
    let d1 = distinct-first d.component _ d0.1 in
    let d2 = distinct-first d.repetition _ d1.1 in
    let f0 = has_first d.field d.component _ d0.0 in
    let f1 = has_first d.field d.repetition _ f0.1 in
    let f2 = has_first d.field d.escape _ f1.1 in
    let d3 = distinct-first d.escape _ d2.1 in
    let c0 = has_first d.component d.repetition _ d1.0 in
    let c1 = has_first d.component d.escape _ c0.1 in
    let r0 = has_first d.repetition d.escape _ d2.0 in
    record {
      field = a0.0;
      component = a1.0;
      repetition = a2.0;
      escape = a3.0;
      sub = (all_first p d.sub _ a3.1).0;
      component-field = f0.0;
      repetition-field = f1.0;
      escape-field = f2.0;
      sub-field = (has_first d.field d.sub _ f2.1).0;
      component-repetition = eqb-sym d.component d.repetition ∙ c0.0;
      escape-component = c1.0;
      escape-repetition = r0.0;
      sub-component = (has_first d.component d.sub _ c1.1).0;
      sub-repetition = (has_first d.repetition d.sub _ r0.1).0;
      sub-escape = (has_first d.escape d.sub _ d3.0).0;
    }

-- ---- the header
pub record Header (m : List ℕ) : Type 0 where
  pub long : 9 ≤ length m
  pub name : starts (bytes "MSH") m ≡ true
  pub proper : Proper (delims_of m)
  pub again : get_or m 8 0 ≡ (delims_of m).field

pub header : (m : List ℕ) → header_ok m ≡ true → Header m
unfolding header_ok
header m h =
    let d = delims_of m in
    let a = both (leb 9 (length m) && starts (bytes "MSH") m && delims_ok d) (eqb (get_or m 8 0) d.field) h in
    let b = both (leb 9 (length m) && starts (bytes "MSH") m) (delims_ok d) a.0 in
    let c = both (leb 9 (length m)) (starts (bytes "MSH") m) b.0 in
    record {
      long = leb-true 9 (length m) c.0;
      name = c.1;
      proper = proper d b.1;
      again = eqb-true (get_or m 8 0) d.field a.1;
    }

-- ---- after the first nine bytes
-- the delimiters stand in what has eight bytes
pub delims-stay : (p q : List ℕ) → 8 ≤ length p → delims_of (p ++ q) ≡ delims_of p
unfolding delims_of
delims-stay p q h =
    cc (
      get_or-append p q 0 3 (omega arith),
      get_or-append p q 0 4 (omega arith),
      get_or-append p q 0 5 (omega arith),
      get_or-append p q 0 6 (omega arith),
      get_or-append p q 0 7 (omega arith),
    )

-- the message begins with its name and its delimiters
pub header-bytes : (m : List ℕ) → Header m
    → m ≡ bytes "MSH" ++ ((delims_of m).field ∷ (delims_of m).component ∷ (delims_of m).repetition ∷ (delims_of m).escape ∷ (delims_of m).sub ∷ (delims_of m).field ∷ drop 9 m)
unfolding bytes delims_of
header-bytes m g =
    let l = g.long in
    cc (
      starts-eq (bytes "MSH") m g.name,
      drop-cons m 3 0 (omega arith),
      drop-cons m 4 0 (omega arith),
      drop-cons m 5 0 (omega arith),
      drop-cons m 6 0 (omega arith),
      drop-cons m 7 0 (omega arith),
      drop-cons m 8 0 (omega arith),
      g.again,
    )

has-take : (x n : ℕ) (a z : List ℕ) → length a < n → has x (take n (a ++ (x ∷ z))) ≡ true
has-take x zero a z h = absurd (omega arith)
has-take x (suc n) [] z h = has_here x x (take n z) (eqb-self x)
has-take x (suc n) (b ∷ a) z h = rw (has-cons x b (take n (a ++ (x ∷ z))), has-take x n a z (omega arith)) (or-true (eqb b x))

no_end : (x : ℕ) → Delim x → eqb x 0x0D ≡ false
no_end x h = ne_eqb x 0x0D (λ e. omega (arith, (printable x h).0))
