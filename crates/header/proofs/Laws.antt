-- Laws of the header: one for each way through its code. Assumes nothing.
use Rattle.std.specs.List.{list_any}
use mathlib.Core.Path.{◌≡◌, refl, sym, ap, ◌∙◌}
use mathlib.Core.Bool.{Bool, true, false, not, ◌&&◌, ◌||◌}
use mathlib.Core.List.{List, [], ◌∷◌}
use Prim.Native.Nat.{ℕ, ◌≤◌, ◌<◌}
use borrow.Author.Tests.{le-leb, lt-leb}
use lib.Dec.{eqb}
use lib.ListN.{length, get_or}
use Rattle.rules.specs.declared.Delims.{Delims}
use Rattle.rules.specs.Lists.{bytes, starts, all, has, distinct}
use Rattle.rules.specs.Frame.{delims_of, five_of, twelve, delims_ok, header_ok}
use Rattle.rules.proofs.Logic.{not-false, and-true, and_assoc, or-false}
use Rattle.rules.proofs.Lists.{all_cons, has-cons, has-nil}
use Rattle.rules.proofs.Header.{header}

-- ---- a byte in a list, in the library's word
any-is : (x : ℕ) (s : List ℕ) → list_any (λ b. eqb b x) s ≡ has x s
any-is x [] = sym (has-nil x)
any-is x (b ∷ s) = ap (λ t. eqb b x || t) (any-is x s) ∙ sym (has-cons x b s)

pub has_by : (x : ℕ) (s : List ℕ) (r : Bool) → r ≡ list_any (λ b. eqb b x) s → r ≡ has x s
has_by x s r e = e ∙ any-is x s

-- ---- the delimiters
pub different-is : (d : Delims)
    → (((((((((not (eqb d.component d.field) && not (eqb d.repetition d.field)) && not (eqb d.escape d.field)) && not (eqb d.sub d.field))
    && not (eqb d.repetition d.component)) && not (eqb d.escape d.component)) && not (eqb d.sub d.component))
    && not (eqb d.escape d.repetition)) && not (eqb d.sub d.repetition)) && not (eqb d.sub d.escape))
    ≡ distinct (five_of d)
unfolding distinct
different-is d = sym (simp (has-cons, has-nil, or-false, not-or, and-true, and_assoc))
  where
    not-or : (a b : Bool) → not (a || b) ≡ (not a && not b)
    not-or true b = refl
    not-or false b = refl

pub delims-are : (d : Delims) (p q r s t u : Bool) → p ≡ has d.field twelve → q ≡ has d.component twelve → r ≡ has d.repetition twelve
    → s ≡ has d.escape twelve → t ≡ has d.sub twelve → u ≡ distinct (five_of d) → (((((p && q) && r) && s) && t) && u) ≡ delims_ok d
unfolding delims_ok all
delims-are d p q r s t u ep eq er es et eu = rw (ep, eq, er, es, et, eu) (sym (simp (all_cons, and-true, and_assoc)))

-- ---- 11
module _ (m : List ℕ) where
  pub header-short : length m < 9 → false ≡ header_ok m
  unfolding header_ok
  header-short h = rw (lt-leb 9 (length m) h)

  pub header_is : (d : Delims) (p q : Bool) → 9 ≤ length m → d ≡ delims_of m → p ≡ starts (bytes "MSH") m → q ≡ delims_ok d
      → ((p && q) && eqb (get_or m 8 0) d.field) ≡ header_ok m
  unfolding header_ok
  header_is d p q h ed ep eq = rw (eq, ed, ep, le-leb 9 (length m) h)

-- a header is long enough to have its delimiters read
pub header-long : (m : List ℕ) (t : Bool) → t ≡ header_ok m → not t ≡ false → 9 ≤ length m
header-long m t e h = (header m (sym e ∙ not-false t h)).long
