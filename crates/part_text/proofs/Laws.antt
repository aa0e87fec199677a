-- Laws of a part's text. Assumes nothing.
use mathlib.Core.Path.{◌≡◌, refl, sym, ap, ◌∙◌}
use mathlib.Core.List.{List}
use Prim.Native.Nat.{ℕ, ◌+◌, ◌≤◌}
use borrow.Author.Tests.{le-leb}
use lib.ListN.{length}
use Rattle.std.specs.declared.result.Result.{Result}
use Rattle.std.specs.declared.result.Result.TheVariants.{Ok}
use Rattle.rules.specs.declared.Delims.{Delims}
use Rattle.rules.specs.declared.Refusal.{Refusal}
use Rattle.rules.specs.declared.Span.{Span}
use Rattle.rules.specs.Told.{Told, gives, refused, told, ◌>>◌, Call}
use Rattle.rules.specs.Frame.{delims_of}
use Rattle.rules.specs.Check.{check_told}
use Rattle.rules.specs.Fetch.{fetch_told, bytes_at, part_told, span_in, unescaped_told, text_told}
use Rattle.rules.specs.Promises.{Located, StretchGiven}
use Rattle.rules.proofs.Logic.{not-given, called-as}
use Rattle.rules.proofs.Header.{header}
use Rattle.rules.proofs.Where.{accepted-passes}

-- only an accepted message has a part, and then its header is there
accepted : {P : Type 0} {A B : Type 0} (t : Told A) (u : Told B) (b : B) → (t >> u) ≡ gives b → ((a : A) → t ≡ gives a → P) → P
accepted (gives a) u b e f = f a refl
accepted (refused n s k) u b e f = not-given e

module _ (m : List ℕ) (o f c : ℕ) (x : Result Span Refusal) (l : Located m o f c x) where
  pub located-long : (p : Span) → x ≡ Ok p → 9 ≤ length m
  unfolding fetch_told
  located-long p e =
      let g : fetch_told m o f c ≡ gives p = sym l.told ∙ ap told e in
      accepted (check_told m) _ p g (λ k h. (header m (accepted-passes m k h).headed).long)

  pub text-given : (old y raw : List ℕ) (w : Result ℕ Refusal) (p : Span) (d : Delims) (a b : ℕ × ℕ) → x ≡ Ok p → StretchGiven m a (Ok p) raw b → d ≡ delims_of m
      → Call (unescaped_told d raw o f (length old)) old w y → Call (text_told m o f c (length old)) old w y
  unfolding text_told part_told span_in
  text-given old y raw w p d a b e s h k =
      let g : fetch_told m o f c ≡ gives p = sym l.told ∙ ap told e in
      let z : raw ≡ bytes_at m p = s.bytes ∙ rw (le-leb (p.start + p.len) (length m) (l.within p e)) in
      called-as (rw (g, ← h, ← z)) k
