-- The parts of a message that keeps the rules are given. Assumes nothing.
use mathlib.Core.Path.{◌≡◌, refl, ap, ◌∙◌}
use mathlib.Core.Bool.{◌&&◌}
use mathlib.Core.List.{List, [], ◌∷◌}
use Prim.Native.Nat.{ℕ}
use native.Mathlib.Omega.{arith}
use lib.Dec.{eqb}
use lib.ListN.{take, drop}
use Rattle.rules.specs.declared.Mode.TheVariants.{One}
use Rattle.rules.specs.declared.Name.TheVariants.{Msh}
use Rattle.rules.specs.Lists.{bytes}
use Rattle.rules.specs.Shift.{is_one, step, mark, marks, met}
use Rattle.rules.specs.Frame.{delims_of, is, Known}
use Rattle.rules.specs.Proper.{Delim}
use Rattle.rules.specs.Fetch.{stretch, span_of, bytes_at}
use Rattle.rules.proofs.Logic.{cases}
use Rattle.rules.proofs.Modes.{still_one}
use Rattle.rules.proofs.Header.{Header, header-bytes, printable}
use Rattle.rules.proofs.Where.{Stands, Shows, component-shown}
use Rattle.kept.specs.Given.{part_shown}

-- ---- MSH-1, MSH-2
still : (x : ℕ) → Delim x → step 0x0D One x ≡ One
still x h = let a = printable x h in still_one 0x0D x a.0 a.1

module _ (m : List ℕ) (g : Header m) where
  msh-1 : met (bytes_at m (stretch 3 1)) ≡ (delims_of m).field ∷ []
  unfolding bytes_at met marks mark is_one bytes
  msh-1 = ap (λ (t : List ℕ). met (take 1 (drop 3 t))) (header-bytes m g)

  msh-2 : met (bytes_at m (stretch 4 4)) ≡ (delims_of m).component ∷ (delims_of m).repetition ∷ (delims_of m).escape ∷ (delims_of m).sub ∷ []
  unfolding bytes_at met marks mark is_one bytes
  msh-2 =
      let p = g.proper in
      ap (λ (t : List ℕ). met (take 4 (drop 4 t))) (header-bytes m g)
      ∙ rw (still (delims_of m).component p.component, still (delims_of m).repetition p.repetition, still (delims_of m).escape p.escape)

  nothing : (n : ℕ) → met (bytes_at m (stretch n 0)) ≡ []
  unfolding bytes_at met marks
  nothing n = refl

  pub part-shows : (k : Known) → Stands m k → (f c : ℕ) → Shows m (part_shown (delims_of m) k f c) (span_of (delims_of m) k f c)
  unfolding part_shown span_of
  part-shows k s f c =
      let l = g.long in
      cases (is k.name Msh && eqb f 1)
      (λ e. cases (eqb c 1)
      (λ t. rw (e, t) (record { within = omega arith; bytes = msh-1 }))
      (λ t. rw (e, t) (record { within = omega arith; bytes = nothing 4 })))
      (λ e. cases (is k.name Msh && eqb f 2)
      (λ q. cases (eqb c 1)
      (λ t. rw (e, q, t) (record { within = omega arith; bytes = msh-2 }))
      (λ t. rw (e, q, t) (record { within = omega arith; bytes = nothing 8 })))
      (λ q. rw (e, q) (component-shown m g k s f c)))
