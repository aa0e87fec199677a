-- The group to be read next.
use Rattle.std.specs.Prelude.{◌≡◌, false, cond, List, ℕ, ◌≤◌, length}
use Rattle.rules.specs.declared.Name.{Name}
use Rattle.rules.specs.declared.Name.TheVariants.{Obr}
use Rattle.rules.specs.Told.{gives, refused}
use Rattle.rules.specs.Frame.{is, Reached}
use Rattle.rules.specs.Row.{lines}
use Rattle.rules.specs.Sheet.{opens, open_told}

-- a is where a group leads, or the start: no ORC is still to come
abbrev pub Between : Reached → Type 0
Between a = is a.last Obr ≡ false

-- g is the group to be read where those before have led to a and the next line is t: t opens g or, with 42, none that may follow
pub record Next (a : Reached) (t : List ℕ) (g : Name) : Type 0 where
  pub told : (i : ℕ) → open_told a i t ≡ cond (opens g t) (gives g) (refused 42 i 0)
  pub lined : 1 ≤ length (lines g)
