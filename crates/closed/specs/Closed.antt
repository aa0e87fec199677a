-- What is told of MSH-18 and PID-5, each at the start of what is left of its segment.
use Rattle.std.specs.Prelude.{◌≡◌, not, List, [], ◌∷◌, ℕ, length}
use Rattle.rules.specs.declared.Delims.{Delims}
use Rattle.rules.specs.Told.{◌when◌}
use Rattle.rules.specs.Lists.{bytes, empty, or_empty, same, split}
use Rattle.rules.specs.Judge.{first_marked}
use Rattle.components.specs.Components.{repetition_at}

-- a closed field f: the number of its first fault, and its length
pub record ClosedOf (faultOf : List ℕ → ℕ) (f : List ℕ) (fault len : ℕ) : Type 0 where
  pub told : fault ≡ faultOf f
  pub long : len ≡ length f

-- MSH-18: "as raw bytes the repetition separator, then `ISO IR87`, nothing else"
unfoldable pub charset_fault : Delims → List ℕ → ℕ
charset_fault d f = 25 when not (same f (d.repetition ∷ bytes "ISO IR87"))

-- PID-5: r starts with the first repetition of f that bears the mark; it is empty where none does
pub record MarkedOf (d : Delims) (mark : ℕ) (f r : List ℕ) : Type 0 where
  pub told : repetition_at d r ≡ or_empty (first_marked d (mark ∷ []) (split d.repetition f))
  pub found : empty (repetition_at d r) ≡ empty r
