-- Laws of dates and times. Assumes nothing.
use Prim.Native.Nat.{ℕ, ◌+◌, ◌*◌}
use mathlib.Core.Path.{◌≡◌}
use mathlib.Core.List.{List}
use mathlib.Core.Bool.{Bool, ◌&&◌}
use Rattle.rules.specs.Shift.{within}
use Rattle.rules.specs.Value as Val

pub day_is : (v : List ℕ) (a b m d n : ℕ) (l : Bool) → a ≡ Val.two v 0 → b ≡ Val.two v 2 → m ≡ Val.two v 4 → d ≡ Val.two v 6 → l ≡ Val.leap (100 * a + b) → n ≡ Val.days_in l m
    → (within 1900 2099 (100 * a + b) && within 1 12 m && within 1 n d) ≡ Val.day_ok v
unfolding Val.day_ok
day_is v a b m d n l ea eb em ed el en = rw (en, el, ea, eb, em, ed)
