-- Writing as far as a lent buffer reaches, and no further.
use Rattle.std.specs.Prelude.{◌≡◌, List, ℕ, ◌+◌, ◌≤◌, min, length}
use Rattle.fill.specs.Fill.{fill_at}

-- a text b over x from at on, as far as x reaches: it ends at r, which is the end of x where it is cut, and leaves y
pub record Adds (at : ℕ) (x b : List ℕ) (r : ℕ) (y : List ℕ) : Type 0 where
  pub ends : r ≡ min (at + length b) (length x)
  pub is : y ≡ fill_at at b x
  pub same : length y ≡ length x
  pub inside : r ≤ length y
