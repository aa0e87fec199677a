-- The pieces of a text between the separators that act, by their places.
use Rattle.std.specs.Prelude.{◌≡◌, List, ℕ, ◌+◌, ◌≤◌, ◌<◌, length, take, drop}
use Rattle.rules.specs.Lists.{nth, split}
use Rattle.rules.specs.Shift.{met}
use Rattle.rules.specs.Fetch.{start_of}

-- the n-th piece of s between the separators that act: it begins at `at`, and has `len` bytes
pub record PieceOf (sep n : ℕ) (s : List ℕ) (at len : ℕ) : Type 0 where
  pub start : at ≡ start_of sep n (met s)
  pub own : met (take len (drop at s)) ≡ nth (split sep (met s)) n
  pub long : len ≡ length (nth (split sep (met s)) n)

-- the piece that a walk to the n-th reaches: the n-th, or the last where there are fewer
pub record Nearest (sep n : ℕ) (s : List ℕ) (number at len : ℕ) : Type 0 where
  pub piece : PieceOf sep number s at len
  pub near : number ≤ n
  pub last : number < n → number + 1 ≡ length (split sep (met s))
