-- Writing as far as a lent buffer reaches. A write tells how long its text is, so that a write into nothing measures it.
use Rattle.std.specs.Prelude.{◌≡◌, List, ◌++◌, ℕ, ◌+◌, ◌*◌, ◌<◌, length, take, drop}
use Rattle.rules.specs.declared.Delims.{Delims}
use Rattle.rules.specs.Lists.{ended}
use Rattle.rules.specs.Judge.{plain_of}
use Rattle.unescape.specs.Unescaped.{fill}

-- a text w over old's front, as far as old reaches: r is how long it is, x what it leaves
pub record Filled (r : ℕ) (x w old : List ℕ) : Type 0 where
  pub ends : r ≡ length w
  pub is : x ≡ fill w old

-- a text b over x from at on, as far as x reaches: it ends at r, and leaves y
unfoldable pub fill_at : ℕ → List ℕ → List ℕ → List ℕ
fill_at at b x = take at x ++ fill b (drop at x)

pub record FilledAt (at : ℕ) (x b : List ℕ) (r : ℕ) (y : List ℕ) : Type 0 where
  pub ends : r ≡ at + length b
  pub is : y ≡ fill_at at b x

-- lines, each ended by 0A
pub record Lined (at : ℕ) (x : List ℕ) (ls : List (List ℕ)) (r : ℕ) (y : List ℕ) : Type 0 where
  pub filled : FilledAt at x (ended 0x0A ls) r y

-- a line: its key with `=`, and the value of a component as it is met
abbrev pub keyed : Delims → List ℕ → List ℕ → List ℕ
keyed d key raw = key ++ plain_of d raw

-- n lines have at most so many bytes: each a key with its `=` of 16 at most, a value of 4,096, and 0A
abbrev pub longest : ℕ → ℕ
longest n = n * 4113

-- n lines from at on end at a number that the machine holds
abbrev pub Near : ℕ → ℕ → Type 0
Near n at = at + longest n < 18446744073709551616
