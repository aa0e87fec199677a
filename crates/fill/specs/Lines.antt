-- Lines continued where they are written.
use Rattle.std.specs.Prelude.{◌≡◌, List, ℕ, ◌+◌, ◌≤◌}
use Rattle.rules.specs.declared.Delims.{Delims}
use Rattle.fill.specs.declared.Lines.{Lines}
use Rattle.fill.specs.Fill.{Lined, longest}

-- the same buffer, by the same delimiters
pub record Same (l m : Lines) : Type 0 where
  pub out : m.out.ghost_name ≡ l.out.ghost_name
  pub delims : m.delims ≡ l.delims

-- by n lines at most, ls
pub record Continued (n : ℕ) (l m : Lines) (ls : Delims → List (List ℕ)) : Type 0 where
  pub same : Same l m
  pub lined : Lined l.at l.out.now (ls l.delims) m.at m.out.now
  pub within : m.at ≤ l.at + longest n
