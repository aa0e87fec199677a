-- Lines that go on where they are written.
use Rattle.std.specs.Prelude.{◌≡◌, List, ℕ}
use Rattle.rules.specs.Lists.{ended}
use Rattle.reach.specs.Reach.{Adds}
use Rattle.csv_lines.specs.declared.Lines.{Lines}

-- by some bytes, over the same buffer
pub record Puts (l m : Lines) (bytes : List ℕ) : Type 0 where
  pub same : m.out.ghost_name ≡ l.out.ghost_name
  pub adds : Adds l.at l.out.now bytes m.at m.out.now

-- by lines, each ended by 0A
pub record Writes (l m : Lines) (ls : List (List ℕ)) : Type 0 where
  pub same : m.out.ghost_name ≡ l.out.ghost_name
  pub adds : Adds l.at l.out.now (ended 0x0A ls) m.at m.out.now
