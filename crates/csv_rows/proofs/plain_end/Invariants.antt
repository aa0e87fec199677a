use mathlib.Core.Path.{◌≡◌}
use Prim.Native.Nat.{◌+◌, ◌≤◌}
use lib.ListN.{length, drop}
use Rattle.csv_rows.specs.Plain.{plain_at}
use Rattle.csv_rows.proofs.plain_end.Given as goal

abbrev pub invariant-loop-i : goal.invariant-loop-i
invariant-loop-i l = (l.from ≤ l.i) × (l.i ≤ length l.file) × (l.from + plain_at (drop l.from l.file) ≡ l.i + plain_at (drop l.i l.file))
