use Prim.Native.Nat.{◌-◌, ◌<◌}
use Rattle.csv_rows.specs.Rows.{items_of}
use Rattle.csv_places.proofs.Laws.{Looking}
use Rattle.csv_places.proofs.look_up.Given as goal

abbrev pub invariant-loop : goal.invariant-loop
invariant-loop l = (l.slot < 32768) × Looking l.file l.places (items_of l.row) l.slot (256 - l.counter)
