-- What is told of a sheet that is judged.
use Rattle.std.specs.Prelude.{not, ◌&&◌, List, ℕ, ◌+◌, ◌*◌, ltb, length}
use Rattle.rules.specs.declared.Kind.{Kind}
use Rattle.rules.specs.declared.Kind.TheVariants.{Key, LineValue}
use Rattle.rules.specs.declared.Refusal.{Refusal}
use Rattle.rules.specs.Told.{Told, gives, refuse◌if◌else◌, ◌>>=◌}
use Rattle.rules.specs.Lists.{empty, last, split}
use Rattle.rules.specs.Shift.{keeps}
use Rattle.rules.specs.Frame.{start}
use Rattle.rules.specs.Row.{Row}
use Rattle.rules.specs.Sheet.{rows_told, lines_of, read_sheet}
use Rattle.lines.specs.Lines.{longest_sheet}
use Rattle.lines.specs.declared.LineFault.{LineFault}
use Rattle.lines.specs.declared.LineFault.TheVariants.{Key as WrongKey, Value}

-- what a line's fault is refused as
abbrev pub kind_of : LineFault → Kind
kind_of (WrongKey k) = Key
kind_of (Value k) = LineValue

abbrev pub refusal_at : Kind → ℕ → Refusal
refusal_at kind line = record { kind = kind; segment = line; field = 0 }

-- 40 and 41 of a sheet
unfoldable pub readable_told : List ℕ → Told (Unit {0})
readable_told s =
    refuse 40 if ltb 65536 (length s) else
    refuse 41 if not (keeps 0x0A s && empty (last (split 0x0A s))) else
    gives tt

-- the rows of a sheet that is readable
abbrev pub rows_in : List ℕ → Told (List Row)
rows_in s = rows_told start 0 1 (lines_of s)

-- 42 and 43 of its lines
unfoldable pub groups_told : List ℕ → Told (Unit {0})
groups_told s = rows_in s >>= λ rows. gives tt

-- 40 to 43 of a sheet
unfoldable pub judged_told : List ℕ → Told (Unit {0})
judged_told s = read_sheet s >>= λ rows. gives tt

-- a bound for the number of any line: no group has more than ten, and each takes a byte or more
abbrev pub farthest_line : ℕ
farthest_line = 10 * longest_sheet + 1
