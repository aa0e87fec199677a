-- The text of a sheet's groups, and what a pass over a sheet tells and writes.
use Rattle.std.specs.Prelude.{◌≡◌, List, map, ℕ, ◌+◌, ◌*◌, ◌≤◌, length, Result}
use Rattle.rules.specs.declared.Delims.{Delims}
use Rattle.rules.specs.declared.Name.{Name}
use Rattle.rules.specs.declared.Refusal.{Refusal}
use Rattle.rules.specs.Told.{Told, told, gives, ◌>>=◌}
use Rattle.rules.specs.Lists.{ended}
use Rattle.rules.specs.Row.{Row}
use Rattle.rules.specs.Message.{Numbers, segment_text, written, message_of}
use Rattle.writer.specs.Over.{over_front, over_at}
use Rattle.lines.specs.Lines.{longest_sheet}
use Rattle.sheets.specs.Sheet.{rows_in}
use Rattle.segments.specs.Segments.{group_pieces, longest_segment}
use Rattle.compose.specs.declared.Size.{Size}

-- the text of the group g that the lines ts begin with, whose numbers are n
unfoldable pub group_text : Delims → Numbers → Name → List (List ℕ) → List ℕ
group_text d n g ts = ended 0x0D (map (segment_text d) (group_pieces d n g ts))

-- a write of b over x from at on, where there is room: it ends at r, and leaves y
pub record FitAt (at : ℕ) (x b : List ℕ) (r : ℕ) (y : List ℕ) : Type 0 where
  pub ends : r ≡ at + length b
  pub same : length y ≡ length x
  pub is : r ≤ length x → y ≡ over_at at b x

-- no group has so many bytes, and no message that is measured ends so far
abbrev pub longest_group : ℕ
longest_group = 2 * longest_segment

abbrev pub farthest_end : ℕ
farthest_end = longest_group * longest_sheet

abbrev pub size_of : Delims → List Row → Size
size_of d rows = record { bytes = length (message_of d rows); segments = length (written d rows) }

-- how many bytes and segments the message of the sheet s has, or its refusal
abbrev pub size_told : Delims → List ℕ → Told Size
size_told d s = rows_in s >>= λ rows. gives (size_of d rows)

-- the sheet s has no fault
pub record FaultFree (s : List ℕ) : Type 0 where
  pub rows : List Row
  pub told : rows_in s ≡ gives rows

-- a pass over the sheet s: what it tells, and that where there is room for the message, it is written
pub record Pass (d : Delims) (s x : List ℕ) (r : Result Size Refusal) (y : List ℕ) : Type 0 where
  pub told : told r ≡ size_told d s
  pub wrote : (rows : List Row) → rows_in s ≡ gives rows → length (message_of d rows) ≤ length x → y ≡ over_front (message_of d rows) x
