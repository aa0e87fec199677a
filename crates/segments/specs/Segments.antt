-- The text of a segment that is written from the lines of its group.
use Rattle.std.specs.Prelude.{Bool, List, [], ◌∷◌, ◌++◌, map, ℕ, ◌≤◌, length, take, drop}
use Rattle.rules.specs.declared.Delims.{Delims}
use Rattle.rules.specs.declared.Name.{Name}
use Rattle.rules.specs.declared.Name.TheVariants.{Pid}
use Rattle.rules.specs.Lists.{filled, nth, ended}
use Rattle.rules.specs.Proper.{Proper}
use Rattle.rules.specs.Row.{Row, row_of}
use Rattle.rules.specs.Message.{Numbers, Piece, pieces_of, segment_text}
use Rattle.lines.specs.Lines.{longest_sheet}
use Rattle.groups.specs.Groups.{group_values}

-- the segments of some rows that have these numbers, and of the group g that the lines ts begin with
unfoldable pub row_pieces : Delims → Numbers → List Row → List Piece
row_pieces d n [] = []
row_pieces d n (r ∷ rs) = pieces_of d n r ++ row_pieces d n rs

unfoldable pub group_pieces : Delims → Numbers → Name → List (List ℕ) → List Piece
group_pieces d n g ts = row_pieces d n (row_of g (group_values g ts))

-- the text of the k-th segment, from 0, of the group g that the lines ts begin with: an order's OBR and ORC, or the only one
unfoldable pub group_segment : Delims → Numbers → Name → ℕ → List (List ℕ) → List ℕ
group_segment d n g k ts = ended 0x0D (take 1 (drop k (map (segment_text d) (group_pieces d n g ts))))

-- the patient that the lines ts begin with has a kana name
unfoldable pub has_kana : List (List ℕ) → Bool
has_kana ts = filled (nth (group_values Pid ts) 3)

-- what a segment is written from: the text s that begins with its group, and the delimiters
pub record Source (s : List ℕ) (d : Delims) : Type 0 where
  pub short : length s ≤ longest_sheet
  pub proper : Proper d

-- no segment has so many bytes
abbrev pub longest_segment : ℕ
longest_segment = 300000000
