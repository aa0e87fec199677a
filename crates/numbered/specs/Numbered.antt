-- The text of a segment that has a number, and the numbers.
use Rattle.std.specs.Prelude.{Bool, ◌&&◌, ◌||◌, List, ◌∷◌, map, ℕ, ◌≤◌, drop}
use Rattle.rules.specs.declared.Delims.{Delims}
use Rattle.rules.specs.declared.Name.{Name}
use Rattle.rules.specs.declared.Name.TheVariants.{Spm, Obx}
use Rattle.rules.specs.Lists.{filled, nth, ended}
use Rattle.rules.specs.Frame.{is}
use Rattle.rules.specs.Judge.{is_sn}
use Rattle.rules.specs.Message as Message
use Rattle.rules.specs.Message.{Piece, piece, segment_text, zeros}
use Rattle.groups.specs.Groups.{group_values}
use Rattle.segments.specs.Segments.{group_pieces, Source}
use Rattle.numbered.specs.declared.Numbers.{Numbers}

-- the numbers of a row, as the code has them; those of a row whose number, if it has one, is n
abbrev pub numbers_of : Numbers → Message.Numbers
numbers_of n = record { specimen = n.specimen; result = n.result }

abbrev pub number_is : ℕ → Message.Numbers
number_is n = record { specimen = n; result = n }

-- whether a segment has a number, its first field; and the text of a segment, and of those of the group x that the lines ts begin with, with `number` there
abbrev pub has_number : Name → Bool
has_number x = is x Spm || is x Obx

unfoldable pub numbered_piece : Delims → List ℕ → Piece → List ℕ
numbered_piece d number p = segment_text d (piece p.name (number ∷ drop 1 p.fields))

unfoldable pub numbered_text : Delims → List ℕ → Name → List (List ℕ) → List ℕ
numbered_text d number x ts = ended 0x0D (map (numbered_piece d number) (group_pieces d zeros x ts))

-- the result that the lines ts begin with is a filled SN: "A filled SN has all three component separators"
unfoldable pub filled_sn : List (List ℕ) → Bool
filled_sn ts = is_sn (nth (group_values Obx ts) 2) && filled (nth (group_values Obx ts) 4)

-- no number has more than five digits
abbrev pub greatest_number : ℕ
greatest_number = 99999

-- what any segment of a group is written from: the text s that begins with the group, its numbers, and the delimiters
pub record Sources (s : List ℕ) (n : Numbers) (d : Delims) : Type 0 where
  pub source : Source s d
  pub specimens-few : n.specimen ≤ greatest_number
  pub results-few : n.result ≤ greatest_number
