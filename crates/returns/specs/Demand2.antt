-- DEMAND 2, THE RETURN: "A sheet that is written and read returns byte for byte." What is claimed of the rules; proofs/Demand2.antt proves
-- each claim, and nothing is assumed but what stands here.
use Rattle.std.specs.Prelude.{◌≡◌, true, List, ◌++◌, ℕ, ◌≤◌, ◌<◌, ltb, length, take, drop, Result, Ok}
use Prim.Native.String.{String}
use Rattle.rules.specs.declared.Refusal.{Refusal}
use Rattle.rules.specs.declared.Delims.{Delims}
use Rattle.rules.specs.declared.Counts.{Counts}
use Rattle.rules.specs.Told.{Told, gives, refused, accepted, refuse◌if◌else◌, ◌>>=◌, told}
use Rattle.rules.specs.Lists.{bytes, starts, all, count}
use Rattle.rules.specs.Frame.{delims_ok, segments}
use Rattle.rules.specs.Check.{check_told}
use Rattle.rules.specs.Row.{Row}
use Rattle.rules.specs.Sheet.{lines_of, read_sheet, to_sheet}
use Rattle.rules.specs.Message.{message_told}
use Rattle.rules.specs.Promises.{SheetWritten, MessageWritten}

-- ---- the words of the claims
-- the writer over any five delimiters that the header rule allows; `to_message` is the one over |^~\&
unfoldable pub to_message_by : Delims → List ℕ → ℕ → Told (List ℕ)
to_message_by d s room = read_sheet s >>= λ rows. message_told d rows room

-- "The check gives the counts of SPM, OBR and OBX": of a sheet, those of the lines that begin a specimen, an order and a result
unfoldable pub lines_with : String → List ℕ → ℕ
lines_with key s = count (starts (bytes key)) (lines_of s)

unfoldable pub line_counts : List ℕ → Told Counts
line_counts s = accepted (lines_with "specimen=" s) (lines_with "order=" s) (lines_with "item=" s)

-- an answer that only 44 ("message would pass 32,768 bytes or 512 segments") or 45 ("lent buffer too short") can refuse
pub data Only44Or45 {A : Type 0} (t : Told A) : Type 0 where
  given : (a : A) → t ≡ gives a → Only44Or45 t
  overflow : t ≡ refused 44 0 0 → Only44Or45 t
  short : t ≡ refused 45 0 0 → Only44Or45 t

-- ---- from a sheet
-- An accepted sheet is written, unless 44 or 45 is given.
abbrev pub SheetIsWritten : Type 0
SheetIsWritten = (d : Delims) (s : List ℕ) (rows : List Row) (room : ℕ) → read_sheet s ≡ gives rows → Only44Or45 (to_message_by d s room)

-- The message of a sheet is accepted with the right counts, stays far from the 4,096 bytes of a segment, and turned into a sheet gives the
-- same bytes.
pub record Returned (s m : List ℕ) : Type 0 where
  pub counts : check_told m ≡ line_counts s
  pub under850 : all (λ (segment : List ℕ). ltb (length segment) 850) (segments m) ≡ true
  pub sheet : (room : ℕ) → length s ≤ room → to_sheet m room ≡ gives s

abbrev pub SheetReturns : Type 0
SheetReturns = (d : Delims) → delims_ok d ≡ true → (s m : List ℕ) (room : ℕ) → to_message_by d s room ≡ gives m → Returned s m

-- ---- from a message
-- An accepted message has a sheet under 57,000 bytes, which only 45 can refuse to give, and which is accepted: so 40 never stands in the
-- way. "An accepted message turned into a sheet and, if not refused with 44, written again reads as the same sheet", with the same counts.
pub record Turned (m : List ℕ) (c : Counts) : Type 0 where
  pub sheet : List ℕ
  pub rows : List Row
  pub given : (room : ℕ) → to_sheet m room ≡ (refuse 45 if ltb room (length sheet) else gives sheet)
  pub under57000 : length sheet < 57000
  pub read : read_sheet sheet ≡ gives rows
  pub again : (d : Delims) → delims_ok d ≡ true → (n : List ℕ) (room : ℕ) → to_message_by d sheet room ≡ gives n
      → (check_told n ≡ gives c) × ((room : ℕ) → to_sheet n room ≡ to_sheet m room)

abbrev pub MessageReturns : Type 0
MessageReturns = (m : List ℕ) (c : Counts) → check_told m ≡ gives c → Turned m c

-- ---- the same of the calls `to_message` and `to_sheet`, by their promises alone
-- a sheet, written into `out` and read into `back`, is there byte for byte
abbrev pub SheetCalls : Type 0
SheetCalls = (s out out' back back' : List ℕ) (n : ℕ) (r : Result ℕ Refusal)
    → MessageWritten s out (Ok n) out' → SheetWritten (take n out') back r back' → length s ≤ length back
    → (check_told (take n out') ≡ line_counts s) × (r ≡ Ok (length s)) × (back' ≡ s ++ drop (length s) back)

-- the sheet of a message is written again, unless 44 or 45 is given; and that message gives the same sheet and has the same counts
abbrev pub MessageCalls : Type 0
MessageCalls = (m out out' back back' : List ℕ) (n : ℕ) (r : Result ℕ Refusal)
    → SheetWritten m out (Ok n) out' → MessageWritten (take n out') back r back'
    → Only44Or45 (told r)
    × ((k : ℕ) → r ≡ Ok k → (check_told (take k back') ≡ check_told m) × ((room : ℕ) → to_sheet (take k back') room ≡ to_sheet m room))
