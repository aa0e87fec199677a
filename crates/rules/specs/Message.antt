-- The writer, over any five delimiters; the base uses |^~\&.
use Rattle.std.specs.Prelude.{cond, ◌&&◌, ◌||◌, List, [], ◌∷◌, ◌++◌, map, ℕ, ltb, length, replicate}
use Prim.Native.Char.{code}
use Rattle.rules.specs.declared.Delims.{Delims}
use Rattle.rules.specs.declared.Name.{Name}
use Rattle.rules.specs.declared.Name.TheVariants.{Msh, Pid, Pv1, Spm, Obr, Orc, Obx}
use Rattle.rules.specs.Told.{Told, gives, refuse◌if◌else◌, ◌>>=◌}
use Rattle.rules.specs.Lists.{bytes, empty, filled, join, ended, decimal}
use Rattle.rules.specs.Frame.{spelling, counting}
use Rattle.rules.specs.Escape.{escape}
use Rattle.rules.specs.Judge.{is_sn}
use Rattle.rules.specs.Row.{Row, header, patient, visit, specimen, order, result, group_of}
use Rattle.rules.specs.Sheet.{read_sheet}

unfoldable pub base : Delims
base = record { field = code "|"; component = code "^"; repetition = code "~"; escape = code "\\"; sub = code "&" }

-- ---- fields
-- a field of its components; n empty fields
unfoldable pub composed : Delims → List (List ℕ) → List ℕ
composed d cs = join d.component cs

unfoldable pub blanks : ℕ → List (List ℕ)
blanks n = replicate n []

-- MSH-2: "the four bytes undivided"
unfoldable pub encoding : Delims → List ℕ
encoding d = d.component ∷ d.repetition ∷ d.escape ∷ d.sub ∷ []

-- PID-5: FAMILY^GIVEN^^^^^L^I, "a kana name is a second repetition with P"
unfoldable pub name_text : Delims → List ℕ → List ℕ → List ℕ → List ℕ
name_text d f g mark = composed d (escape d f ∷ escape d g ∷ [] ∷ [] ∷ [] ∷ [] ∷ bytes "L" ∷ mark ∷ [])

unfoldable pub names_text : Delims → List ℕ → List ℕ → List ℕ → List ℕ → List ℕ
names_text d f g kf kg = name_text d f g (bytes "I") ++ cond (empty kf) [] (d.repetition ∷ name_text d kf kg (bytes "P"))

-- OBX-5: "A filled SN has all three component separators"
unfoldable pub value_text : Delims → List ℕ → List ℕ → List ℕ → List ℕ → List ℕ → List ℕ
value_text d type c v j s = cond (is_sn type && filled v) (composed d (escape d c ∷ escape d v ∷ escape d j ∷ escape d s ∷ [])) (escape d v)

-- ---- segments
-- a segment to be written: its name, and what stands after it, each after a field separator
pub record Piece : Type 0 where
  pub name : Name
  pub fields : List (List ℕ)

abbrev pub piece : Name → List (List ℕ) → Piece
piece n fs = record { name = n; fields = fs }

-- "SPM-1 and OBX-1 count from 1, OBX-1 anew in each order"
pub record Numbers : Type 0 where
  pub specimen : ℕ
  pub result : ℕ

abbrev pub zeros : Numbers
zeros = record { specimen = 0; result = 0 }

unfoldable pub counted : Numbers → Name → Numbers
counted n g = record { specimen = counting Spm Msh n.specimen g; result = counting Obx Obr n.result g }

-- the segments of a row, with its numbers
unfoldable pub pieces_of : Delims → Numbers → Row → List Piece
pieces_of d n (header mode sent control) =
    piece Msh ((encoding d ∷ []) ++ blanks 4
    ++ (escape d sent ∷ [] ∷ composed d (bytes "OUL" ∷ bytes "R22" ∷ bytes "OUL_R22" ∷ []) ∷ escape d control ∷ escape d mode ∷ bytes "2.5" ∷ [])
    ++ blanks 5 ++ ((d.repetition ∷ bytes "ISO IR87") ∷ [] ∷ bytes "ISO 2022-1994" ∷ []))
    ∷ []
pieces_of d n (patient id f g kf kg birth sex) =
    piece Pid ([] ∷ [] ∷ escape d id ∷ [] ∷ names_text d f g kf kg ∷ [] ∷ escape d birth ∷ escape d sex ∷ []) ∷ []
pieces_of d n (visit class) = piece Pv1 ([] ∷ escape d class ∷ []) ∷ []
pieces_of d n (specimen kind collected) =
    piece Spm ((decimal n.specimen ∷ [] ∷ [] ∷ composed d (escape d kind ∷ [] ∷ bytes "JC10" ∷ []) ∷ []) ++ blanks 12 ++ (escape d collected ∷ [])) ∷ []
pieces_of d n (order id group) =
    piece Obr ([] ∷ escape d id ∷ [] ∷ composed d (escape d group ∷ [] ∷ bytes "99003" ∷ []) ∷ [])
    ∷ piece Orc (bytes "RE" ∷ escape d id ∷ [])
    ∷ []
pieces_of d n (result item name type compare value join second unit flag status) =
    piece Obx (decimal n.result ∷ escape d type ∷ composed d (escape d item ∷ escape d name ∷ bytes "JC10" ∷ []) ∷ []
    ∷ value_text d type compare value join second ∷ escape d unit ∷ [] ∷ escape d flag ∷ [] ∷ [] ∷ escape d status ∷ [])
    ∷ []

-- the segments of some rows, with the numbers before them
unfoldable pub pieces : Delims → Numbers → List Row → List Piece
pieces d n [] = []
pieces d n (r ∷ rs) = let now = counted n (group_of r) in pieces_of d now r ++ pieces d now rs

unfoldable pub segment_text : Delims → Piece → List ℕ
segment_text d p = join d.field (spelling p.name ∷ p.fields)

-- ---- the message
unfoldable pub written : Delims → List Row → List (List ℕ)
written d rows = map (segment_text d) (pieces d zeros rows)

unfoldable pub message_of : Delims → List Row → List ℕ
message_of d rows = ended 0x0D (written d rows)

-- "message would pass 32,768 bytes or 512 segments": 44; "lent buffer too short": 45
unfoldable pub message_told : Delims → List Row → ℕ → Told (List ℕ)
message_told d rows room =
    let m = message_of d rows in
    refuse 44 if ltb 32768 (length m) || ltb 512 (length (written d rows)) else
    refuse 45 if ltb room (length m) else
    gives m

unfoldable pub to_message : List ℕ → ℕ → Told (List ℕ)
to_message s room = read_sheet s >>= λ rows. message_told base rows room

-- to unfold this name is to unfold the definitions above
unfoldable pub defined : Unit {0}
unfolding base composed blanks encoding name_text names_text value_text pieces_of counted pieces segment_text written message_of message_told to_message
defined = tt
