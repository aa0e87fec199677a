-- "A sheet is lines `key=value`, each ended by 0A": written from rows, and read.
use Rattle.std.specs.Prelude.{Bool, true, false, cond, not, ◌&&◌, List, [], ◌∷◌, ◌++◌, ℕ, zero, suc, ◌-◌, ltb, length, drop}
use Rattle.rules.specs.declared.Name.{Name}
use Rattle.rules.specs.declared.Name.TheVariants.{Obr, Orc, Other}
use Rattle.rules.specs.Told.{Told, gives, refused, refuse◌if◌else◌, ◌>>=◌, ◌>>◌}
use Rattle.rules.specs.Lists.{bytes, empty, same, starts, split, all_but_last, last, ended}
use Rattle.rules.specs.Shift.{keeps}
use Rattle.rules.specs.Frame.{is, known_names, Reached, start, past, may_follow, may_end}
use Rattle.rules.specs.View.{View, view}
use Rattle.rules.specs.Check.{check_told}
use Rattle.rules.specs.Row.{Line, lines, Row, group_of, values, row_of, rows_of}

-- ---- writing
-- what stands before a line's value
unfoldable pub key_of : Line → List ℕ
key_of l = bytes l.key ++ bytes "="

unfoldable pub lines_text : List Line → List (List ℕ) → List (List ℕ)
lines_text [] vs = []
lines_text (l ∷ ls) [] = []
lines_text (l ∷ ls) (v ∷ vs) = (key_of l ++ v) ∷ lines_text ls vs

-- the lines of some rows
unfoldable pub row_lines : List Row → List (List ℕ)
row_lines [] = []
row_lines (r ∷ rs) = lines_text (lines (group_of r)) (values r) ++ row_lines rs

unfoldable pub sheet_of : List Row → List ℕ
sheet_of rows = ended 0x0A (row_lines rows)

-- "Message to sheet gives 45 last."
unfoldable pub sheet_told : View → ℕ → Told (List ℕ)
sheet_told v room = let s = sheet_of (rows_of v) in refuse 45 if ltb room (length s) else gives s

unfoldable pub to_sheet : List ℕ → ℕ → Told (List ℕ)
to_sheet m room = check_told m >> sheet_told (view m) room

-- ---- reading
-- a line's value holds, given the values vs of its group before it, which it joins; "the text `""` is refused"
unfoldable pub line_ok : Line → List (List ℕ) → List ℕ → Bool
line_ok l vs v = not (same v (bytes "\"\"")) && l.holds (vs ++ (v ∷ [])) v

-- the line number i: "42 before 43"
unfoldable pub line_told : ℕ → Line → List (List ℕ) → List ℕ → Told (List ℕ)
line_told i l vs t =
    let v = drop (length (key_of l)) t in
    cond (starts (key_of l) t) (cond (line_ok l vs v) (gives v) (refused 43 i 0)) (refused 42 i 0)

-- a line opens a group by its first key
unfoldable pub opens : Name → List ℕ → Bool
opens g t = elim (lines g) [ [] ↦ false | l ∷ ls ↦ starts (key_of l) t ]

-- the first of some groups that a line opens; `Other` where it opens none
unfoldable pub opened_by : List Name → List ℕ → Name
opened_by [] t = Other
opened_by (g ∷ gs) t = elim (opens g t) [ true ↦ g | false ↦ opened_by gs t ]

-- the group that the line number i opens, where those before have led to a; "wrong or missing key": 42
unfoldable pub open_told : Reached → ℕ → List ℕ → Told Name
open_told a i t = let g = opened_by known_names t in cond (may_follow a g) (gives g) (refused 42 i 0)

-- A group's lines ls, the next with the number i, given the values vs before it: all its values. "At an early end, line count plus 1".
unfoldable pub group_told : List Line → List (List ℕ) → ℕ → List (List ℕ) → Told (List (List ℕ))
group_told [] vs i ts = gives vs
group_told (l ∷ ls) vs i [] = refused 42 i 0
group_told (l ∷ ls) vs i (t ∷ ts) = line_told i l vs t >>= λ v. group_told ls (vs ++ (v ∷ [])) (suc i) ts

-- where a group leads: an ORC has no lines
unfoldable pub past_group : Reached → Name → Reached
past_group a g = cond (is g Obr) (past (past a Obr) Orc) (past a g)

-- The rows from the line number i on, "lines in order", where the groups before have led to a and the next k lines are the last one's.
-- "After status comes item, order, specimen or the end".
unfoldable pub rows_told : Reached → ℕ → ℕ → List (List ℕ) → Told (List Row)
rows_told a k i [] = cond (may_end a) (gives []) (refused 42 i 0)
rows_told a (suc k) i (t ∷ ts) = rows_told a k (suc i) ts
rows_told a zero i (t ∷ ts) =
    open_told a i t >>= λ g.
    group_told (lines g) [] i (t ∷ ts) >>= λ vs.
    rows_told (past_group a g) (length (lines g) - 1) (suc i) ts >>= λ rows.
    gives (row_of g vs ++ rows)

unfoldable pub lines_of : List ℕ → List (List ℕ)
lines_of s = all_but_last (split 0x0A s)

-- "Sheets: 40, 41, lines in order"
unfoldable pub read_sheet : List ℕ → Told (List Row)
read_sheet s =
    refuse 40 if ltb 65536 (length s) else
    refuse 41 if not (keeps 0x0A s && empty (last (split 0x0A s))) else
    rows_told start 0 1 (lines_of s)

-- ---- the rows that a sheet may have
-- every line's value holds, given those before it
unfoldable pub good : List Line → List (List ℕ) → List (List ℕ) → Bool
good [] vs [] = true
good [] vs (w ∷ ws) = false
good (l ∷ ls) vs [] = false
good (l ∷ ls) vs (w ∷ ws) = line_ok l vs w && good ls (vs ++ (w ∷ [])) ws

-- each group may follow those before it, its values hold, and the sheet may end after the last
unfoldable pub valid : Reached → List Row → Bool
valid a [] = may_end a
valid a (r ∷ rs) = may_follow a (group_of r) && (good (lines (group_of r)) [] (values r) && valid (past_group a (group_of r)) rs)

-- to unfold this name is to unfold the definitions above
unfoldable pub defined : Unit {0}
unfolding key_of lines_text row_lines sheet_of sheet_told to_sheet line_ok line_told opens opened_by open_told group_told past_group rows_told lines_of read_sheet good valid
defined = tt
