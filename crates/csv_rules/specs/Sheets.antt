-- Req 01. The sheets of a commercial centre's file.
use Rattle.std.specs.Prelude.{Bool, true, false, cond, not, ◌&&◌, ◌||◌, List, [], ◌∷◌, ◌++◌, ℕ, ◌+◌, ltb, length, take, drop}
use Rattle.rules.specs.declared.Name.{Name}
use Rattle.rules.specs.declared.Name.TheVariants.{Pid, Pv1, Spm, Obr, Obx}
use Rattle.rules.specs.Told.{Told, gives, refused, refuse◌if◌else◌, ◌>>=◌, ◌>>◌}
use Rattle.rules.specs.Lists.{same, all, any}
use Rattle.rules.specs.Fetch.{ordinal}
use Rattle.rules.specs.Row.{Row, header, row_of}
use Rattle.rules.specs.Sheet.{sheet_of, read_sheet}
use Rattle.csv_rules.specs.declared.CsvSheets.{CsvSheets}
use Rattle.csv_rules.specs.Quote.{Items, cut, is_broken, FileLine, lines_in}
use Rattle.csv_rules.specs.Count.{well_counted}
use Rattle.csv_rules.specs.Kanji.{convertible}
use Rattle.csv_rules.specs.Columns.{keys, number_of}

-- ---- comparing rows, by their keys
unfoldable pub same_texts : List (List ℕ) → List (List ℕ) → Bool
same_texts [] [] = true
same_texts [] (w ∷ ws) = false
same_texts (v ∷ vs) [] = false
same_texts (v ∷ vs) (w ∷ ws) = same v w && same_texts vs ws

abbrev pub agree : Name → Items → Items → Bool
agree g r q = same_texts (keys g r) (keys g q)

abbrev pub same_number : Items → Items → Bool
same_number r q = same (number_of r) (number_of q)

-- 53 "rows of a number that differ in a header key": two rows, wherever they stand
abbrev pub clash : Items → FileLine → Bool
clash r q = same_number r q.items && not (agree Pid r q.items && agree Pv1 r q.items)

unfoldable pub differ : List FileLine → Bool
differ [] = false
differ (r ∷ rs) = any (clash r.items) rs || differ rs

-- ---- "All rows with one result number (column 7) make one sheet"
-- adjoining rows with one number: the first, and those after it
pub record Run : Type 0 where
  pub row : FileLine
  pub others : List FileLine

abbrev pub run_lines : Run → List FileLine
run_lines u = u.row ∷ u.others

unfoldable pub join_run : FileLine → List Run → List Run
join_run r [] = record { row = r; others = [] } ∷ []
join_run r (u ∷ us) =
    elim (same_number r.items u.row.items) [
      | true ↦ record { row = r; others = u.row ∷ u.others } ∷ us
      | false ↦ record { row = r; others = [] } ∷ u ∷ us
    ]

unfoldable pub runs : List FileLine → List Run
runs [] = []
runs (r ∷ rs) = join_run r (runs rs)

-- 54 "a number that returns after another": two runs with one number
unfoldable pub returns : List Run → Bool
returns [] = false
returns (u ∷ us) = any (λ (w : Run). same_number u.row.items w.row.items) us || returns us

-- 52, of every item: version line, heading line and dropped columns too
abbrev pub row_converts : FileLine → Bool
row_converts l = all convertible l.items

-- 50 to 54, "in that order, each over the whole file"; else the runs
unfoldable pub csv_told : List ℕ → Told (List Run)
csv_told file =
    let ls = lines_in (cut file) in
    let rows = drop 2 ls in
    refuse 50 if is_broken (cut file) else
    refuse 51 if not (well_counted ls) else
    refuse 52 if not (all row_converts ls) else
    refuse 53 if differ rows else
    refuse 54 if returns (runs rows) else
    gives (runs rows)

-- ---- the sheet of a run
-- "the caller gives the values of keys without a column"
pub record Given : Type 0 where
  pub mode : List ℕ
  pub sent : List ℕ
  pub control : List ℕ

abbrev pub row_in : Name → Items → List Row
row_in g r = row_of g (keys g r)

-- "a row whose specimen keys, or those and its order keys, equal the row before's joins that specimen or order": the rows after one
unfoldable pub below : Items → List FileLine → List Row
below q [] = []
below q (r ∷ rs) =
    let specimen = agree Spm q r.items in
    let order = specimen && agree Obr q r.items in
    cond specimen [] (row_in Spm r.items) ++ (cond order [] (row_in Obr r.items) ++ (row_in Obx r.items ++ below r.items rs))

unfoldable pub sheet_rows : Given → Run → List Row
sheet_rows g u =
    let r = u.row.items in
    header g.mode g.sent g.control ∷ (row_in Pid r ++ (row_in Pv1 r ++ (row_in Spm r ++ (row_in Obr r ++ (row_in Obx r ++ below r u.others)))))

-- "then the sheet's own": what reading it refuses, 40 to 43; 45 "lent buffer too short"
unfoldable pub run_told : Given → Run → ℕ → Told (List ℕ)
run_told g u room =
    let s = sheet_of (sheet_rows g u) in
    read_sheet s >>
    refuse 45 if ltb room (length s) else
    gives s

-- ---- the calls
unfoldable pub bytes_in : List FileLine → ℕ
bytes_in [] = 0
bytes_in (l ∷ ls) = l.size + bytes_in ls

-- where the first row stands
unfoldable pub first_row : List ℕ → ℕ
first_row file = bytes_in (take 2 (lines_in (cut file)))

-- how many sheets there are, and where the first row stands
unfoldable pub csv_count : List ℕ → Told CsvSheets
csv_count file = csv_told file >>= λ us. gives (record { count = length us; first = first_row file })

-- the which-th sheet; 30 where there is none
unfoldable pub csv_sheet : List ℕ → ℕ → Given → ℕ → Told (List ℕ)
csv_sheet file which g room = csv_told file >>= λ us. ordinal us which >>= λ u. run_told g u room

-- ---- sheet after sheet: what begins at a place, of any bytes. The lines from there on, as far as they are well quoted, and the first run of
-- them: 50 where the line at the place is broken, 30 where there is none; 52 and 53 of the run's own rows. (No column count is known here.)
unfoldable pub first_told : Bool → List Run → Told Run
first_told bad [] = refuse 50 if bad else refused 30 0 0
first_told bad (u ∷ us) = refuse 52 if not (all row_converts (run_lines u)) else refuse 53 if differ (run_lines u) else gives u

unfoldable pub runs_from : List ℕ → ℕ → List Run
runs_from file at = runs (lines_in (cut (drop at file)))

unfoldable pub csv_next : List ℕ → ℕ → Given → ℕ → Told (List ℕ)
csv_next file at g room = first_told (is_broken (cut (drop at file))) (runs_from file at) >>= λ u. run_told g u room

-- the place behind the run; the end of the file where there is none
unfoldable pub behind_run : ℕ → ℕ → List Run → ℕ
behind_run end at [] = end
behind_run end at (u ∷ us) = at + bytes_in (run_lines u)

unfoldable pub place_after : List ℕ → ℕ → ℕ
place_after file at = behind_run (length file) at (runs_from file at)
