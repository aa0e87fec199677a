-- 53 and 54 over the rows of a file, and how many runs they make.
use Rattle.std.specs.Prelude.{◌≡◌, Bool, true, false, List, ℕ, ◌≤◌, ◌<◌, length}
use Rattle.csv_rules.specs.Sheets as Sheets
use Rattle.csv_rules.specs.Quote.{Items}
use Rattle.csv_rows.specs.Rows.{lines_from}
use Rattle.csv_places.specs.Places.{Places}
use Rattle.csv_repeats.specs.Looks.{WithRow}
use Rattle.csv_repeats.specs.Rounds.{Partly}

-- what the walk tells of them, as far as the table keeps the numbers; the first row is the third line. Once 53 is met, no more is said of the runs.
pub record WalkedRows (f : List ℕ) (first differs returns count unkept line : ℕ) : Type 0 where
  pub partly : Partly f first 3 differs returns unkept line
  pub runs : differs ≡ 0 → count ≡ length (Sheets.runs (lines_from f first))
  pub heads : 2 ≤ first

-- of a file that is well quoted, has a version line and a heading line, and converts
pub record RepeatsAre (f : List ℕ) (broken : Bool) (lines unconverted first differs returns count unkept line : ℕ) : Type 0 where
  pub rows : broken ≡ false → 2 ≤ lines → unconverted ≡ 0 → WalkedRows f first differs returns count unkept line

-- ---- a row in the walk
-- where 53 and 54 are still looked for, the table keeps rows
pub record Askable (f : List ℕ) (at : ℕ) (places : List ℕ) (count : ℕ) (asked : Bool) : Type 0 where
  pub few : count ≤ at
  pub place : at < length f
  pub table : asked ≡ true → Places f places

pub record WithRowIf (f : List ℕ) (first at : ℕ) (before row : Items) (places : List ℕ) (unkept line k differs returns count : ℕ) (asked : Bool) (o m d r n : ℕ) (after : List ℕ) : Type 0 where
  pub with : asked ≡ true → WithRow f first at before row places unkept line k returns count o m d r n after
  pub kept : asked ≡ false → (d ≡ differs) × (r ≡ returns) × (n ≡ count) × (o ≡ unkept) × (m ≡ line) × (after ≡ places)
