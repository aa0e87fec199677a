-- The lines of a sheet that a row gives, group by group.
use Rattle.std.specs.Prelude.{cond, ◌&&◌, List, [], ◌∷◌, ◌++◌, ℕ, take, drop}
use Rattle.rules.specs.declared.Name.{Name}
use Rattle.rules.specs.declared.Name.TheVariants.{Msh, Pid, Pv1, Spm, Obr, Obx}
use Rattle.rules.specs.Lists.{bytes}
use Rattle.rules.specs.Row.{lines}
use Rattle.rules.specs.Sheet.{lines_text}
use Rattle.csv_rules.specs.Quote.{Items}
use Rattle.csv_rules.specs.Columns.{value_by, keys}
use Rattle.csv_rules.specs.Sheets.{agree}
use Rattle.csv_keys.specs.declared.How.{How}
use Rattle.csv_keys.specs.declared.How.TheVariants.{UpToBlank, PastBlank}
use Rattle.csv_keys.specs.Keys.{how_of}

-- a line's key with `=`, and the value that a column feeds; the two of a name
unfoldable pub line_by : List ℕ → How → Items → ℕ → List (List ℕ)
line_by key how row n = (key ++ value_by (how_of how) row n) ∷ []

unfoldable pub family_and_given : List ℕ → List ℕ → Items → ℕ → List (List ℕ)
family_and_given family given row n = line_by family UpToBlank row n ++ line_by given PastBlank row n

-- the lines of a group of a row; n of them from the k-th on, from 0
unfoldable pub group_lines : Name → Items → List (List ℕ)
group_lines g row = lines_text (lines g) (keys g row)

unfoldable pub some_lines : Name → ℕ → ℕ → Items → List (List ℕ)
some_lines g k n row = take n (drop k (group_lines g row))

-- "the caller gives the values of keys without a column"
unfoldable pub header_lines : List ℕ → List ℕ → List ℕ → List (List ℕ)
header_lines mode sent control = lines_text (lines Msh) (bytes "1" ∷ mode ∷ sent ∷ control ∷ [])

-- the lines of a sheet's first row, and of a row r behind another, q
unfoldable pub first_lines : Items → List (List ℕ)
first_lines r = group_lines Pid r ++ (group_lines Pv1 r ++ (group_lines Spm r ++ (group_lines Obr r ++ group_lines Obx r)))

unfoldable pub next_lines : Items → Items → List (List ℕ)
next_lines q r =
    cond (agree Spm q r) [] (group_lines Spm r) ++ (cond (agree Spm q r && agree Obr q r) [] (group_lines Obr r) ++ group_lines Obx r)
