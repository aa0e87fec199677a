-- What one walk over the lines of a file finds: 50, 51 and 52, by the lines where they are met.
use Rattle.std.specs.Prelude.{◌≡◌, Bool, List, ℕ, length}
use Rattle.csv_rules.specs.Quote.{cut, is_broken, lines_in}
use Rattle.csv_rules.specs.Sheets.{row_converts, first_row}
use Rattle.csv_rules.specs.Spot.{first_not, count_line}

pub record LookedIs (f : List ℕ) (broken : Bool) (lines miscounted unconverted first : ℕ) : Type 0 where
  pub quoting : broken ≡ is_broken (cut f)
  pub counts : lines ≡ length (lines_in (cut f))
  pub counted : miscounted ≡ count_line (lines_in (cut f))
  pub converted : unconverted ≡ first_not row_converts 1 (lines_in (cut f))
  pub rows : first ≡ first_row f
