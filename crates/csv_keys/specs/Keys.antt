-- A key's raw value as the code finds it: some bytes that don't stand in the file, then a stretch of the file.
use Rattle.std.specs.Prelude.{◌≡◌, true, false, List, ◌++◌, ℕ, ◌≤◌, length}
use Rattle.rules.specs.Lists.{all}
use Rattle.rules.specs.Shift.{within}
use Rattle.csv_rules.specs.Written.{halved}
use Rattle.csv_rules.specs.Columns as Columns
use Rattle.csv_rules.specs.Columns.{sexes, classes, forms}
use Rattle.csv_rows.specs.Rows.{LiesIn}
use Rattle.csv_keys.specs.declared.How.{How}
use Rattle.csv_keys.specs.declared.How.TheVariants.{Text, UpToBlank, PastBlank, Fifteen, Sex, Class, Form, ValueType}

-- the table's way that a case of the code's enum stands for
unfoldable pub how_of : How → Columns.How
how_of Text = Columns.text
how_of UpToBlank = Columns.up_to_blank
how_of PastBlank = Columns.past_blank
how_of Fifteen = Columns.fifteen
how_of Sex = Columns.coded sexes
how_of Class = Columns.coded classes
how_of Form = Columns.coded forms
how_of ValueType = Columns.typed 35

-- the bytes lead, then the text that lies in the file as the bytes raw
unfoldable pub raw_value : List ℕ → List ℕ → List ℕ
raw_value lead raw = lead ++ halved false raw

-- a key of an item as it lies in the file: its raw value is v; the bytes that don't stand in the file stand alone, at most fifteen; the others are a stretch of the item
pub record KeyIs (item v lead raw : List ℕ) : Type 0 where
  pub is : raw_value lead raw ≡ v
  pub plain : all (λ (b : ℕ). within 0x20 0x7E b) lead ≡ true
  pub few : length lead ≤ 15
  pub lies : LiesIn item raw
