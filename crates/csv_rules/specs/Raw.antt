-- Keys by the bytes of the file, before they are converted: what the code cuts, looks up and compares. A key's value is the converted text of its
-- raw value, and keys agree where their raw values do (proofs/Raw).
use Rattle.std.specs.Prelude.{Bool, List, [], map, ℕ, ◌-◌}
use Rattle.rules.specs.declared.Name.{Name}
use Rattle.rules.specs.Lists.{nth}
use Rattle.csv_rules.specs.Quote.{Items}
use Rattle.csv_rules.specs.Columns.{How, text, up_to_blank, past_blank, fifteen, blank, coded, typed, family_of, given_of, fifteen_of, meaning_of, type_of, Entry, columns}
use Rattle.csv_rules.specs.Sheets.{same_texts}

unfoldable pub raw_by : How → Items → ℕ → List ℕ
raw_by text row n = nth row (n - 1)
raw_by up_to_blank row n = family_of (nth row (n - 1))
raw_by past_blank row n = given_of (nth row (n - 1))
raw_by fifteen row n = fifteen_of (nth row (n - 1))
raw_by blank row n = []
raw_by (coded cs) row n = meaning_of cs (nth row (n - 1))
raw_by (typed v) row n = type_of (nth row (v - 1)) (nth row (n - 1))

-- the raw values of a group's lines
unfoldable pub raw_keys : Name → Items → List (List ℕ)
raw_keys g row = map (λ (e : Entry). raw_by e.how row e.column) (columns g)

abbrev pub raw_agree : Name → Items → Items → Bool
raw_agree g r q = same_texts (raw_keys g r) (raw_keys g q)
