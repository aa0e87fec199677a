-- A small file: what the definitions say of it, by computation. Two numbers; 日本 is 93 FA 96 7B in Shift_JIS and 46 7C 4B 5C here; an order
-- spelled twice, a name with a trailing blank, a form, a quote doubled, a result without a value.
use Rattle.std.specs.Prelude.{◌≡◌, refl, true, false, List, [], ◌∷◌, map, ℕ, zero, suc, eqb}
use Prim.Native.String.{String}
use Rattle.rules.specs.Told.{gives, refused}
use Rattle.rules.specs.Lists.{bytes, ended}
use Rattle.rules.specs.All.{rules}
use Rattle.csv_rules.specs.Written.{quoted_line, file_text}
use Rattle.csv_rules.specs.Sheets.{Given, csv_count, csv_sheet, csv_next, place_after}
use Rattle.csv_rules.specs.Spot.{csv_spot}
use Rattle.csv_rules.specs.AllCsv.{csv-rules}

-- the item of column n, where some columns are filled; the items of n columns from k on
unfoldable pub sample_item : List (ℕ × String) → ℕ → List ℕ
sample_item [] n = []
sample_item (c ∷ cs) n = elim (eqb c.0 n) [ true ↦ bytes c.1 | false ↦ sample_item cs n ]

unfoldable pub sample_items : List (ℕ × String) → ℕ → ℕ → List (List ℕ)
sample_items cs k zero = []
sample_items cs k (suc n) = sample_item cs k ∷ sample_items cs (suc k) n

abbrev pub row : List (ℕ × String) → List (List ℕ)
row cs = sample_items cs 1 45

abbrev pub version : List (List ℕ)
version = map bytes ("Ver1.00" ∷ "45" ∷ "20140318" ∷ [])

abbrev pub heading : List (List ℕ)
heading = map bytes ("c1" ∷ "c2" ∷ [])

-- the first patient's rows, with a number and a birth date
abbrev pub got : String → String → List (List ℕ)
got number birth =
    row ((7, number) ∷ (8, "P7") ∷ (9, "\u{93}ú\u{96}{ Jun") ∷ (11, birth) ∷ (12, "1") ∷ (20, "42") ∷ (21, "2")
    ∷ (24, "20240401081500") ∷ (25, "023") ∷ (29, "GOT") ∷ (30, "E000") ∷ (31, "3B0350000023272") ∷ (34, "F") ∷ (35, "31") ∷ (37, "U/L") ∷ (41, "N") ∷ [])

abbrev pub crp : List (List ℕ)
crp =
    row ((7, "1") ∷ (8, "P7") ∷ (9, "\u{93}ú\u{96}{ Jun") ∷ (11, "19700228") ∷ (12, "1") ∷ (20, "0042") ∷ (21, "2")
    ∷ (24, "20240401081500") ∷ (25, "023") ∷ (29, "\"CRP\"") ∷ (30, "E000") ∷ (31, "5C070") ∷ (34, "F") ∷ (35, "0.1") ∷ (36, "L") ∷ [])

abbrev pub other_row : List (List ℕ)
other_row =
    row ((7, "2") ∷ (8, "P8") ∷ (9, "Hara ") ∷ (12, "2") ∷ (20, "43") ∷ (21, "1") ∷ (24, "20240401081500") ∷ (25, "001") ∷ (30, "E000")
    ∷ (31, "1A100") ∷ (34, "X") ∷ (36, "B") ∷ [])

unfoldable pub sample : List ℕ
sample = file_text (version ∷ heading ∷ got "1" "19700228" ∷ crp ∷ other_row ∷ [])

abbrev pub own : Given
own = record { mode = bytes "T"; sent = bytes "20240401093000"; control = bytes "K0001" }

unfoldable pub first_sheet : List ℕ
first_sheet =
    ended 0x0A (map bytes (
    "version=1" ∷ "mode=T" ∷ "sent=20240401093000" ∷ "control=K0001" ∷ "patient=P7" ∷ "family=\u{1b}$BF|K\\\u{1b}(B" ∷ "given=Jun"
    ∷ "kanafamily=" ∷ "kanagiven=" ∷ "birth=19700228" ∷ "sex=M" ∷ "class=O"
    ∷ "specimen=023" ∷ "collected=20240401081500"
    ∷ "order=000000000000042" ∷ "group=E000"
    ∷ "item=3B0350000023272" ∷ "name=GOT" ∷ "type=NM" ∷ "compare=" ∷ "value=31" ∷ "join=" ∷ "second=" ∷ "unit=U/L" ∷ "flag=N" ∷ "status=F"
    ∷ "item=5C070" ∷ "name=\"CRP\"" ∷ "type=SN" ∷ "compare=<" ∷ "value=0.1" ∷ "join=" ∷ "second=" ∷ "unit=" ∷ "flag=" ∷ "status=F"
    ∷ []))

unfoldable pub second_sheet : List ℕ
second_sheet =
    ended 0x0A (map bytes (
    "version=1" ∷ "mode=T" ∷ "sent=20240401093000" ∷ "control=K0001" ∷ "patient=P8" ∷ "family=Hara" ∷ "given="
    ∷ "kanafamily=" ∷ "kanagiven=" ∷ "birth=" ∷ "sex=F" ∷ "class=I"
    ∷ "specimen=001" ∷ "collected=20240401081500"
    ∷ "order=000000000000043" ∷ "group=E000"
    ∷ "item=1A100" ∷ "name=" ∷ "type=ST" ∷ "compare=" ∷ "value=" ∷ "join=" ∷ "second=" ∷ "unit=" ∷ "flag=" ∷ "status=X"
    ∷ []))

pub sample-count : csv_count sample ≡ gives (record { count = 2; first = 38 })
unfolding rules csv-rules sample_item sample_items sample
sample-count = refl

pub sample-first : csv_sheet sample 1 own 1000 ≡ gives first_sheet
unfolding rules csv-rules sample_item sample_items sample first_sheet
sample-first = refl

pub sample-second : csv_sheet sample 2 own 1000 ≡ gives second_sheet
unfolding rules csv-rules sample_item sample_items sample second_sheet
sample-second = refl

pub sample-follows : csv_next sample (place_after sample 38) own 1000 ≡ gives second_sheet
unfolding rules csv-rules sample_item sample_items sample second_sheet
sample-follows = refl

-- what each refusal is met by
unfoldable pub file_of : List (List (List ℕ)) → List ℕ
file_of rows = file_text (version ∷ heading ∷ rows)

-- each file, whether asked for its count or for a sheet that it lacks
pub record Refuses (file : List ℕ) (n line : ℕ) : Type 0 where
  pub count : csv_count file ≡ refused n 0 0
  pub sheet : csv_sheet file 9 own 0 ≡ refused n 0 0
  pub spot : csv_spot file ≡ line

pub refusals :
    -- a blank after a comma; a line end alone
    Refuses (bytes "\"Ver1.00\", \"45\"\r\n\"h\"\r\n") 50 1 × Refuses (bytes "\"Ver1.00\",\"45\"\n\"h\"\r\n") 50 1
    -- no heading line; 6 columns; a row of two; an empty file
    × Refuses (quoted_line version) 51 2 × Refuses (bytes "\"Ver1.00\",\"6\"\r\n\"h\"") 51 1 × Refuses (file_of (heading ∷ [])) 51 3 × Refuses [] 51 1
    -- half-width kana in the heading line; a lead byte before the closing quote
    × Refuses (bytes "\"Ver1.00\",\"7\"\r\n\"±\"") 52 2 × Refuses (bytes "\"Ver1.00\",\"7\"\r\n\"\u{93}\"") 52 2
    -- another birth date, also where the number returns; a number that returns
    × Refuses (file_of (got "1" "19700228" ∷ got "1" "" ∷ [])) 53 4 × Refuses (file_of (got "1" "19700228" ∷ other_row ∷ got "1" "" ∷ [])) 53 5
    × Refuses (file_of (got "1" "19700228" ∷ other_row ∷ got "1" "19700228" ∷ [])) 54 5
    -- no rows: no sheet
    × (csv_sheet (file_of []) 1 own 1000 ≡ refused 30 0 0)
    -- the sheet's own, before 45
    × (csv_sheet (file_of (got "1" "19700229" ∷ [])) 1 own 0 ≡ refused 43 10 0)
    × (csv_sheet sample 1 own 100 ≡ refused 45 0 0)
unfolding rules csv-rules sample_item sample_items sample file_of
refusals = (
  record { count = refl; sheet = refl; spot = refl },
  record { count = refl; sheet = refl; spot = refl },
  record { count = refl; sheet = refl; spot = refl },
  record { count = refl; sheet = refl; spot = refl },
  record { count = refl; sheet = refl; spot = refl },
  record { count = refl; sheet = refl; spot = refl },
  record { count = refl; sheet = refl; spot = refl },
  record { count = refl; sheet = refl; spot = refl },
  record { count = refl; sheet = refl; spot = refl },
  record { count = refl; sheet = refl; spot = refl },
  record { count = refl; sheet = refl; spot = refl },
  refl,
  refl,
  refl,
)
