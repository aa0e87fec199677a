-- THE TABLE: "Which column feeds which key is listed in docs/ from section 2.3". The columns of document 004, section 2.3, that feed the lines
-- of a sheet, in the sheet's order.
use Rattle.std.specs.Prelude.{true, false, cond, ◌&&◌, ◌||◌, List, [], ◌∷◌, ◌++◌, map, ℕ, suc, ◌-◌, leb, length, drop, replicate}
use Prim.Native.String.{String}
use Rattle.rules.specs.declared.Name.{Name}
use Rattle.rules.specs.declared.Name.TheVariants.{Msh, Pid, Pv1, Spm, Obr, Orc, Obx, Other}
use Rattle.rules.specs.Lists.{bytes, empty, filled, nth, same, all, split}
use Rattle.rules.specs.Frame.{digit}
use Rattle.rules.specs.Value.{numeric, fits}
use Rattle.csv_rules.specs.Quote.{Items}
use Rattle.csv_rules.specs.Kanji.{converted}

-- ---- how a column's text becomes a value
pub data How : Type 0 where
  -- as it is; before the first blank, after it; fifteen digits; always blank
  text up_to_blank past_blank fifteen blank : How
  -- by a table of codes
  coded : List (String × String) → How
  -- the type, where this column is the form of the value in column n
  typed : ℕ → How

-- 004, PID-5: the name is cut at the first half-width blank (20, which no pair has); without one, all of it is the family name
unfoldable pub family_of : List ℕ → List ℕ
family_of v = nth (split 0x20 v) 0

unfoldable pub given_of : List ℕ → List ℕ
given_of v = drop (suc (length (family_of v))) v

-- 004, OBR-2: "15 digits, leading zeros"; what isn't 1 to 15 digits stays, for the sheet's rule to judge
unfoldable pub fifteen_of : List ℕ → List ℕ
fifteen_of v = cond (filled v && (leb (length v) 15 && all digit v)) (replicate (15 - length v) 48 ++ v) v

-- a code's meaning; what is no code stays, for the sheet's rule to judge
unfoldable pub meaning_of : List (String × String) → List ℕ → List ℕ
meaning_of [] v = v
meaning_of (c ∷ cs) v = elim (same v (bytes c.0)) [ true ↦ bytes c.1 | false ↦ meaning_of cs v ]

-- 004, OBX-2: a form other than B ("no result") makes SN; without one a number (01's NM) is NM, any other value ST
unfoldable pub type_of : List ℕ → List ℕ → List ℕ
type_of value form = cond (empty form || same form (bytes "B")) (cond (fits true numeric value) (bytes "NM") (bytes "ST")) (bytes "SN")

-- the text of column n; columns past a row's end are blank
unfoldable pub text_at : Items → ℕ → List ℕ
text_at row n = converted (nth row (n - 1))

unfoldable pub value_by : How → Items → ℕ → List ℕ
value_by text row n = text_at row n
value_by up_to_blank row n = family_of (text_at row n)
value_by past_blank row n = given_of (text_at row n)
value_by fifteen row n = fifteen_of (text_at row n)
value_by blank row n = []
value_by (coded cs) row n = meaning_of cs (text_at row n)
value_by (typed v) row n = type_of (text_at row v) (text_at row n)

-- ---- the table
-- a line's key, the column that feeds it, the column's name in 004, and how
pub record Entry : Type 0 where
  pub key : String
  pub column : ℕ
  pub title : String
  pub how : How

entry : String → ℕ → String → How → Entry
entry k n t h = record { key = k; column = n; title = t; how = h }

-- 004, tables 2 and 6 with PID-8 and PV1-2; table 10 with the comparators of SN
abbrev pub sexes : List (String × String)
sexes = ("1", "M") ∷ ("2", "F") ∷ ("3", "O") ∷ []

abbrev pub classes : List (String × String)
classes = ("1", "I") ∷ ("2", "O") ∷ []

abbrev pub forms : List (String × String)
forms = ("U", ">=") ∷ ("E", "<=") ∷ ("L", "<") ∷ ("O", ">") ∷ ("B", "") ∷ []

-- column 0 is no column: "the caller gives the values of keys without a column", mode, sent and control; join and second are blank
unfoldable pub columns : Name → List Entry
unfolding entry
columns Pid =
    entry "patient" 8 "患者ID(カルテ番号)" text
    ∷ entry "family" 9 "患者氏名(漢字氏名)" up_to_blank
    ∷ entry "given" 9 "患者氏名(漢字氏名)" past_blank
    ∷ entry "kanafamily" 10 "半角カナ氏名" up_to_blank
    ∷ entry "kanagiven" 10 "半角カナ氏名" past_blank
    ∷ entry "birth" 11 "生年月日" text
    ∷ entry "sex" 12 "性別" (coded sexes)
    ∷ []
columns Pv1 = entry "class" 21 "入外区分" (coded classes) ∷ []
columns Spm = entry "specimen" 25 "検体タイプ" text ∷ entry "collected" 24 "検体採取日時" text ∷ []
columns Obr = entry "order" 20 "検査依頼者オーダID" fifteen ∷ entry "group" 30 "検査項目見出し" text ∷ []
columns Obx =
    entry "item" 31 "JLAC10コード" text
    ∷ entry "name" 29 "検査項目名称" text
    ∷ entry "type" 36 "結果値形態" (typed 35)
    ∷ entry "compare" 36 "結果値形態" (coded forms)
    ∷ entry "value" 35 "検査値" text
    ∷ entry "join" 0 "" blank
    ∷ entry "second" 0 "" blank
    ∷ entry "unit" 37 "単位" text
    ∷ entry "flag" 41 "異常フラグ" text
    ∷ entry "status" 34 "検査結果状態" text
    ∷ []
columns Msh = []
columns Orc = []
columns Other = []

-- the values of a group's lines, from a row
unfoldable pub keys : Name → Items → List (List ℕ)
keys g row = map (λ (e : Entry). value_by e.how row e.column) (columns g)

-- "All rows with one result number (column 7)": 検査結果通番, compared as it stands in the file
unfoldable pub number_of : Items → List ℕ
number_of row = nth row 6

-- "columns without a key are dropped": the others of the 45
unfoldable pub dropped : List (ℕ × String)
dropped =
    (1, "検査機関識別コード") ∷ (2, "検査機関名") ∷ (3, "施設コード") ∷ (4, "施設名称") ∷ (5, "診療科コード") ∷ (6, "検査依頼医師氏名")
    ∷ (13, "同意患者識別子") ∷ (14, "身長") ∷ (15, "体重") ∷ (16, "透析区分コード") ∷ (17, "食事区分コード") ∷ (18, "食事区分テキスト")
    ∷ (19, "妊娠週数") ∷ (22, "検査依頼日時") ∷ (23, "オーダーコメント") ∷ (26, "検体コメント") ∷ (27, "尿量") ∷ (28, "検査項目独自コード")
    ∷ (32, "レセプト電算コード") ∷ (33, "検査実施日(受付日)") ∷ (38, "基準値区分") ∷ (39, "基準値1(下限)") ∷ (40, "基準値2(上限)")
    ∷ (42, "結果コメント1(コード)") ∷ (43, "結果コメント1(内容)") ∷ (44, "結果コメント2(コード)") ∷ (45, "結果コメント2(内容)") ∷ []
