-- Demands 2 and 3 on cases, by computation: what a definition that breaks a demand runs into. For every sheet and message they are
-- theorems over these definitions.
use Rattle.std.specs.Prelude.{◌≡◌, refl, true, false, List, [], ◌∷◌, ◌++◌, map, ℕ, suc, eqb}
use Prim.Native.Char.{code}
use Prim.Native.String.{String}
use Rattle.rules.specs.declared.Name.{Name}
use Rattle.rules.specs.declared.Name.TheVariants.{Msh, Pid, Pv1, Spm, Obr, Orc, Obx}
use Rattle.rules.specs.Told.{Told, gives, accepted, ◌>>=◌}
use Rattle.rules.specs.Lists.{bytes, ended}
use Rattle.rules.specs.Places.{Place, Field, reads, closed, places}
use Rattle.rules.specs.Check.{check_told}
use Rattle.rules.specs.Fetch.{part_told}
use Rattle.rules.specs.Sheet.{to_sheet}
use Rattle.rules.specs.Message.{to_message}
use Rattle.rules.specs.All.{rules}
use Rattle.rules.specs.WholeCase.{whole_sheet, whole_message, the_case}

-- ---- demand 2: "A sheet that is written and read returns byte for byte."
unfoldable pub written_and_read : List ℕ → Told (List ℕ)
written_and_read s = to_message s 32768 >>= λ m. to_sheet m 65536

abbrev pub Returns : List ℕ → Type 0
Returns s = written_and_read s ≡ gives s

pub whole-returns : Returns whole_sheet
unfolding the_case written_and_read
whole-returns = refl

-- 日 is 46 7C, and its 7C is no bar; every delimiter in a name and in an ST; `\F\` as a name; a kana name; a filled SN; an X result between two
-- others; a second order
abbrev day : List ℕ
day = 0x1B ∷ 0x24 ∷ 0x42 ∷ 0x46 ∷ 0x7C ∷ 0x1B ∷ 0x28 ∷ 0x42 ∷ []

unfoldable pub hard_sheet : List ℕ
hard_sheet =
    ended 0x0A (map bytes ("version=1" ∷ "mode=P" ∷ "sent=20240229235959" ∷ "control=K|2" ∷ "patient=P^8" ∷ [])
    ++ ((bytes "family=" ++ day) ∷ map bytes (
    "given=a|b^c~d\\e&f" ∷ "kanafamily=Hi" ∷ "kanagiven=" ∷ "birth=" ∷ "sex=U" ∷ "class=I"
    ∷ "specimen=023" ∷ "collected=20240229000000"
    ∷ "order=000000000000042" ∷ "group=E000"
    ∷ "item=A1" ∷ "name=\\F\\" ∷ "type=SN" ∷ "compare=>=" ∷ "value=01.20" ∷ "join=:" ∷ "second=128" ∷ "unit=%" ∷ "flag=" ∷ "status=C"
    ∷ "item=A2" ∷ "name=" ∷ "type=ST" ∷ "compare=" ∷ "value=a|b^c~d\\e&f" ∷ "join=" ∷ "second=" ∷ "unit=" ∷ "flag=" ∷ "status=F"
    ∷ "item=A3" ∷ "name=GPT" ∷ "type=NM" ∷ "compare=" ∷ "value=" ∷ "join=" ∷ "second=" ∷ "unit=U/L" ∷ "flag=" ∷ "status=X"
    ∷ "item=A4" ∷ "name=GOT" ∷ "type=NM" ∷ "compare=" ∷ "value=-0" ∷ "join=" ∷ "second=" ∷ "unit=U/L" ∷ "flag=H" ∷ "status=P"
    ∷ "order=000000000000043" ∷ "group=E001"
    ∷ "item=A3" ∷ "name=GPT" ∷ "type=NM" ∷ "compare=" ∷ "value=.5" ∷ "join=" ∷ "second=" ∷ "unit=U/L" ∷ "flag=" ∷ "status=F"
    ∷ [])))

unfoldable pub hard_message : List ℕ
hard_message =
    ended 0x0D (bytes "MSH|^~\\&|||||20240229235959||OUL^R22^OUL_R22|K\\F\\2|P|2.5||||||~ISO IR87||ISO 2022-1994"
    ∷ (bytes "PID|||P\\S\\8||" ++ (day ++ bytes "^a\\F\\b\\S\\c\\R\\d\\E\\e\\T\\f^^^^^L^I~Hi^^^^^^L^P|||U"))
    ∷ map bytes (
    "PV1||I"
    ∷ "SPM|1|||023^^JC10|||||||||||||20240229000000"
    ∷ "OBR||000000000000042||E000^^99003"
    ∷ "ORC|RE|000000000000042"
    ∷ "OBX|1|SN|A1^\\E\\F\\E\\^JC10||>=^01.20^:^128|%|||||C"
    ∷ "OBX|2|ST|A2^^JC10||a\\F\\b\\S\\c\\R\\d\\E\\e\\T\\f||||||F"
    ∷ "OBX|3|NM|A3^GPT^JC10|||U/L|||||X"
    ∷ "OBX|4|NM|A4^GOT^JC10||-0|U/L||H|||P"
    ∷ "OBR||000000000000043||E001^^99003"
    ∷ "ORC|RE|000000000000043"
    ∷ "OBX|1|NM|A3^GPT^JC10||.5|U/L|||||F"
    ∷ []))

pub hard-returns : Returns hard_sheet
unfolding rules hard_sheet written_and_read
hard-returns = refl

pub hard-is-written : to_message hard_sheet 32768 ≡ gives hard_message
unfolding rules hard_sheet hard_message
hard-is-written = refl

-- ---- demand 3: "content in places that the profile doesn't read never changes an answer."
-- the parts that are read of the i-th known segment
unfoldable pub parts_shown : List ℕ → ℕ → List Field → List (Told (List ℕ))
parts_shown m i [] = []
parts_shown m i (reads f ps ∷ fs) = map (λ (p : Place). part_told m i f p.component) ps ++ parts_shown m i fs
parts_shown m i (closed f form ∷ fs) = map (part_told m i f) (1 ∷ 2 ∷ []) ++ parts_shown m i fs

-- of known segments with these names, the first with the ordinal i
unfoldable pub shown_from : List ℕ → ℕ → List Name → List (Told (List ℕ))
shown_from m i [] = []
shown_from m i (n ∷ ns) = parts_shown m i (places n) ++ shown_from m (suc i) ns

unfoldable pub shown : List ℕ → List (Told (List ℕ))
shown m = shown_from m 1 (Msh ∷ Pid ∷ Pv1 ∷ Spm ∷ Obr ∷ Orc ∷ Obx ∷ Obx ∷ [])

unfoldable pub whole_parts : List (Told (List ℕ))
whole_parts =
    map (λ (s : String). gives (bytes s)) (
    "20240401093000" ∷ "OUL" ∷ "R22" ∷ "OUL_R22" ∷ "K0001" ∷ "T" ∷ "2.5" ∷ "" ∷ ""
    ∷ "P7" ∷ "Hara" ∷ "Jun" ∷ "19700228" ∷ "M"
    ∷ "O"
    ∷ "023" ∷ "JC10" ∷ "20240401081500"
    ∷ "000000000000042" ∷ "E000" ∷ "99003"
    ∷ "RE" ∷ "000000000000042"
    ∷ "NM" ∷ "3B0350000023272" ∷ "GOT" ∷ "JC10" ∷ "31" ∷ "" ∷ "U/L" ∷ "N" ∷ "F"
    ∷ "NM" ∷ "3B0450000023272" ∷ "GPT" ∷ "JC10" ∷ "" ∷ "" ∷ "U/L" ∷ "" ∷ "X"
    ∷ [])

-- the answers of the whole case: the check's, the sheet, each part that is read
pub record AsWhole (m : List ℕ) : Type 0 where
  pub check : check_told m ≡ accepted 1 1 2
  pub sheet : to_sheet m 65536 ≡ gives whole_sheet
  pub parts : shown m ≡ whole_parts

-- each `?` of a text replaced by x
unfoldable pub put : List ℕ → List ℕ → List ℕ
put x [] = []
put x (b ∷ s) = elim (eqb b (code "?")) [ true ↦ x ++ put x s | false ↦ b ∷ put x s ]

-- the whole case with x in every field and component that the profile doesn't read, and with segments of other names
unfoldable pub newer_with : List ℕ → List ℕ
newer_with x =
    ended 0x0D (map (λ (s : String). put x (bytes s)) (
    "MSH|^~\\&|?|?|?|?|20240401093000^?|?^?~?|OUL^R22^OUL_R22^?|K0001^?|T^?|2.5^?|?|?|?|?|?|~ISO IR87|?|?|?"
    ∷ "ZZZ|\u{1b}$BF|\u{1b}(B"
    ∷ "PID|?|?^?~?|P7^?|?|Hara^Jun^^^^^L^I|?|19700228^?|M^?|?"
    ∷ "PV1|?|O^?|?"
    ∷ "NTE|1||\\Q\\"
    ∷ "SPM|?|?|?|023^?^JC10^?|?|?|?|?|?|?|?|?|?|?|?|?|20240401081500^?|?"
    ∷ "OBR|?|000000000000042^?|?|E000^?^99003^?|?"
    ∷ "ORC|RE^?|000000000000042^?|?"
    ∷ "OBX|?|NM^?|3B0350000023272^GOT^JC10^?|?|31|U/L^?|?|N^?|?|?|F^?|?"
    ∷ "ZZZ|OBX"
    ∷ "OBX|?|NM^?|3B0450000023272^GPT^JC10^?|?||U/L^?|?|^?|?|?|X^?|?"
    ∷ "ZZ9"
    ∷ []))

-- 日本 (46 7C, 4B 5C), a subcomponent separator, a bad escape, and what would be a null
unfoldable pub unread_text : List ℕ
unread_text = bytes "\u{1b}$BF|K\\\u{1b}(B&\\Q\\\"\""

pub whole-answers : AsWhole whole_message
unfolding the_case parts_shown shown_from shown whole_parts
whole-answers = record { check = refl; sheet = refl; parts = refl }

pub newer-answers : AsWhole (newer_with unread_text)
unfolding the_case parts_shown shown_from shown whole_parts put newer_with unread_text
newer-answers = record { check = refl; sheet = refl; parts = refl }
