-- "On a refusal a program prints three lines: `refused=` with the number, `segment=` (or `line=`), `field=`." And the three lines of the counts.
use Rattle.std.specs.Prelude.{List, [], ◌∷◌, ◌++◌, ℕ}
use Rattle.rules.specs.declared.Counts.{Counts}
use Rattle.rules.specs.declared.Refusal.{Refusal}
use Rattle.rules.specs.Told.{number}
use Rattle.rules.specs.Lists.{bytes, decimal}
use Rattle.csv_rules.specs.declared.FileFault.{FileFault}
use Rattle.csv_rules.specs.Answers.{fault_number}

-- a key, a number and 0A
unfoldable pub line_text : List ℕ → ℕ → List ℕ
line_text key n = key ++ decimal n ++ (0x0A ∷ [])

unfoldable pub three_text : List ℕ → ℕ → ℕ → ℕ → List ℕ
three_text place n s f = line_text (bytes "refused=") n ++ line_text place s ++ line_text (bytes "field=") f

unfoldable pub refusal_text : List ℕ → Refusal → List ℕ
refusal_text place r = three_text place (number r.kind) r.segment r.field

-- 50 to 54 name no line
unfoldable pub fault_text : FileFault → List ℕ
fault_text f = three_text (bytes "line=") (fault_number f) 0 0

-- "The check gives the counts of SPM, OBR and OBX."
unfoldable pub counts_text : Counts → List ℕ
counts_text c = line_text (bytes "spm=") c.spm ++ line_text (bytes "obr=") c.obr ++ line_text (bytes "obx=") c.obx
