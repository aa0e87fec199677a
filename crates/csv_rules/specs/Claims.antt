-- What is claimed of a commercial centre's file; proofs/ proves each claim, and nothing is assumed but what stands here.
use Rattle.std.specs.Prelude.{◌≡◌, Bool, true, false, cond, ◌&&◌, ◌||◌, List, [], ◌∷◌, ◌++◌, map, ℕ, zero, suc, eqb, Result, Ok}
use Prim.Native.String.{String}
use Rattle.rules.specs.declared.Name.{Name}
use Rattle.rules.specs.declared.Name.TheVariants.{Pid, Pv1, Spm, Obr, Obx}
use Rattle.rules.specs.Told.{gives, refused}
use Rattle.rules.specs.Lists.{bytes, same, all, count, has}
use Rattle.rules.specs.Row.{Line, lines}
use Rattle.rules.specs.Shift.{within, keeps}
use Rattle.rules.specs.Message.{to_message}
use Rattle.returns.specs.Demand2.{Only44Or45, Returned}
use Rattle.csv_rules.specs.declared.FileFault.{FileFault}
use Rattle.csv_rules.specs.declared.CsvSheets.{CsvSheets}
use Rattle.csv_rules.specs.declared.NotMade.{NotMade}
use Rattle.csv_rules.specs.declared.Next.{Next}
use Rattle.csv_rules.specs.Promises.{SheetsCounted, CsvSheetWritten, NextSheetWritten}
use Rattle.csv_rules.specs.Quote.{Items, Lines, cut, is_broken, lines_in}
use Rattle.csv_rules.specs.Quote as Csv
use Rattle.csv_rules.specs.Written.{Spells}
use Rattle.csv_rules.specs.Kanji.{first, second, is_pair, convertible, converted}
use Rattle.csv_rules.specs.Columns.{Entry, columns, dropped}
use Rattle.csv_rules.specs.Sheets.{Run, Given, csv_told, run_told, csv_sheet, first_row, csv_next, place_after}

-- ---- the words of the claims
unfoldable pub same_keys : List String → List String → Bool
same_keys [] [] = true
same_keys [] (k ∷ ks) = false
same_keys (j ∷ js) [] = false
same_keys (j ∷ js) (k ∷ ks) = same (bytes j) (bytes k) && same_keys js ks

unfoldable pub one_to : ℕ → List ℕ
one_to zero = []
one_to (suc n) = one_to n ++ (suc n ∷ [])

-- the columns that feed a line, each once, in the table's order
unfoldable pub each_once : List ℕ → List ℕ
each_once [] = []
each_once (n ∷ ns) = cond (has n ns || eqb n 0) (each_once ns) (n ∷ each_once ns)

unfoldable pub uses : List ℕ
uses = each_once (map (λ (e : Entry). e.column) (columns Pid ++ (columns Pv1 ++ (columns Spm ++ (columns Obr ++ columns Obx)))))

-- ---- 50 refuses exactly the files that no lines spell, and the items read are those spelled
abbrev pub items_in : Lines → List Items
items_in c = map (λ (l : Csv.FileLine). l.items) (lines_in c)

abbrev pub SpelledIsRead : Type 0
SpelledIsRead = (ls : List Items) (s : List ℕ) → Spells ls s → (is_broken (cut s) ≡ false) × (items_in (cut s) ≡ ls)

abbrev pub ReadIsSpelled : Type 0
ReadIsSpelled = (s : List ℕ) → is_broken (cut s) ≡ false → Spells (items_in (cut s)) s

-- ---- THE TABLE feeds each line of a sheet once, in the sheet's order; and each of the 45 columns feeds a line, is the number or is dropped
abbrev pub EveryKey : Type 0
EveryKey = all (λ (g : Name). same_keys (map (λ (e : Entry). e.key) (columns g)) (map (λ (l : Line). l.key) (lines g))) (Pid ∷ Pv1 ∷ Spm ∷ Obr ∷ Obx ∷ []) ≡ true

abbrev pub EveryColumn : Type 0
EveryColumn = all (λ (n : ℕ). eqb (count (eqb n) (uses ++ (7 ∷ map (λ c. c.0) dropped))) 1) (one_to 45) ≡ true

-- ---- "The rule is shown once for all pairs, including that no two pairs share an image."
-- a pair's image is two bytes each 21–7E
abbrev pub EveryPair : Type 0
EveryPair = (l t : ℕ) → is_pair l t ≡ true → (within 0x21 0x7E (first l t) ≡ true) × (within 0x21 0x7E (second t) ≡ true)

abbrev pub NoTwoPairs : Type 0
NoTwoPairs = (l t k u : ℕ) → is_pair l t ≡ true → is_pair k u ≡ true → first l t ≡ first k u → second t ≡ second u → (l ≡ k) × (t ≡ u)

-- and every pair of 21–7E is an image: the 47 times 188 pairs are the 94 times 94, each met once
pub record From (f s : ℕ) : Type 0 where
  pub lead : ℕ
  pub trail : ℕ
  pub pair : is_pair lead trail ≡ true
  pub is-first : first lead trail ≡ f
  pub is-second : second trail ≡ s

abbrev pub EveryImage : Type 0
EveryImage = (f s : ℕ) → within 0x21 0x7E f ≡ true → within 0x21 0x7E s ≡ true → From f s

-- ---- a converted text keeps the byte and shift rule by itself, and no two texts have one image: so texts may be compared as they stand
abbrev pub TextKeeps : Type 0
TextKeeps = (end : ℕ) (s : List ℕ) → convertible s ≡ true → keeps end (converted s) ≡ true

abbrev pub NoTwoTexts : Type 0
NoTwoTexts = (a b : List ℕ) → convertible a ≡ true → convertible b ≡ true → converted a ≡ converted b → a ≡ b

-- ---- a sheet that comes out of a file is written, unless 44 or 45 is given, and its message, read, gives that sheet
pub record GoesOn (s : List ℕ) : Type 0 where
  pub written : (room : ℕ) → Only44Or45 (to_message s room)
  pub returned : (m : List ℕ) (room : ℕ) → to_message s room ≡ gives m → Returned s m

abbrev pub SheetGoesOn : Type 0
SheetGoesOn = (file : List ℕ) (which : ℕ) (g : Given) (room : ℕ) (s : List ℕ) → csv_sheet file which g room ≡ gives s → GoesOn s

abbrev pub NextGoesOn : Type 0
NextGoesOn = (file : List ℕ) (at : ℕ) (g : Given) (room : ℕ) (s : List ℕ) → csv_next file at g room ≡ gives s → GoesOn s

-- ---- the answers are told apart: two that keep one promise are the same, with the same bytes in the buffer
abbrev pub CountedOnce : Type 0
CountedOnce = (file : List ℕ) (a b : Result CsvSheets FileFault) → SheetsCounted file a → SheetsCounted file b → a ≡ b

abbrev pub SheetOnce : Type 0
SheetOnce = (file : List ℕ) (which : ℕ) (g : Given) (before x y : List ℕ) (a b : Result ℕ NotMade)
    → CsvSheetWritten file which g before a x → CsvSheetWritten file which g before b y → (a ≡ b) × (x ≡ y)

abbrev pub NextOnce : Type 0
NextOnce = (file : List ℕ) (at : ℕ) (g : Given) (before x y : List ℕ) (a b : Next)
    → NextSheetWritten file at g before a x → NextSheetWritten file at g before b y → (a ≡ b) × (x ≡ y)

-- and one that gives no sheet leaves the buffer exactly as lent
abbrev pub SheetLeaves : Type 0
SheetLeaves = (file : List ℕ) (which : ℕ) (g : Given) (before after : List ℕ) (r : Result ℕ NotMade) → ((n : ℕ) → r ≡ Ok n → ⊥)
    → CsvSheetWritten file which g before r after → after ≡ before

abbrev pub NextLeaves : Type 0
NextLeaves = (file : List ℕ) (at : ℕ) (g : Given) (before after : List ℕ) (r : Next) → ((n : ℕ) → r.made ≡ Ok n → ⊥)
    → NextSheetWritten file at g before r after → after ≡ before

-- ---- sheet after sheet: from the first row on, the calls give the sheets of the file in order, whatever the caller gives for each, and then 30
unfoldable pub Follows : List ℕ → ℕ → List Run → Type 0
Follows file at [] = (g : Given) (room : ℕ) → csv_next file at g room ≡ refused 30 0 0
Follows file at (u ∷ us) = ((g : Given) (room : ℕ) → csv_next file at g room ≡ run_told g u room) × Follows file (place_after file at) us

abbrev pub SheetsInOrder : Type 0
SheetsInOrder = (file : List ℕ) (us : List Run) → csv_told file ≡ gives us → Follows file (first_row file) us

-- so the which-th sheet is what begins at the which-th place
unfoldable pub place_of : List ℕ → ℕ → ℕ → ℕ
place_of file at zero = at
place_of file at (suc n) = place_of file (place_after file at) n

abbrev pub SheetByPlace : Type 0
SheetByPlace = (file : List ℕ) (us : List Run) → csv_told file ≡ gives us
    → (n : ℕ) (g : Given) (room : ℕ) → csv_sheet file (suc n) g room ≡ csv_next file (place_of file (first_row file) n) g room
