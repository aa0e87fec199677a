-- An answer as numbers: 0 or the refusal's number, and three numbers beside it. THE PROMISES of the calls for C are `Tells`, `TellsWritten` and
-- `TellsNext`.
use Rattle.std.specs.Prelude.{◌≡◌, List, [], ◌∷◌, ℕ, length, set}
use Rattle.rules.specs.declared.Counts.{Counts}
use Rattle.rules.specs.declared.Span.{Span}
use Rattle.rules.specs.Told.{Told, gives, refused, over, length_of}
use Rattle.rules.specs.Frame.{Known}
use Rattle.csv_rules.specs.declared.CsvSheets.{CsvSheets}
use Rattle.spot.specs.declared.Spot.{Spot}

-- 0 where what was asked for is given, else the number of the refusal
abbrev pub answer_number : {A : Type 0} → Told A → ℕ
answer_number (gives a) = 0
answer_number (refused n s f) = n

-- the three numbers of what is given; or the refusal's segment (or line), its field and 0
abbrev pub beside_of : {A : Type 0} → (A → List ℕ) → Told A → List ℕ
beside_of three (gives a) = three a
beside_of three (refused n s f) = s ∷ f ∷ 0 ∷ []

-- ---- what is given, as three numbers
-- the counts of SPM, OBR and OBX
abbrev pub count_numbers : Counts → List ℕ
count_numbers c = c.spm ∷ c.obr ∷ c.obx ∷ []

-- where a part starts, and how long it is
abbrev pub span_numbers : Span → List ℕ
span_numbers p = p.start ∷ p.len ∷ 0 ∷ []

-- where a known segment starts, and how long it is without its 0D
abbrev pub segment_numbers : Known → List ℕ
segment_numbers k = k.start ∷ length k.body ∷ 0 ∷ []

-- a line and a byte
abbrev pub spot_numbers : Spot → List ℕ
spot_numbers p = p.line ∷ p.byte ∷ 0 ∷ []

-- how many sheets a file holds, and where its first row stands
abbrev pub sheet_numbers : CsvSheets → List ℕ
sheet_numbers c = c.count ∷ c.first ∷ 0 ∷ []

-- one number: how many bytes were written; a line
abbrev pub one_number : ℕ → List ℕ
one_number n = n ∷ 0 ∷ 0 ∷ []

-- ---- the promises
-- a call that tells t: what it answers, n, and the three numbers beside it, x
pub record Tells {A : Type 0} (three : A → List ℕ) (t : Told A) (n : ℕ) (x : List ℕ) : Type 0 where
  pub answers : n ≡ answer_number t
  pub fills : x ≡ beside_of three t

-- a call that writes t into a lent buffer that held `before`, and leaves `after` there
pub record TellsWritten (t : Told (List ℕ)) (before : List ℕ) (n : ℕ) (x after : List ℕ) : Type 0 where
  pub tells : Tells one_number (length_of t) n x
  pub buffer : after ≡ over t before

-- the same, where the third number is a place, for refusals as well
pub record TellsNext (t : Told (List ℕ)) (place : ℕ) (before : List ℕ) (n : ℕ) (x after : List ℕ) : Type 0 where
  pub answers : n ≡ answer_number (length_of t)
  pub fills : x ≡ set (beside_of one_number (length_of t)) 2 place
  pub buffer : after ≡ over t before
