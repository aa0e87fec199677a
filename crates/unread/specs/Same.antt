-- What it is for two messages to get the same answers, and for the calls to return the same of both.
use Rattle.std.specs.Prelude.{◌≡◌, Bool, true, not, List, ℕ, Option, Some, None, Result}
use Rattle.rules.specs.declared.KnownSegment.{KnownSegment}
use Rattle.rules.specs.declared.Refusal.{Refusal}
use Rattle.rules.specs.declared.Span.{Span}
use Rattle.rules.specs.declared.Counts.{Counts}
use Rattle.rules.specs.declared.Name.{Name}
use Rattle.rules.specs.Told.{Told, gives, refused, told, ◌>>=◌}
use Rattle.rules.specs.Frame.{known}
use Rattle.rules.specs.Places.{unread_component}
use Rattle.rules.specs.Check.{frame_told, check_told}
use Rattle.rules.specs.Fetch.{ordinal, fetch_told, part_told, text_told}
use Rattle.rules.specs.Sheet.{to_sheet}
use Rattle.rules.specs.Promises.{Checked, Located, PartGiven, StretchGiven, SegmentFound, TextWritten, SheetWritten}

-- a message that keeps rules 10 to 14: "the size, header, byte and segment rules"
abbrev pub Keeps : List ℕ → Type 0
Keeps m = frame_told m ≡ gives tt

-- whether a fetch is refused, and how
abbrev pub refusal_of : {A : Type 0} → Told A → Told (Unit {0})
refusal_of t = t >>= λ p. gives tt

-- the name of the o-th known segment; the name that known_segment finds
abbrev pub name_told : List ℕ → ℕ → Told Name
name_told m o = ordinal (known m) o >>= λ k. gives k.name

abbrev pub name_found : Option KnownSegment → Told Name
name_found (Some s) = gives s.name
name_found None = refused 30 0 0

-- a part that is read: the table, or the list of closed fields, has this place of the o-th known segment. Where there is no such segment,
-- every part is refused alike.
unfoldable pub part_read : List ℕ → ℕ → ℕ → ℕ → Bool
part_read m o f c = elim (ordinal (known m) o) [ gives k ↦ not (unread_component k.name f c) | refused n s g ↦ true ]

-- ---- the same answers
pub record SameAnswers (m n : List ℕ) : Type 0 where
  pub check : check_told m ≡ check_told n
  pub sheet : (room : ℕ) → to_sheet m room ≡ to_sheet n room
  -- "the same bytes for every part read", and the same text
  pub part : (o f c : ℕ) → part_read m o f c ≡ true → part_told m o f c ≡ part_told n o f c
  pub text : (o f c room : ℕ) → part_read m o f c ≡ true → text_told m o f c room ≡ text_told n o f c room
  -- for a part that isn't read the bytes may differ, a refusal to fetch it not
  pub refusal : (o f c : ℕ) → refusal_of (fetch_told m o f c) ≡ refusal_of (fetch_told n o f c)
  pub segment : (o : ℕ) → name_told m o ≡ name_told n o

-- ---- the same returned: of any two results that keep the promise of one call, one for m and one for n. Where the messages lie, and so where
-- their parts do, is free.
pub record SameReturns (m n : List ℕ) : Type 0 where
  pub check : (a b : Result Counts Refusal) → Checked m a → Checked n b → a ≡ b
  -- to_sheet: its answer, and what it leaves of a buffer that held the same before
  pub sheet : (old x y : List ℕ) (a b : Result ℕ Refusal) → SheetWritten m old a x → SheetWritten n old b y → (a ≡ b) × (x ≡ y)
  -- fetch; bytes_of, given what locate answers; part_text: of a part that is read
  pub part : (m-lies n-lies x-lies y-lies : ℕ × ℕ) (o f c : ℕ) (x y : List ℕ) → part_read m o f c ≡ true
      → PartGiven m m-lies o f c x x-lies → PartGiven n n-lies o f c y y-lies → x ≡ y
  pub stretch : (m-lies n-lies x-lies y-lies : ℕ × ℕ) (o f c : ℕ) (a b : Result Span Refusal) (x y : List ℕ) → part_read m o f c ≡ true
      → Located m o f c a → Located n o f c b → StretchGiven m m-lies a x x-lies → StretchGiven n n-lies b y y-lies → x ≡ y
  pub text : (o f c : ℕ) (old x y : List ℕ) (a b : Result ℕ Refusal) → part_read m o f c ≡ true
      → TextWritten m o f c old a x → TextWritten n o f c old b y → (a ≡ b) × (x ≡ y)
  -- locate: of any part, whether it is refused and how
  pub located : (o f c : ℕ) (a b : Result Span Refusal) → Located m o f c a → Located n o f c b → refusal_of (told a) ≡ refusal_of (told b)
  -- known_segment: the name, or that there is none
  pub segment : (o : ℕ) (a b : Option KnownSegment) → SegmentFound m o a → SegmentFound n o b → name_found a ≡ name_found b
