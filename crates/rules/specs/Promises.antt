-- THE PROMISES: one for each call on messages and sheets, by name. Each says the whole answer for any bytes and, of a lent buffer, every byte
-- that it then holds. The calls of `oul` promise these words, and the demands are proved from them.
use Rattle.std.specs.Prelude.{◌≡◌, List, ℕ, ◌+◌, ◌≤◌, length, Option, Some, Result, Ok}
use Rattle.rules.specs.declared.Span.{Span}
use Rattle.rules.specs.declared.KnownSegment.{KnownSegment}
use Rattle.rules.specs.declared.Counts.{Counts}
use Rattle.rules.specs.declared.Refusal.{Refusal}
use Rattle.rules.specs.Told.{told, Call}
use Rattle.rules.specs.Frame.{known}
use Rattle.rules.specs.Check.{check_told}
use Rattle.rules.specs.Fetch.{ordinal, fetch_told, bytes_at, span_told, span_in, found_told, text_told}
use Rattle.rules.specs.Sheet.{to_sheet}
use Rattle.rules.specs.Message.{to_message}

-- check
abbrev pub Checked : List ℕ → Result Counts Refusal → Type 0
Checked m r = told r ≡ check_told m

-- locate: a stretch that it names lies in the message
pub record Located (m : List ℕ) (o f c : ℕ) (r : Result Span Refusal) : Type 0 where
  pub told : told r ≡ fetch_told m o f c
  pub within : (p : Span) → r ≡ Ok p → p.start + p.len ≤ length m

-- a part of m that is given back, x, is the very stretch p: its bytes, and where it lies, at `x-lies` where m lies at `m-lies`
pub record Stretch (m : List ℕ) (m-lies : ℕ × ℕ) (p : Span) (x : List ℕ) (x-lies : ℕ × ℕ) : Type 0 where
  pub bytes : x ≡ bytes_at m p
  pub place : x-lies ≡ (m-lies.0, p.start + m-lies.1)

-- fetch; bytes_of
abbrev pub PartGiven : List ℕ → ℕ × ℕ → ℕ → ℕ → ℕ → List ℕ → ℕ × ℕ → Type 0
PartGiven m m-lies o f c x x-lies = Stretch m m-lies (span_told (fetch_told m o f c)) x x-lies

abbrev pub StretchGiven : List ℕ → ℕ × ℕ → Result Span Refusal → List ℕ → ℕ × ℕ → Type 0
StretchGiven m m-lies answer x x-lies = Stretch m m-lies (span_in (length m) answer) x x-lies

-- known_segment: its name, where it starts and its bytes, or none; it lies in the message
pub record SegmentFound (m : List ℕ) (o : ℕ) (r : Option KnownSegment) : Type 0 where
  pub told : found_told m r ≡ ordinal (known m) o
  pub within : (s : KnownSegment) → r ≡ Some s → s.start + s.len ≤ length m

-- part_text, to_sheet, to_message: what they answer, and what they leave of a buffer that held `before`
abbrev pub TextWritten : List ℕ → ℕ → ℕ → ℕ → List ℕ → Result ℕ Refusal → List ℕ → Type 0
TextWritten m o f c before r after = Call (text_told m o f c (length before)) before r after

abbrev pub SheetWritten : List ℕ → List ℕ → Result ℕ Refusal → List ℕ → Type 0
SheetWritten m before r after = Call (to_sheet m (length before)) before r after

abbrev pub MessageWritten : List ℕ → List ℕ → Result ℕ Refusal → List ℕ → Type 0
MessageWritten s before r after = Call (to_message s (length before)) before r after
