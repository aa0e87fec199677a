-- DEMAND 1. "Every call takes arbitrary bytes, ends, and either succeeds or gives one refusal, the first by the written order. A refusal leaves
-- each lent buffer exactly as lent."
-- The promises of rules/specs/Promises are about any bytes, and ask nothing; that each call ends is part of its proof. Each gives a `Told`,
-- which is what is asked for or one refusal, and names it by the definition that has the written order. What is left to say stands here.
use Rattle.std.specs.Prelude.{◌≡◌, List, ◌++◌, ℕ, length, drop, Option, Result, Ok, Err}
use Rattle.rules.specs.declared.KnownSegment.{KnownSegment}
use Rattle.rules.specs.declared.Counts.{Counts}
use Rattle.rules.specs.declared.Refusal.{Refusal}
use Rattle.rules.specs.declared.Span.{Span}
use Rattle.rules.specs.Told.{Told, gives, refused, number, Call}
use Rattle.rules.specs.Promises.{Checked, Located, Stretch, SegmentFound}

-- ---- "either succeeds": the text is what the definition gives, over the front of the buffer; "bytes past the message (or a sheet) stay"
pub record Succeeded (t : Told (List ℕ)) (before : List ℕ) (n : ℕ) (after : List ℕ) : Type 0 where
  pub text : List ℕ
  pub given : t ≡ gives text
  pub long : n ≡ length text
  pub buffer : after ≡ text ++ drop n before

-- "or gives one refusal .. A refusal leaves each lent buffer exactly as lent."
pub record Left (t : Told (List ℕ)) (before : List ℕ) (r : Refusal) (after : List ℕ) : Type 0 where
  pub given : t ≡ refused (number r.kind) r.segment r.field
  pub buffer : after ≡ before

pub record Demand1 : Type 0 where
  -- of part_text, to_sheet and to_message, whose promises are each a `Call`
  pub succeeds : (t : Told (List ℕ)) (before : List ℕ) (n : ℕ) (after : List ℕ) → Call t before (Ok n) after → Succeeded t before n after
  pub leaves : (t : Told (List ℕ)) (before : List ℕ) (r : Refusal) (after : List ℕ) → Call t before (Err r) after → Left t before r after
  -- "one": two answers that keep a promise are the same answer, with the same bytes in the buffer
  pub one-call : (t : Told (List ℕ)) (before : List ℕ) (r s : Result ℕ Refusal) (after behind : List ℕ)
      → Call t before r after → Call t before s behind → (r ≡ s) × (after ≡ behind)
  pub one-check : (m : List ℕ) (a b : Result Counts Refusal) → Checked m a → Checked m b → a ≡ b
  pub one_place : (m : List ℕ) (o f c : ℕ) (a b : Result Span Refusal) → Located m o f c a → Located m o f c b → a ≡ b
  pub one-stretch : (m : List ℕ) (m-lies : ℕ × ℕ) (p : Span) (x y : List ℕ) (x-lies y-lies : ℕ × ℕ)
      → Stretch m m-lies p x x-lies → Stretch m m-lies p y y-lies → (x ≡ y) × (x-lies ≡ y-lies)
  pub one-segment : (m : List ℕ) (o : ℕ) (a b : Option KnownSegment) → SegmentFound m o a → SegmentFound m o b → a ≡ b
