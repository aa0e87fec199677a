-- DEMAND 3. "Newer senders can't shift our columns: content in places that the profile doesn't read never changes an answer."
-- The claim; proofs/Demand3.antt proves it, and nothing is assumed but what stands here.
use Rattle.std.specs.Prelude.{List, ℕ}
use Rattle.unread.specs.Differs.{Differs}
use Rattle.unread.specs.Same.{Keeps, SameAnswers, SameReturns}
use Rattle.unread.specs.Edits.{Edits}

pub record Demand3 : Type 0 where
  -- Two messages that keep rules 10 to 14 and differ in unread places alone get the same answers, a refusal by the other rules included.
  pub unseen : (m n : List ℕ) → Keeps m → Keeps n → Differs m n → SameAnswers m n
  -- And the calls return the same, by their promises alone.
  pub calls : (m n : List ℕ) → SameAnswers m n → SameReturns m n
  -- What document 01 lets alter is a case of it, in any number and order, and whatever rules the messages in between keep: "an altered unread
  -- component holds no field, component or repetition separator in one-byte mode, an unread field no field separator; every other read
  -- component and each closed field stays as it was, and no repetition is added to or taken from a read field. A segment of another name that
  -- is altered, whether by bytes put in or taken out, keeps its 0D and has a name outside the known ones in both messages. Each stretch put in
  -- holds no 0D, save an added segment's last byte, and keeps the byte and shift rule by itself, from one-byte mode back to one-byte mode."
  -- That such edits lead from any message to every one that differs so is not claimed.
  pub edits : (m n : List ℕ) → Edits m n → Differs m n
  -- To differ so is a relation of equals: neither message is the newer, and differences add up.
  pub same : (m : List ℕ) → Differs m m
  pub back : (m n : List ℕ) → Differs m n → Differs n m
  pub on : (m n o : List ℕ) → Differs m n → Differs n o → Differs m o
