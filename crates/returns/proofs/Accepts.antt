-- The message that is written of a sheet's rows is accepted. Assumes nothing.
use mathlib.Core.Path.{◌≡◌, refl, sym}
use mathlib.Core.Bool.{true, ◌&&◌, ◌||◌}
use mathlib.Core.List.{List, [], ◌∷◌, map}
use Prim.Native.Nat.{ℕ, ◌≤◌}
use native.Mathlib.Omega.{arith}
use borrow.Author.Tests.{ltb-false, le-ltb, le-leb, lt-ltb}
use lib.Dec.{ltb, leb}
use lib.ListN.{length, length-map}
use Rattle.rules.specs.declared.Delims.{Delims}
use Rattle.rules.specs.declared.Name.TheVariants.{Spm, Obr, Obx}
use Rattle.rules.specs.Told.{gives, accepted}
use Rattle.rules.specs.Lists.{empty, all, split, last}
use Rattle.rules.specs.Shift.{keeps}
use Rattle.rules.specs.Frame.{delims_ok, segments, segments_ok, name_ok, start}
use Rattle.rules.specs.Check.{Context, unsaid, frame_told, check_told}
use Rattle.rules.specs.Row.{Row}
use Rattle.rules.specs.Sheet.{valid}
use Rattle.rules.specs.Message.{Piece, zeros, pieces, segment_text, written, message_of, message_told}
use Rattle.rules.proofs.Logic.{neither, guard}
use Rattle.rules.proofs.Lists.{all_cons}
use Rattle.rules.proofs.Header.{proper}
use Rattle.returns.proofs.Segments.{Said, none, more}
use Rattle.returns.proofs.Messages.{Tidy, name-ok, segments-are, all-ended, message-keeps, counted, front, delims-are, header_is, all_said, view-accepted}
use Rattle.returns.proofs.Sizes.{Short, short}

-- what is told where a message is given
pub record Wrote (d : Delims) (rows : List Row) (m : List ℕ) : Type 0 where
  pub is : m ≡ message_of d rows
  pub bytes_fit : length (message_of d rows) ≤ 32768
  pub segments-fit : length (written d rows) ≤ 512

pub wrote : (d : Delims) (rows : List Row) (room : ℕ) (m : List ℕ) → message_told d rows room ≡ gives m → Wrote d rows m
unfolding message_told
wrote d rows room m h =
    let g = guard 44 0 0 (ltb 32768 (length (message_of d rows)) || ltb 512 (length (written d rows))) _ m h in
    let o = neither (ltb 32768 (length (message_of d rows))) (ltb 512 (length (written d rows))) g.0 in
    let k = guard 45 0 0 (ltb room (length (message_of d rows))) _ m g.1 in
    let e : message_of d rows ≡ m = cc k.1 in
    record {
      is = sym e;
      bytes_fit = ltb-false 32768 (length (message_of d rows)) o.0;
      segments-fit = ltb-false 512 (length (written d rows)) o.1;
    }

-- ---- 13: every segment is short and has a good name
all-fine : (d : Delims) {c : Context} {qs : List Piece} {rows : List Row} → Said d c qs rows → Short d qs
    → all (λ (s : List ℕ). leb (length s) 4096 && name_ok d.field s) (map (segment_text d) qs) ≡ true
all-fine d none h = unfold all in refl
all-fine d (more {q} {qs} x y) h =
    rw (all_cons (λ (s : List ℕ). leb (length s) 4096 && name_ok d.field s) (segment_text d q) (map (segment_text d) qs), le-leb (length (segment_text d q)) 4096 (omega (arith, h.0)), name-ok d q.name q.fields x.known)
    (all-fine d y h.1)

all_short : (d : Delims) (qs : List Piece) → Short d qs → all (λ (s : List ℕ). ltb (length s) 850) (map (segment_text d) qs) ≡ true
all_short d [] h = unfold all in refl
all_short d (q ∷ qs) h =
    rw (all_cons (λ (s : List ℕ). ltb (length s) 850) (segment_text d q) (map (segment_text d) qs), lt-ltb (length (segment_text d q)) 850 h.0) (all_short d qs h.1)

module _ (d : Delims) (ok : delims_ok d ≡ true) (rows : List Row) (v : valid start rows ≡ true) (t : Tidy rows)
    (bytes_fit : length (message_of d rows) ≤ 32768) (segments-fit : length (written d rows) ≤ 512) where
  few : length (pieces d zeros rows) ≤ 512
  few =
      let e : length (written d rows) ≡ length (pieces d zeros rows) = unfold written in length-map (pieces d zeros rows) (segment_text d) in
      omega arith

  shorts : Short d (pieces d zeros rows)
  shorts = short d (proper d ok) start 0 zeros rows v (omega arith, omega arith) (omega (arith, few))

  segments-is : segments (message_of d rows) ≡ written d rows
  unfolding message_of written
  segments-is = segments-are d (proper d ok) unsaid (pieces d zeros rows) rows (all_said d ok rows v t)

  pub segments-short : all (λ (s : List ℕ). ltb (length s) 850) (segments (message_of d rows)) ≡ true
  unfolding written
  segments-short = rw segments-is (all_short d (pieces d zeros rows) shorts)

  -- ---- 10 to 14
  frame-passes : frame_told (message_of d rows) ≡ gives tt
  unfolding frame_told segments_ok
  frame-passes =
      let S = all_said d ok rows v t in
      let p = proper d ok in
      let qs = pieces d zeros rows in
      let f = front d rows v in
      let k12 : keeps 0x0D (message_of d rows) ≡ true = unfold message_of written in message-keeps d p unsaid qs rows S in
      let l13 : empty (last (split 0x0D (message_of d rows))) ≡ true = unfold message_of written in all-ended d p unsaid qs rows S in
      let a13 : all (λ (s : List ℕ). leb (length s) 4096 && name_ok d.field s) (written d rows) ≡ true = unfold written in all-fine d S shorts in
      rw (
        le-ltb 32768 (length (message_of d rows)) bytes_fit,
        header_is d (message_of d rows) f ok,
        k12,
        delims-are d (message_of d rows) f,
        l13,
        segments-is,
        a13,
        le-ltb 512 (length (written d rows)) segments-fit,
      )

  -- THE WRITTEN MESSAGE IS ACCEPTED, with the counts of its rows
  pub message-accepted : check_told (message_of d rows) ≡ accepted (counted Spm rows) (counted Obr rows) (counted Obx rows)
  unfolding check_told
  message-accepted = rw (frame-passes, view-accepted d ok rows v t)
