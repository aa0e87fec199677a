-- What the tables read of a segment, as the walk finds it. Assumes nothing.
use Prim.Native.Nat.{ℕ, suc, ◌+◌, ◌-◌}
use native.Mathlib.Omega.{arith}
use mathlib.Core.Path.{◌≡◌, sym, ap, ◌∙◌}
use mathlib.Core.List.{List}
use Rattle.rules.specs.declared.Delims.{Delims}
use Rattle.rules.specs.Lists.{bytes, nth, split}
use Rattle.rules.specs.Shift.{met}
use Rattle.rules.specs.Proper.{Proper}
use Rattle.rules.specs.Places.{places}
use Rattle.rules.specs.View.{piece_of, field_of, component_of, first_repetition, seen_in, part_of, segment_of, seen_at, part_at}
use Rattle.rules.specs.Row.{line, lines}
use Rattle.rules.specs.Sheet.{key_of, lines_text}
use Rattle.plain_bytes.specs.Bytes.{until, is_byte}
use Rattle.scan.specs.Scan.{ends, onward, next}
use Rattle.scan.proofs.Laws.{onward-add, first_piece}
use Rattle.components.specs.Components.{forward}
use Rattle.components.proofs.Pieces.{piece-at, repetition-is, component-at}
use Rattle.sources.specs.Sources.{lines_of_body, field_from}

-- component n + 1 of the first repetition of a piece of a segment
abbrev pub raw_in : Delims → List ℕ → ℕ → ℕ → List ℕ
raw_in d body p c = component_of d (first_repetition d (nth (split d.field body) p)) c

raw-is : (d : Delims) → Proper d → (body : List ℕ) (p n : ℕ) → raw_in d body p (suc n) ≡ until (ends d) (forward d n (onward d.field p body))
unfolding component_of first_repetition
raw-is d q body p n =
    let z : suc n - 1 ≡ n = omega arith in
    rw (z, piece-at d.field p body, first_piece d.repetition (until (is_byte d.field) (onward d.field p body)), repetition-is d (onward d.field p body))
    (component-at d q n (onward d.field p body))

raw-first : (d : Delims) → Proper d → (body : List ℕ) (p : ℕ) → until (ends d) (onward d.field p body) ≡ raw_in d body p 1
unfolding forward
raw-first d q body p = sym (raw-is d q body p 0)

pub first-at : (d : Delims) → Proper d → (s t : List ℕ) (a : ℕ) → met t ≡ onward d.field a (met s) → until (ends d) (met t) ≡ raw_in d (met s) a 1
first-at d q s t a e = ap (until (ends d)) e ∙ raw-first d q (met s) a

pub name-at : (d : Delims) → Proper d → (s t : List ℕ) (a : ℕ) → met t ≡ onward d.field a (met s) → until (ends d) (next d (met t)) ≡ raw_in d (met s) a 2
unfolding forward
name-at d q s t a e = ap (λ m. until (ends d) (next d m)) e ∙ sym (raw-is d q (met s) a 1)

pub first-is : (d : Delims) → Proper d → (s t a : List ℕ) (p : ℕ) → met t ≡ onward d.field p (met s) → met a ≡ until (ends d) (met t) → met a ≡ raw_in d (met s) p 1
first-is d q s t a p e f = f ∙ first-at d q s t p e

-- to name it is to compute the lines of a segment from the tables
unfoldable pub tables : Unit {0}
unfolding lines_of_body bytes lines_text lines line key_of segment_of places part_of seen_in part_at seen_at field_of piece_of
tables = tt

-- a component of a later field, from another on
pub on : (d : Delims) (s t u : List ℕ) (a b : ℕ) → met t ≡ onward d.field a (met s) → met u ≡ onward d.field b (met t) → met u ≡ onward d.field (a + b) (met s)
on d s t u a b e f = f ∙ ap (onward d.field b) e ∙ onward-add d.field a b (met s)

-- a field from another on, as the table reads it
pub field_at : (d : Delims) → Proper d → (s t : List ℕ) (a b : ℕ) → met t ≡ onward d.field a (met s) → until (ends d) (onward d.field b (met t)) ≡ raw_in d (met s) (a + b) 1
field_at d q s t a b e = ap (λ m. until (ends d) (onward d.field b m)) e ∙ ap (until (ends d)) (onward-add d.field a b (met s)) ∙ raw-first d q (met s) (a + b)

-- a field in three steps, as the table reads it
pub field-on : (d : Delims) → Proper d → (body : List ℕ) (a b c : ℕ) → until (ends d) (onward d.field c (onward d.field b (onward d.field a body))) ≡ raw_in d body (a + b + c) 1
field-on d q body a b c =
    ap (λ m. until (ends d) (onward d.field c m)) (onward-add d.field a b body) ∙ ap (until (ends d)) (onward-add d.field (a + b) c body) ∙ raw-first d q body (a + b + c)

-- the first component of a later field
pub later : (d : Delims) (t u a : List ℕ) (n : ℕ) → met u ≡ onward d.field n (met t) → met a ≡ until (ends d) (met u) → met a ≡ field_from d n (met t)
later d t u a n e f = f ∙ ap (until (ends d)) e
