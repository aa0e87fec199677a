-- What rules 10 to 14 say of a message, and where its known segments and their parts stand in it: at the stretches that fetch tells.
-- Assumes nothing.
use mathlib.Core.Path.{◌≡◌, refl, sym, ap, ◌∙◌}
use mathlib.Core.Bool.{true, not}
use mathlib.Core.List.{List, [], ◌∷◌, ◌++◌, append_assoc}
use mathlib.Core.Option.{some}
use Prim.Native.Nat.{ℕ, zero, suc, ◌+◌, ◌-◌, ◌≤◌}
use native.Mathlib.Omega.{arith}
use borrow.Author.Tests.{eqb-true, ltb-false}
use lib.Dec.{eqb, ltb}
use lib.ListN.{length, get_elem?, length-append}
use Rattle.rules.specs.declared.Span.{Span}
use Rattle.rules.specs.declared.Counts.{Counts}
use Rattle.rules.specs.declared.Name.TheVariants.{Other}
use Rattle.rules.specs.Told.{gives}
use Rattle.rules.specs.Lists.{empty, split, last, ended}
use Rattle.rules.specs.Shift.{keeps, met}
use Rattle.rules.specs.Frame.{start, order_fault, header_ok, delims_of, segments, segments_ok, name_of, is, Known, known_from, known}
use Rattle.rules.specs.Proper.{Delim}
use Rattle.rules.specs.View.{View, view, piece_of, field_of, component_of, first_repetition}
use Rattle.rules.specs.Check.{unsaid, places_told, names_of, counts_told, view_told, frame_told, check_told}
use Rattle.rules.specs.Fetch.{stretch, start_of, bytes_at}
use Rattle.rules.proofs.Logic.{cases, not-given, both, not-false, guard, then-gives, nothing-some}
use Rattle.rules.proofs.Lists.{drop_own, take_own}
use Rattle.rules.proofs.Split.{frees, split-frees, but_last-frees, ended-append, ended-lines}
use Rattle.rules.proofs.Modes.{length-met}
use Rattle.rules.proofs.Header.{printable, Header}
use Rattle.rules.proofs.Clean.{keeps-parts, ended-keeps}
use Rattle.rules.proofs.Pieces.{Piece, piece, start_first}

-- ---- what rules 10 to 14 say of a message
pub record Passes (m : List ℕ) : Type 0 where
  pub short : length m ≤ 32768
  pub headed : header_ok m ≡ true
  pub kept : keeps 0x0D m ≡ true
  pub cut : segments_ok (delims_of m).field m ≡ true
  pub few : length (segments m) ≤ 512

pub passes : (m : List ℕ) → frame_told m ≡ gives tt → Passes m
unfolding frame_told
passes m h =
    let a = guard 10 0 0 (ltb 32768 (length m)) _ tt h in
    let b = guard 11 0 0 (not (header_ok m)) _ tt a.1 in
    let c = guard 12 0 0 (not (keeps 0x0D m)) _ tt b.1 in
    let e = guard 13 0 0 (not (segments_ok (delims_of m).field m)) _ tt c.1 in
    let f = guard 14 0 0 (ltb 512 (length (segments m))) _ tt e.1 in
    record {
      short = ltb-false 32768 (length m) a.0;
      headed = not-false (header_ok m) b.0;
      kept = not-false (keeps 0x0D m) c.0;
      cut = not-false (segments_ok (delims_of m).field m) e.0;
      few = ltb-false 512 (length (segments m)) f.0;
    }

-- as an accepted message does
pub accepted-passes : (m : List ℕ) (c : Counts) → check_told m ≡ gives c → Passes m
unfolding check_told
accepted-passes m c h = passes m (then-gives (frame_told m) (view_told (view m)) c h).0

-- 15, 20 to 27 and the counts of an accepted message
pub view-passes : (v : View) (c : Counts) → view_told v ≡ gives c
    → (order_fault start 1 (names_of v) ≡ 0) × (places_told v.delims unsaid 1 v.segs ≡ gives tt) × (counts_told (names_of v) ≡ gives c)
unfolding view_told
view-passes v c h =
    cases (eqb (order_fault start 1 (names_of v)) 0)
    (λ e.
    let b = then-gives (places_told v.delims unsaid 1 v.segs) (counts_told (names_of v)) c (rw e at h) in
    (eqb-true (order_fault start 1 (names_of v)) 0 e, b.0, b.1))
    (λ e. not-given (rw e at h))

-- a message with a header, that keeps the byte and shift rule and ends in 0D
pub record Framed (m : List ℕ) : Type 0 where
  pub headed : header_ok m ≡ true
  pub kept : keeps 0x0D m ≡ true
  pub ends : empty (last (split 0x0D m)) ≡ true

pub framed : (m : List ℕ) → frame_told m ≡ gives tt → Framed m
unfolding segments_ok
framed m h =
    let p = passes m h in
    record { headed = p.headed; kept = p.kept; ends = (both (empty (last (split 0x0D m))) _ p.cut).0 }

-- ---- a message and its segments, each ended
pub ended-segments : (m : List ℕ) → Framed m → ended 0x0D (segments m) ≡ m
unfolding segments
ended-segments m g = ended-lines 0x0D m g.ends

-- no segment has 0D in it
pub segments-free : (m : List ℕ) → frees 0x0D (segments m) ≡ true
unfolding segments
segments-free m = but_last-frees 0x0D (split 0x0D m) (split-frees 0x0D m)

-- ---- x stands in s, after so many bytes
pub record Lies (s x : List ℕ) (place : ℕ) : Type 0 where
  left : List ℕ
  right : List ℕ
  whole : s ≡ left ++ (x ++ right)
  start : place ≡ length left

-- and so does what stands in x
inside : {s x y : List ℕ} {i j : ℕ} → Lies s x i → Lies x y j → Lies s y (i + j)
inside {y = y} a b =
    record {
      left = a.left ++ b.left;
      right = b.right ++ a.right;
      whole = rw (a.whole, b.whole, append_assoc b.left (y ++ b.right) a.right, append_assoc y b.right a.right, append_assoc a.left b.left (y ++ (b.right ++ a.right)));
      start = let h = a.start in let k = b.start in omega (arith, length-append a.left b.left);
    }

-- ---- a known segment in its message: it starts and ends in one-byte mode
pub record Stands (m : List ℕ) (k : Known) : Type 0 where
  pub raw : List ℕ
  pub lies : Lies m raw k.start
  pub body : k.body ≡ met raw
  pub kept : keeps 0x0D raw ≡ true

-- one of the segments
record Among (place : ℕ) (ss : List (List ℕ)) (k : Known) : Type 0 where
  earlier : List (List ℕ)
  raw : List ℕ
  rest : List (List ℕ)
  whole : ss ≡ earlier ++ (raw ∷ rest)
  start : k.start ≡ place + length (ended 0x0D earlier)
  body : k.body ≡ met raw

further : (place : ℕ) (s : List ℕ) (ss : List (List ℕ)) (k : Known) → Among (place + suc (length s)) ss k → Among place (s ∷ ss) k
unfolding ended
further place s ss k a =
    record {
      earlier = s ∷ a.earlier;
      raw = a.raw;
      rest = a.rest;
      whole = ap (λ (t : List (List ℕ)). s ∷ t) a.whole;
      start = let e = a.start in omega (arith, length-append s (0x0D ∷ ended 0x0D a.earlier));
      body = a.body;
    }

among : (place : ℕ) (ss : List (List ℕ)) (i : ℕ) (k : Known) → get_elem? (known_from place ss) i ≡ some k → Among place ss k
unfolding known_from ended
among place [] i k e = nothing-some e
among place (s ∷ ss) i k e =
    cases (is (name_of s) Other)
    (λ t. further place s ss k (among (place + suc (length s)) ss i k (rw t at e)))
    (λ t. at-index i (rw t at e) (λ j h. among (place + suc (length s)) ss j k h))
  where
    at-index : (i : ℕ) → get_elem? ((record { name = name_of s; start = place; body = met s }) ∷ known_from (place + suc (length s)) ss) i ≡ some k
        → ((j : ℕ) → get_elem? (known_from (place + suc (length s)) ss) j ≡ some k → Among (place + suc (length s)) ss k) → Among place (s ∷ ss) k
    at-index zero e f =
        let q : k ≡ record { name = name_of s; start = place; body = met s } = cc in
        record {
          earlier = [];
          raw = s;
          rest = ss;
          whole = refl;
          start = let z : k.start ≡ place = ap (λ (x : Known). x.start) q in omega arith;
          body = ap (λ (x : Known). x.body) q;
        }
    at-index (suc i) e f = further place s ss k (f i e)

pub stands-known : (m : List ℕ) → Framed m → (i : ℕ) (k : Known) → get_elem? (known m) i ≡ some k → Stands m k
unfolding known
stands-known m g i k e =
    let a = among 0 (segments m) i k e in
    let w : m ≡ ended 0x0D a.earlier ++ (a.raw ++ (0x0D ∷ ended 0x0D a.rest)) =
    sym (ended-segments m g) ∙ ap (ended 0x0D) a.whole ∙ ended-append 0x0D a.earlier (a.raw ∷ a.rest) ∙ (unfold ended in refl) in
    let c = ended-keeps a.earlier (a.raw ++ (0x0D ∷ ended 0x0D a.rest)) (rw w at g.kept) in
    record {
      raw = a.raw;
      lies = record { left = ended 0x0D a.earlier; right = 0x0D ∷ ended 0x0D a.rest; whole = w; start = let z = a.start in omega arith };
      body = a.body;
      kept = (keeps-parts a.raw (ended 0x0D a.rest) c.1).0;
    }

-- ---- its fields and their components
-- a piece of a text with its place, cut at a delimiter
pub cut : (b n : ℕ) (s : List ℕ) → Delim b → keeps 0x0D s ≡ true → Piece b n s
cut b n s h k = let a = printable b h in piece b a.0 a.1 n s k

piece-lies : {b n : ℕ} {s : List ℕ} (p : Piece b n s) → Lies s p.own (start_of b n (met s))
piece-lies p = record { left = p.left; right = p.right; whole = p.whole; start = sym p.at }

-- a stretch lies in m, and what is met there is the part
pub record Shows (m part : List ℕ) (p : Span) : Type 0 where
  pub within : p.start + p.len ≤ length m
  pub bytes : met (bytes_at m p) ≡ part

shows : {m own : List ℕ} {i : ℕ} → Lies m own i → (part : List ℕ) → met own ≡ part → Shows m part (stretch i (length part))
unfolding bytes_at
shows {own = own} l part e =
    record {
      within =
          let s = l.start in
          omega (arith, ap length l.whole, length-append l.left (own ++ l.right), length-append own l.right, length-met own, ap length e);
      bytes = rw (l.start, ← e, length-met own, l.whole, drop_own l.left (own ++ l.right), take_own own l.right);
    }

-- the component c of the first repetition of the field f, at the stretch that fetch tells
pub component-shown : (m : List ℕ) → Header m → (k : Known) → Stands m k → (f c : ℕ)
    → let d = delims_of m in
    let r = first_repetition d (field_of d k f) in
    Shows m (component_of d r c)
    (stretch (k.start + start_of d.field (piece_of k.name f) k.body + start_of d.component (c - 1) r) (length (component_of d r c)))
unfolding field_of first_repetition component_of
component-shown m g k s f c =
    let d = delims_of m in
    let F = cut d.field (piece_of k.name f) s.raw g.proper.field s.kept in
    let R = cut d.repetition 0 F.own g.proper.repetition F.own-kept in
    let C = cut d.component (c - 1) R.own g.proper.component R.own-kept in
    let field : met F.own ≡ field_of d k f = cc (F.is, s.body) in
    let first : met R.own ≡ first_repetition d (field_of d k f) = cc (R.is, field) in
    let own : met C.own ≡ component_of d (first_repetition d (field_of d k f)) c = cc (C.is, first) in
    let l = inside (inside (inside s.lies (piece-lies F)) (piece-lies R)) (piece-lies C) in
    shows (rw (first, ← s.body, start_first d.repetition (met F.own), add-zero (k.start + start_of d.field (piece_of k.name f) k.body)) at l) _ own
  where
    add-zero : (n : ℕ) → n + 0 ≡ n
    add-zero n = omega arith
