-- Laws of fetch: one for each way through its code. Assumes nothing.
use mathlib.Core.Path.{◌≡◌, refl, sym, ap, ◌∙◌}
use mathlib.Core.Bool.{Bool, true}
use mathlib.Core.List.{List}
use Prim.Native.Nat.{ℕ, ◌+◌, ◌-◌, ◌≤◌}
use native.Mathlib.Omega.{arith}
use borrow.Author.Tests.{le-leb}
use lib.ListN.{length, take, drop, length-drop}
use lib.Seq.{length-take-le}
use Rattle.std.specs.declared.result.Result.{Result}
use Rattle.std.specs.declared.result.Result.TheVariants.{Ok, Err}
use Rattle.rules.specs.declared.Delims.{Delims}
use Rattle.rules.specs.declared.Counts.{Counts}
use Rattle.rules.specs.declared.Refusal.{Refusal}
use Rattle.rules.specs.declared.Span.{Span}
use Rattle.rules.specs.Told.{gives, told}
use Rattle.rules.specs.Lists.{nth, split}
use Rattle.rules.specs.Shift.{met}
use Rattle.rules.specs.Frame.{delims_of, header_ok}
use Rattle.rules.specs.Proper.{Proper}
use Rattle.rules.specs.Check.{check_told}
use Rattle.rules.specs.View.{component_of, first_repetition}
use Rattle.rules.specs.Fetch.{start_of, stretch, fetch_told, span_told, span_in}
use Rattle.rules.proofs.Header.{header}
use Rattle.rules.proofs.Pieces.{start_first}
use Rattle.rules.proofs.Where.{accepted-passes}
use Rattle.rules.specs.declared.KnownSegment.{KnownSegment}
use Rattle.pieces.specs.Pieces.{PieceOf, Nearest}
use Rattle.pieces.proofs.Laws.{nth-there}
use Rattle.rules.specs.Promises.{Located, PartGiven, StretchGiven}
use Rattle.fetch.specs.Place.{place_told, PlaceFound, part_in, stretch_of}

-- ---- one component of a field
pub in_is : (d : Delims) (f : List ℕ) (c number from n at len : ℕ) → Nearest d.repetition 0 f number from n
    → PieceOf d.component (c - 1) (take (from + n - from) (drop from f)) at len → stretch (from + at) len ≡ part_in d (met f) c
unfolding part_in first_repetition component_of
in_is d f c number from n at len e p =
    let q = nth-there d.repetition 0 f number from n e (omega arith) in
    let z : from ≡ 0 = q.start ∙ start_first d.repetition (met f) in
    let k : from + n - from ≡ n = omega arith in
    let r : met (take (from + n - from) (drop from f)) ≡ nth (split d.repetition (met f)) 0 = ap (λ i. met (take i (drop from f))) k ∙ q.own in
    let w : from + at ≡ at = omega arith in
    rw (w, ← r, p.start, p.long)

pub in_within : (f : List ℕ) (from n at len : ℕ) → from + n ≤ length f → at + len ≤ length (take (from + n - from) (drop from f)) → from + at + len ≤ length f
in_within f from n at len h k = omega (arith, length-take-le (from + n - from) (drop from f) (omega (arith, length-drop from f)))

-- ---- of a segment
module _ (m : List ℕ) (s : KnownSegment) (at len : ℕ) (inside : s.start + s.len ≤ length m) where
  abbrev body : List ℕ
  body = take (s.start + s.len - s.start) (drop s.start m)

  abbrev field : List ℕ
  field = take (at + len - at) (drop at body)

  body_is : body ≡ take s.len (drop s.start m)
  body_is = let e : s.start + s.len - s.start ≡ s.len = omega arith in ap (λ n. take n (drop s.start m)) e

  field_is : field ≡ take len (drop at body)
  field_is = let e : at + len - at ≡ len = omega arith in ap (λ n. take n (drop at body)) e

  pub component-is : (d : Delims) (n c : ℕ) (p : Span) → PieceOf d.field n body at len → p ≡ part_in d (met field) c
      → stretch (s.start + at + p.start) p.len ≡ stretch_of d s.start (met (take s.len (drop s.start m))) n c
  unfolding stretch_of
  component-is d n c p f e =
      let g : met field ≡ nth (split d.field (met (take s.len (drop s.start m)))) n = ap met field_is ∙ f.own ∙ ap (λ l. nth (split d.field (met l)) n) body_is in
      let h : at ≡ start_of d.field n (met (take s.len (drop s.start m))) = f.start ∙ ap (λ l. start_of d.field n (met l)) body_is in
      rw (e, g, ← h)

  pub component-within : (p : Span) → at + len ≤ length body → p.start + p.len ≤ length field → s.start + at + p.start + p.len ≤ length m
  component-within p h k =
      omega (arith, ap length field_is, length-take-le len (drop at body) (omega (arith, length-drop at body)), ap length body_is, length-take-le s.len (drop s.start m) (omega (arith, length-drop s.start m)))

-- ---- after the check
pub headed-proper : (m : List ℕ) (t : Bool) (d : Delims) → t ≡ header_ok m → t ≡ true → d ≡ delims_of m → Proper d
headed-proper m t d et n e = rw e (header m (sym et ∙ n)).proper

-- ---- of an accepted message
pub place-accepted : (m : List ℕ) (o f c : ℕ) (k : Counts) → check_told m ≡ gives k → place_told m o f c ≡ fetch_told m o f c
unfolding place_told fetch_told
place-accepted m o f c k h = rw (h, (accepted-passes m k h).headed)

-- ---- the check first
module _ (m : List ℕ) (o f c : ℕ) (x : Result Counts Refusal) (e : told x ≡ check_told m) where
  pub locate-accepted : (k : Counts) (y : Result Span Refusal) → x ≡ Ok k → PlaceFound m o f c y → Located m o f c y
  locate-accepted k y h p = record { told = p.told ∙ place-accepted m o f c k (rw h at (sym e)); within = p.within }

-- ---- the part
module _ (m : List ℕ) (o f c : ℕ) where
  span-is : (x : Result Span Refusal) → Located m o f c x → span_in (length m) x ≡ span_told (fetch_told m o f c)
  unfolding span_in
  span-is (Ok p) l = rw (← l.told, le-leb (p.start + p.len) (length m) (l.within p refl))
  span-is (Err r) l = rw (← l.told)

  pub fetch-given : (x : Result Span Refusal) (r : List ℕ) (a b : ℕ × ℕ) → Located m o f c x → StretchGiven m a x r b → PartGiven m a o f c r b
  fetch-given x r a b l s = rw (← span-is x l) s
