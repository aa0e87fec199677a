-- A message is accepted exactly if it keeps the rules. Assumes nothing.
use mathlib.Core.Path.{◌≡◌, refl, sym, ap, ◌∙◌}
use mathlib.Core.List.{List, [], ◌∷◌, map}
use Prim.Native.Nat.{ℕ}
use borrow.Author.Tests.{le-ltb}
use lib.ListN.{length}
use Rattle.rules.specs.declared.Counts.{Counts}
use Rattle.rules.specs.Told.{gives}
use Rattle.rules.specs.Lists.{all}
use Rattle.rules.specs.Frame.{delims_of, segments, Known, known, start, order_fault}
use Rattle.rules.specs.View.{Segment, segment_of, View, view}
use Rattle.rules.specs.Check.{unsaid, places_told, names_of, counts_told, view_told, frame_told, check_told}
use Rattle.rules.proofs.Logic.{both, then-gives}
use Rattle.rules.proofs.Where.{view-passes, passes}
use Rattle.kept.specs.Kept.{segment_names, segment_ok, status_ok, Kept}
use Rattle.kept.specs.Given.{how_many, counts_given}
use Rattle.kept.proofs.Order.{in_order, no-fault}
use Rattle.kept.proofs.Segments.{taken, taken-gives, orders_from, segments-taken, orders-agree, agree-orders}

-- the view's names are those of the known segments
names-seen : (m : List ℕ) → names_of (view m) ≡ segment_names m
unfolding view segment_of
names-seen m = each (known m)
  where
    each : (ks : List Known) → map (λ (s : Segment). s.name) (map (segment_of (delims_of m)) ks) ≡ map (λ (k : Known). k.name) ks
    each [] = refl
    each (k ∷ ks) = rw (each ks)

counts-told : (m : List ℕ) → counts_told (names_of (view m)) ≡ gives (counts_given m)
unfolding counts_told counts_given how_many
counts-told m = rw (names-seen m)

pub told-kept : (m : List ℕ) (c : Counts) → check_told m ≡ gives c → Kept m × (c ≡ counts_given m)
unfolding check_told view
told-kept m c h =
    let d = delims_of m in
    let z = then-gives (frame_told m) (view_told (view m)) c h in
    let F = passes m z.0 in
    let P = view-passes (view m) c z.1 in
    let o : order_fault start 1 (segment_names m) ≡ 0 = rw (names-seen m) at P.0 in
    let t = sym (segments-taken d unsaid 1 (known m)) ∙ ap taken P.1 in
    let a = both (all (segment_ok d) (known m)) _ t in
    let b = both (all (status_ok d) (known m)) (orders_from d unsaid (known m)) a.1 in (
      record {
        short = F.short;
        shifts = F.kept;
        header = F.headed;
        cut = F.cut;
        few = F.few;
        order = in_order (segment_names m) o;
        read = a.0;
        status = b.0;
        orders = orders-agree d (known m) o b.1;
      },
      (let e : gives c ≡ gives (counts_given m) = sym P.2 ∙ counts-told m in cc),
    )

pub frame-told : (m : List ℕ) → Kept m → frame_told m ≡ gives tt
unfolding frame_told
frame-told m K = rw (le-ltb 32768 (length m) K.short, K.header, K.shifts, K.cut, le-ltb 512 (length (segments m)) K.few)

view-gives : (v : View) → order_fault start 1 (names_of v) ≡ 0 → places_told v.delims unsaid 1 v.segs ≡ gives tt → view_told v ≡ counts_told (names_of v)
unfolding view_told
view-gives v o p = rw (o, p)

places-told : (m : List ℕ) → Kept m → places_told (view m).delims unsaid 1 (view m).segs ≡ gives tt
unfolding view
places-told m K =
    let d = delims_of m in
    taken-gives (places_told d unsaid 1 (map (segment_of d) (known m)))
    (segments-taken d unsaid 1 (known m) ∙ rw (K.read, K.status) (agree-orders d (known m) (no-fault (segment_names m) K.order) K.orders))

view-told : (m : List ℕ) → Kept m → view_told (view m) ≡ gives (counts_given m)
view-told m K = view-gives (view m) (rw (names-seen m) (no-fault (segment_names m) K.order)) (places-told m K) ∙ counts-told m

pub kept-told : (m : List ℕ) → Kept m → check_told m ≡ gives (counts_given m)
unfolding check_told
kept-told m K = rw (frame-told m K) (view-told m K)
