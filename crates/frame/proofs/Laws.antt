-- Laws of the frame: one for each way through its code. Assumes nothing.
use mathlib.Core.Path.{◌≡◌, sym, ap, ◌∙◌}
use mathlib.Core.Bool.{Bool, true, false}
use mathlib.Core.List.{List}
use Prim.Native.Nat.{ℕ, ◌+◌, ◌≤◌}
use native.Mathlib.Omega.{arith}
use borrow.Author.Tests.{le-ltb}
use lib.Dec.{ltb}
use lib.ListN.{length}
use Rattle.std.specs.declared.option.Option.{Option}
use Rattle.std.specs.declared.option.Option.TheVariants.{Some, None}
use Rattle.std.specs.declared.result.Result.{Result}
use Rattle.std.specs.declared.result.Result.TheVariants.{Ok, Err}
use Rattle.rules.specs.declared.Delims.{Delims}
use Rattle.rules.specs.declared.Refusal.{Refusal}
use Rattle.rules.specs.declared.Name.{Name}
use Rattle.rules.specs.declared.Name.TheVariants.{Spm, Obr, Obx, Other}
use Rattle.rules.specs.Told.{told, ◌when◌}
use Rattle.rules.specs.Shift.{keeps}
use Rattle.rules.specs.Frame.{delims_of, header_ok, segments, segments_ok, is}
use Rattle.rules.specs.Check.{frame_told}
use Rattle.rules.proofs.Logic.{cases}
use Rattle.frame.proofs.Rules.{closing-is, sound}
use Rattle.frame.specs.Frame.{most_bytes, nothing_seen, tallied, counted_of, seen_after, pass_from, closing, frame_of, Within, Sound}
use Rattle.rules.specs.declared.Kind.TheVariants.{Segment}
use Rattle.frame.specs.declared.Opened.{Opened}
use Rattle.frame.specs.declared.all_segments.Seen.{Seen}

-- ---- the numbers of a pass stay below the bytes passed
pub within-starts : (v : Seen) → v ≡ nothing_seen → Within 0 v
within-starts v e = rw e (record { segments = omega arith; known = omega arith; spm = omega arith; obr = omega arith; obx = omega arith })

when-small : (t : Bool) → (1 when t) ≤ 1
when-small true = omega arith
when-small false = omega arith

pub within_on : (v w : Seen) (x : Name) (at n : ℕ) → Within at v → w ≡ counted_of v x → Within (at + (n + 1)) w
unfolding counted_of tallied
within_on v w x at n h e =
    rw e
    (cases (is x Other)
    (λ q. rw q (record { segments = omega (arith, h); known = omega (arith, h); spm = omega (arith, h); obr = omega (arith, h); obx = omega (arith, h) }))
    (λ q. rw q (record {
      segments = omega (arith, h);
      known = omega (arith, h);
      spm = omega (arith, h, when-small (is Spm x));
      obr = omega (arith, h, when-small (is Obr x));
      obx = omega (arith, h, when-small (is Obx x));
    })))

pub within_all : (m : List ℕ) (at : ℕ) (v u : Seen) → Within at v → at ≤ length m → length m ≤ 32768 → Some v ≡ Some u → Within most_bytes u
within_all m at v u h k l e =
    let q : v ≡ u = cc in
    rw (← q) (record { segments = omega (arith, h); known = omega (arith, h); spm = omega (arith, h); obr = omega (arith, h); obx = omega (arith, h) })

pub within-bad : (u : Seen) → None ≡ Some u → Within most_bytes u
within-bad u e = absurd (let z : ◌≡◌ {A = ℕ} 0 1 = cc in omega arith)

-- ---- what a pass that is over says
passed-bad : (v : Seen) (bar : ℕ) (r : List ℕ) → pass_from v bar r ≡ None → segments_ok bar r ≡ false
unfolding pass_from
passed-bad v bar r h = cases (segments_ok bar r) (λ e. let z : Some (seen_after v (segments r)) ≡ None = rw e at h in cc) (λ e. e)

passed-whole : (v w : Seen) (bar : ℕ) (r : List ℕ) → pass_from v bar r ≡ Some w → (segments_ok bar r ≡ true) × (seen_after v (segments r) ≡ w)
unfolding pass_from
passed-whole v w bar r h =
    cases (segments_ok bar r)
    (λ e. let z : Some (seen_after v (segments r)) ≡ Some w = rw e at h in (e, cc))
    (λ e. let z : None ≡ Some w = rw e at h in (cc, cc))

-- ---- 10 to 15
module _ (m : List ℕ) (r : Result Opened Refusal) where
  pub sound-by : told r ≡ frame_of m → (o : Opened) → r ≡ Ok o → Sound m o.delims
  sound-by h o e = sound m o (sym h ∙ ap told e)

  module _ (l : length m ≤ 32768) (t : Bool) (et : t ≡ header_ok m) (ht : t ≡ true) (u : Bool) (eu : u ≡ keeps 0x0D m) (hu : u ≡ true)
      (d : Delims) (ed : d ≡ delims_of m) (p : Option Seen) (ep : p ≡ pass_from nothing_seen d.field m) where
    pub frame-13 : p ≡ None → r ≡ Err (record { kind = Segment; segment = 0; field = 0 }) → told r ≡ frame_of m
    unfolding frame_of frame_told
    frame-13 h e = rw (e, le-ltb 32768 (length m) l, ← et, ht, ← eu, hu, ← ed, passed-bad nothing_seen d.field m (sym ep ∙ h))

    pub frame-close : (v : Seen) → p ≡ Some v → told r ≡ closing d v → told r ≡ frame_of m
    unfolding frame_of frame_told
    frame-close v h e =
        let q = passed-whole nothing_seen v d.field m (sym ep ∙ h) in
        e
        ∙ rw (le-ltb 32768 (length m) l, ← et, ht, ← eu, hu, ← ed, q.0, ← q.1, closing-is m d)
        (cases (ltb 512 (length (segments m))) (λ y. rw y) (λ y. rw y))
