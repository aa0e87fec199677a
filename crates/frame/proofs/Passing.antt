-- Laws of the pass over the segments, one for each way through its code. Assumes nothing.
use mathlib.Core.Path.{◌≡◌, refl, sym, ◌∙◌}
use mathlib.Core.Bool.{Bool, true, false, ◌&&◌}
use mathlib.Core.List.{List, [], ◌∷◌}
use Prim.Native.Nat.{ℕ, ◌+◌, ◌-◌, ◌≤◌}
use native.Mathlib.Omega.{arith}
use borrow.Author.Tests.{eqb-true, eqb-false}
use lib.Dec.{eqb}
use lib.ListN.{length}
use Rattle.std.specs.declared.option.Option.TheVariants.{Some, None}
use Rattle.rules.specs.declared.Name.{Name}
use Rattle.rules.specs.Lists.{empty, all, split, all_but_last, last}
use Rattle.rules.specs.Frame.{segments, segments_ok, name_of}
use Rattle.rules.proofs.Lists.{filled-some}
use Rattle.frame.specs.Frame.{most_bytes, good_of, nothing_seen, counted_of, seen_after, pass_from, Within}
use Rattle.frame.specs.Taken.{Taken, Ended}
use Rattle.frame.specs.declared.all_segments.Seen.{Seen}
use Rattle.frame.proofs.Taken.{taken-length, taken-segments, taken-ok}
use Rattle.frame.proofs.Laws.{within-starts, within_on, within_all}

nothing : (r : List ℕ) → length r ≡ 0 → r ≡ []
nothing [] h = refl
nothing (x ∷ s) h = absurd (omega arith)

-- v is seen of m before its rest r
pub record Passing (m : List ℕ) (bar : ℕ) (v : Seen) (r : List ℕ) : Type 0 where
  pub same : pass_from nothing_seen bar m ≡ pass_from v bar r
  pub inside : length r ≤ length m
  pub within : Within (length m - length r) v

pub pass-starts : (m : List ℕ) (bar : ℕ) (v : Seen) → v ≡ nothing_seen → Passing m bar v m
pass-starts m bar v e = let z : length m - length m ≡ 0 = omega arith in record { same = rw e; inside = omega arith; within = rw z (within-starts v e) }

module _ (m : List ℕ) (bar : ℕ) (v : Seen) (r : List ℕ) (inv : Passing m bar v r) where
  module _ (x t : List ℕ) (h : Taken r x t) (b : Bool) (eb : b ≡ good_of bar x) where
    turn : segments_ok bar r ≡ (b && segments_ok bar t)
    turn = taken-ok r x t h bar ∙ rw eb

    pub pass-bad : b ≡ false → None ≡ pass_from nothing_seen bar m
    unfolding pass_from
    pass-bad e = sym (inv.same ∙ rw (turn, e))

    pub pass_on : (n : Name) (w : Seen) → b ≡ true → n ≡ name_of x → w ≡ counted_of v n → Passing m bar w t
    unfolding pass_from seen_after
    pass_on n w e en ew =
        let l : length r ≡ length x + 1 + length t = taken-length r x t h in
        let k : length m - length r + (length x + 1) ≡ length m - length t = omega (arith, inv.inside) in
        record {
          same = inv.same ∙ rw (ew, en, turn, e, taken-segments r x t h);
          inside = omega (arith, inv.inside);
          within = rw (← k) (within_on v w n (length m - length r) (length x) inv.within ew);
        }

  module _ (t : List ℕ) (h : Ended r t) where
    pub pass-open : eqb (length t) 0 ≡ false → None ≡ pass_from nothing_seen bar m
    unfolding pass_from segments_ok last
    pass-open e =
        let z : eqb (length r) 0 ≡ false = rw (← h.stays) e in
        sym (inv.same ∙ rw (h.whole, filled-some r (eqb-false (length r) 0 z)))

    pub pass-end : eqb (length t) 0 ≡ true → Some v ≡ pass_from nothing_seen bar m
    unfolding pass_from seen_after segments_ok segments split all_but_last last empty all
    pass-end e = let z : eqb (length r) 0 ≡ true = rw (← h.stays) e in sym (inv.same ∙ rw (nothing r (eqb-true (length r) 0 z)))

  pub passed-within : length m ≤ 32768 → (u : Seen) → Some v ≡ Some u → Within most_bytes u
  passed-within l u e = within_all m (length m - length r) v u inv.within (omega arith) l e
