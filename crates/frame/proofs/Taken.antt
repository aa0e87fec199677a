-- Laws of the segments as they are taken off a message's front. Assumes nothing.
use Prim.Native.Nat.{ℕ, suc, ◌+◌, ◌-◌, ◌≤◌, ◌<◌}
use native.Mathlib.Omega.{arith}
use mathlib.Core.Path.{◌≡◌, refl, sym, ap, ◌∙◌}
use mathlib.Core.List.{List, [], ◌∷◌, ◌++◌}
use lib.Dec.{eqb}
use native.Mathlib.Numerals.{add-one}
use lib.ListN.{length, take, drop, length-append}
use borrow.Author.Tests.{eqb-true}
use mathlib.Core.Bool.{Bool, true, false, ◌&&◌}
use Rattle.rules.specs.Frame.{segments, segments_ok}
use Rattle.rules.specs.Lists.{split, all_but_last, last, all, empty}
use Rattle.rules.proofs.Logic.{cases}
use lib.Seq.{drop-drop}
use Rattle.rules.proofs.Lists.{rest-is, all_cons, take_own, drop_own}
use Rattle.rules.proofs.Split.{but_last-split, last-split}
use Rattle.plain_bytes.specs.Bytes as Bytes
use Rattle.plain_bytes.specs.Bytes.{until}
use Rattle.plain_bytes.proofs.Laws.{split-last, split-more}
use Rattle.frame.specs.Frame.{good_of}
use Rattle.frame.specs.Taken.{Taken, Ended}

-- ---- what a taker learns
and-exchange : (a b c : Bool) → (a && (b && c)) ≡ (b && (a && c))
and-exchange true b c = refl
and-exchange false true c = refl
and-exchange false false c = refl

module _ (r x t : List ℕ) (h : Taken r x t) where
  pub taken-length : length r ≡ length x + 1 + length t
  taken-length = rw h.lies (length-append x (0x0D ∷ t) ∙ omega arith)

  pub taken-front : take (length x) r ≡ x
  taken-front = rw h.lies (take_own x (0x0D ∷ t))

  pub taken-behind : drop (length x + 1) r ≡ t
  taken-behind = rw h.lies (sym (drop-drop 1 (length x) (x ++ 0x0D ∷ t)) ∙ ap (drop 1) (drop_own x (0x0D ∷ t)))

  pub taken-segments : segments r ≡ x ∷ segments t
  unfolding segments
  taken-segments = ap all_but_last h.cut ∙ but_last-split 0x0D x t

  pub taken-last : last (split 0x0D r) ≡ last (split 0x0D t)
  taken-last = ap last h.cut ∙ last-split 0x0D x t

  pub taken-ok : (bar : ℕ) → segments_ok bar r ≡ (good_of bar x && segments_ok bar t)
  unfolding segments_ok
  taken-ok bar =
      rw (taken-segments, taken-last, all_cons (good_of bar) x (segments t)) (and-exchange (empty (last (split 0x0D t))) (good_of bar x) (all (good_of bar) (segments t)))

module _ (r : List ℕ) (h : split 0x0D r ≡ r ∷ []) where
  pub ended-segments : segments r ≡ []
  unfolding segments all_but_last
  ended-segments = ap all_but_last h

-- ---- one segment more
-- what stands before the first separator, the separator and what follows are the whole
cut-whole : (sep : ℕ) (s : List ℕ) → length (until (Bytes.is_byte sep) s) < length s
    → s ≡ take (length (until (Bytes.is_byte sep) s)) s ++ sep ∷ drop (suc (length (until (Bytes.is_byte sep) s))) s
unfolding until
cut-whole sep [] h = absurd (omega arith)
cut-whole sep (x ∷ s) h =
    cases (eqb x sep)
    (λ e. let q : x ≡ sep = eqb-true x sep e in cc)
    (λ e. let z : length (until (Bytes.is_byte sep) (x ∷ s)) ≡ suc (length (until (Bytes.is_byte sep) s)) = cc in
    cc (cut-whole sep s (omega arith)))

-- ---- what the iterator's code has: r is the rest, n how many bytes stand before its first 0D
module _ (r : List ℕ) (n : ℕ) (en : n ≡ length (until (Bytes.is_byte 0x0D) r)) where
  -- without a 0D there is no segment
  pub none-left : n ≡ length r → segments r ≡ []
  none-left h = ended-segments r (split-last 0x0D r (sym en ∙ h))

  pub none-taken : n ≡ length r → Ended r r
  none-taken h = record { stays = refl; whole = split-last 0x0D r (sym en ∙ h) }

  module _ (l : n ≤ length r) (ne : n ≡ length r → ⊥) where
    inside : length (until (Bytes.is_byte 0x0D) r) < length r
    inside = omega (arith, en, ne, l)

    -- what follows a segment
    after : take (length r - (n + 1)) (drop (n + 1) r) ≡ drop (n + 1) r
    after = rest-is r (n + 1)

    pub one-taken : Taken r (take n r) (take (length r - (n + 1)) (drop (n + 1) r))
    one-taken = rw (after, add-one, en) (record { lies = cut-whole 0x0D r inside; cut = split-more 0x0D r inside })

    pub one-left : segments r ≡ take n r ∷ segments (take (length r - (n + 1)) (drop (n + 1) r))
    one-left = taken-segments r (take n r) (take (length r - (n + 1)) (drop (n + 1) r)) one-taken

    pub fewer-left : length (segments (take (length r - (n + 1)) (drop (n + 1) r))) < length (segments r)
    fewer-left = rw one-left (omega arith)
