-- What the places of 12, 13 and 41 say, in the words of the rules themselves; proofs/Claims.antt proves each claim.
use Rattle.std.specs.Prelude.{◌≡◌, true, false, List, ◌∷◌, ◌++◌, ℕ, suc, ◌<◌, length, take, drop}
use Rattle.rules.specs.declared.Mode.TheVariants.{One}
use Rattle.rules.specs.Shift.{keeps}
use Rattle.rules.specs.Frame.{segments, segments_ok}
use Rattle.frame.specs.Frame.{good_of}
use Rattle.spot.specs.Spot.{kept_bytes, good_bytes}

-- ---- 12, 41
-- What stands before the place breaks nothing: something put after it keeps the rule.
pub record Continues (end : ℕ) (s : List ℕ) : Type 0 where
  pub rest : List ℕ
  pub kept : keeps end (s ++ rest) ≡ true

abbrev pub BytesBefore : Type 0
BytesBefore = (end : ℕ) (s : List ℕ) → Continues end (take (kept_bytes end One s) s)

-- The byte at the place breaks the rule: nothing put after it keeps the rule. A place behind the last byte has none.
abbrev pub ByteThere : Type 0
ByteThere = (end : ℕ) (s t : List ℕ) → kept_bytes end One s < length s → keeps end (take (suc (kept_bytes end One s)) s ++ t) ≡ false

-- ---- 13, with the field separator `bar`
pub record SegmentThere (bar : ℕ) (m : List ℕ) (at : ℕ) : Type 0 where
  -- what stands before the place keeps the rule
  pub before : segments_ok bar (take at m) ≡ true
  -- the segment that begins there, where one does, is too long or has a bad name
  pub bad : (s : List ℕ) (ss : List (List ℕ)) → segments (drop at m) ≡ s ∷ ss → good_of bar s ≡ false
  -- a text that breaks the rule has a byte there
  pub inside : segments_ok bar m ≡ false → at < length m

abbrev pub SegmentsBefore : Type 0
SegmentsBefore = (bar : ℕ) (m : List ℕ) → SegmentThere bar m (good_bytes bar (segments m))
