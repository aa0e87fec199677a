-- The text of each segment is what its pattern says. Assumes nothing.
use mathlib.Core.Path.{◌≡◌}
use mathlib.Core.Bool.{Bool, true, false}
use lib.Dec.{eqb}
use mathlib.Core.List.{List, [], ◌∷◌, append_assoc, append-nil}
use Prim.Native.Nat.{ℕ}
use lib.ListN.{length, drop}
use denote.Ref.{Bor}
use Rattle.rules.specs.declared.Delims.{Delims}
use Rattle.rules.specs.declared.Name.TheVariants.{Msh, Pid, Pv1, Obr}
use Rattle.rules.specs.Lists.{bytes, empty, nth, join, led, ended}
use Rattle.rules.specs.Frame.{spelling}
use Rattle.rules.specs.Row.{line, lines, row_of}
use Rattle.rules.specs.Sheet.{key_of}
use Rattle.rules.specs.Message.{composed, blanks, encoding, name_text, names_text, pieces_of, segment_text, zeros}
use Rattle.rules.proofs.Logic.{not-true, not-false}
use Rattle.writer.specs.Over.{Fit}
use Rattle.writer.specs.Woven.{delimiter_of, taken, slot_text, first_text, woven}
use Rattle.groups.specs.Groups.{values_from}
use Rattle.groups.proofs.Laws.{blank-by}
use Rattle.segments.specs.Segments.{row_pieces, group_pieces, group_segment, has_kana}

-- to unfold this name is to unfold the patterns, the lines and the segments
unfoldable pub shapes : Unit {0}
unfolding delimiter_of taken slot_text first_text woven line lines key_of bytes values_from row_of row_pieces group_pieces group_segment pieces_of segment_text spelling join led ended composed blanks encoding name_text has_kana
shapes = tt

-- a write whose text is known by another name
pub fit-as : {r : ℕ} {x w v old : List ℕ} → w ≡ v → Fit r x w old → Fit r x v old
fit-as e p = rw e at p

-- ---- the patterns
abbrev visit-pattern : List ℕ
visit-pattern = 35 ∷ 124 ∷ 124 ∷ 36 ∷ 13 ∷ []

abbrev order-pattern : List ℕ
order-pattern = 35 ∷ 124 ∷ 124 ∷ 36 ∷ 124 ∷ 124 ∷ 36 ∷ 94 ∷ 94 ∷ 57 ∷ 57 ∷ 48 ∷ 48 ∷ 51 ∷ 13 ∷ []

abbrev common-pattern : List ℕ
common-pattern = 35 ∷ 124 ∷ 82 ∷ 69 ∷ 124 ∷ 36 ∷ 13 ∷ []

abbrev header-pattern : List ℕ
header-pattern = 35 ∷ 124 ∷ 94 ∷ 126 ∷ 92 ∷ 38 ∷ 124 ∷ 124 ∷ 124 ∷ 124 ∷ 124 ∷ 36 ∷ 124 ∷ 124 ∷ 79 ∷ 85 ∷ 76 ∷ 94 ∷ 82 ∷ 50 ∷ 50 ∷ 94 ∷ 79 ∷ 85 ∷ 76 ∷ 95 ∷ 82 ∷ 50 ∷ 50 ∷ 124 ∷ 36 ∷ 124 ∷ 36 ∷ 124 ∷ 50 ∷ 46 ∷ 53 ∷ 124 ∷ 124 ∷ 124 ∷ 124 ∷ 124 ∷ 124 ∷ 126 ∷ 73 ∷ 83 ∷ 79 ∷ 32 ∷ 73 ∷ 82 ∷ 56 ∷ 55 ∷ 124 ∷ 124 ∷ 73 ∷ 83 ∷ 79 ∷ 32 ∷ 50 ∷ 48 ∷ 50 ∷ 50 ∷ 45 ∷ 49 ∷ 57 ∷ 57 ∷ 52 ∷ 13 ∷ []

abbrev kanji-pattern : List ℕ
kanji-pattern = 35 ∷ 124 ∷ 124 ∷ 124 ∷ 36 ∷ 124 ∷ 124 ∷ 36 ∷ 94 ∷ 36 ∷ 94 ∷ 94 ∷ 94 ∷ 94 ∷ 94 ∷ 76 ∷ 94 ∷ 73 ∷ 124 ∷ 124 ∷ 36 ∷ 124 ∷ 36 ∷ 13 ∷ []

abbrev kana-pattern : List ℕ
kana-pattern = 35 ∷ 124 ∷ 124 ∷ 124 ∷ 36 ∷ 124 ∷ 124 ∷ 36 ∷ 94 ∷ 36 ∷ 94 ∷ 94 ∷ 94 ∷ 94 ∷ 94 ∷ 76 ∷ 94 ∷ 73 ∷ 126 ∷ 36 ∷ 94 ∷ 36 ∷ 94 ∷ 94 ∷ 94 ∷ 94 ∷ 94 ∷ 76 ∷ 94 ∷ 80 ∷ 124 ∷ 124 ∷ 36 ∷ 124 ∷ 36 ∷ 13 ∷ []

-- ---- the segments by their patterns, where the values stand in the lines
module _ (d : Delims) (ts : List (List ℕ)) (r : ℕ) (x old : List ℕ) where
  abbrev at : ℕ → ℕ → List ℕ
  at k n = drop n (nth ts k)

  pub header_is : (n a b c : Bor (List ℕ)) → n.now ≡ 77 ∷ 83 ∷ 72 ∷ [] → a.now ≡ at 2 5 → b.now ≡ at 3 8 → c.now ≡ at 1 5
      → Fit r x (woven d header-pattern (n ∷ a ∷ b ∷ c ∷ [])) old → Fit r x (group_segment d zeros Msh 0 ts) old
  unfolding shapes
  header_is n a b c en ea eb ec p = fit-as (simp (en, ea, eb, ec, append_assoc, append-nil)) p

  pub kanji-is : (n a b c e f : Bor (List ℕ)) → n.now ≡ 80 ∷ 73 ∷ 68 ∷ [] → a.now ≡ at 0 8 → b.now ≡ at 1 7 → c.now ≡ at 2 6 → e.now ≡ at 5 6 → f.now ≡ at 6 4
      → has_kana ts ≡ false → Fit r x (woven d kanji-pattern (n ∷ a ∷ b ∷ c ∷ e ∷ f ∷ [])) old → Fit r x (group_segment d zeros Pid 0 ts) old
  unfolding shapes names_text
  kanji-is n a b c e f en ea eb ec ee ef h p =
      let z : empty (at 3 11) ≡ true = not-false (empty (at 3 11)) h in
      fit-as (simp (en, ea, eb, ec, ee, ef, z, append_assoc, append-nil)) p

  pub kana-is : (n a b c k l e f : Bor (List ℕ)) → n.now ≡ 80 ∷ 73 ∷ 68 ∷ [] → a.now ≡ at 0 8 → b.now ≡ at 1 7 → c.now ≡ at 2 6 → k.now ≡ at 3 11 → l.now ≡ at 4 10
      → e.now ≡ at 5 6 → f.now ≡ at 6 4 → has_kana ts ≡ true
      → Fit r x (woven d kana-pattern (n ∷ a ∷ b ∷ c ∷ k ∷ l ∷ e ∷ f ∷ [])) old → Fit r x (group_segment d zeros Pid 0 ts) old
  unfolding shapes names_text
  kana-is n a b c k l e f en ea eb ec ek el ee ef h p =
      let z : empty (at 3 11) ≡ false = not-true (empty (at 3 11)) h in
      fit-as (simp (en, ea, eb, ec, ek, el, ee, ef, z, append_assoc, append-nil)) p

  pub visit-is : (n a : Bor (List ℕ)) → n.now ≡ 80 ∷ 86 ∷ 49 ∷ [] → a.now ≡ at 0 6
      → Fit r x (woven d visit-pattern (n ∷ a ∷ [])) old → Fit r x (group_segment d zeros Pv1 0 ts) old
  unfolding shapes
  visit-is n a en ea p = fit-as (simp (en, ea, append-nil)) p

  pub order_is : (n a b : Bor (List ℕ)) → n.now ≡ 79 ∷ 66 ∷ 82 ∷ [] → a.now ≡ at 0 6 → b.now ≡ at 1 6
      → Fit r x (woven d order-pattern (n ∷ a ∷ b ∷ [])) old → Fit r x (group_segment d zeros Obr 0 ts) old
  unfolding shapes
  order_is n a b en ea eb p = fit-as (simp (en, ea, eb, append_assoc, append-nil)) p

  pub common-is : (n a : Bor (List ℕ)) → n.now ≡ 79 ∷ 82 ∷ 67 ∷ [] → a.now ≡ at 0 6
      → Fit r x (woven d common-pattern (n ∷ a ∷ [])) old → Fit r x (group_segment d zeros Obr 1 ts) old
  unfolding shapes
  common-is n a en ea p = fit-as (simp (en, ea, append-nil)) p

-- ---- which of two patterns
module _ (ts : List (List ℕ)) where
  pub kana-none : (k : List ℕ) (q : Bool) → k ≡ drop 11 (nth ts 3) → q ≡ eqb (length k) 0 → q ≡ true → has_kana ts ≡ false
  unfolding shapes
  kana-none k q e f h = rw (← e, ← blank-by k f, h)

  pub kana-some : (k : List ℕ) (q : Bool) → k ≡ drop 11 (nth ts 3) → q ≡ eqb (length k) 0 → q ≡ false → has_kana ts ≡ true
  unfolding shapes
  kana-some k q e f h = rw (← e, ← blank-by k f, h)
