-- A message grows by the text of each group. Assumes nothing.
use mathlib.Core.Path.{◌≡◌, refl, ap, ◌∙◌}
use mathlib.Core.List.{List, [], ◌∷◌, ◌++◌, map, append_assoc}
use Prim.Native.Nat.{ℕ, ◌+◌, ◌≤◌}
use native.Mathlib.Omega.{arith}
use lib.ListN.{length, length-append, length-map}
use Rattle.rules.specs.declared.Delims.{Delims}
use Rattle.rules.specs.declared.Name.{Name}
use Rattle.rules.specs.declared.Name.TheVariants.{Msh, Pid, Pv1, Spm, Obr, Orc, Obx, Other}
use Rattle.rules.specs.Told.{◌when◌}
use Rattle.rules.specs.Lists.{ended}
use Rattle.rules.specs.Frame.{is, counting}
use Rattle.rules.specs.Row.{lines, Row, group_of, row_of}
use Rattle.rules.specs.Message.{Numbers, zeros, counted, Piece, pieces_of, pieces, segment_text, written, message_of}
use Rattle.rules.proofs.Split.{ended-append}
use Rattle.groups.specs.Groups.{group_values}
use Rattle.segments.specs.Segments.{row_pieces, group_pieces}
use Rattle.compose.specs.Compose.{group_text}

-- the numbers after some rows
unfoldable pub numbers_in : Numbers → List Row → Numbers
numbers_in n [] = n
numbers_in n (r ∷ rs) = numbers_in (counted n (group_of r)) rs

pub numbers-append : (n : Numbers) (a b : List Row) → numbers_in n (a ++ b) ≡ numbers_in (numbers_in n a) b
unfolding numbers_in
numbers-append n [] b = refl
numbers-append n (r ∷ a) b = numbers-append (counted n (group_of r)) a b

pub numbers-in : (n : Numbers) (g : Name) (vs : List (List ℕ)) → numbers_in n (row_of g vs) ≡ counted n g
unfolding numbers_in row_of counted counting
numbers-in n Msh vs = refl
numbers-in n Pid vs = refl
numbers-in n Pv1 vs = refl
numbers-in n Spm vs = refl
numbers-in n Obr vs = refl
numbers-in n Orc vs = refl
numbers-in n Obx vs = refl
numbers-in n Other vs = refl

module _ (d : Delims) where
  pieces-append : (n : Numbers) (a b : List Row) → pieces d n (a ++ b) ≡ pieces d n a ++ pieces d (numbers_in n a) b
  unfolding pieces numbers_in
  pieces-append n [] b = refl
  pieces-append n (r ∷ a) b =
      let m = counted n (group_of r) in
      rw (pieces-append m a b, append_assoc (pieces_of d m r) (pieces d m a) (pieces d (numbers_in m a) b))

  pieces-in : (n : Numbers) (g : Name) (vs : List (List ℕ)) → pieces d n (row_of g vs) ≡ row_pieces d (counted n g) (row_of g vs)
  unfolding pieces row_pieces row_of
  pieces-in n Msh vs = refl
  pieces-in n Pid vs = refl
  pieces-in n Pv1 vs = refl
  pieces-in n Spm vs = refl
  pieces-in n Obr vs = refl
  pieces-in n Orc vs = refl
  pieces-in n Obx vs = refl
  pieces-in n Other vs = refl

  pieces-count : (n : Numbers) (g : Name) (ts : List (List ℕ)) → 1 ≤ length (lines g) → length (group_pieces d n g ts) ≡ 1 + (1 when is g Obr)
  unfolding group_pieces row_pieces pieces_of row_of lines
  pieces-count n Msh ts l = refl
  pieces-count n Pid ts l = refl
  pieces-count n Pv1 ts l = refl
  pieces-count n Spm ts l = refl
  pieces-count n Obr ts l = refl
  pieces-count n Orc ts l = absurd (omega arith)
  pieces-count n Obx ts l = refl
  pieces-count n Other ts l = absurd (omega arith)

  map-append : (f : Piece → List ℕ) (a b : List Piece) → map f (a ++ b) ≡ map f a ++ map f b
  map-append f [] b = refl
  map-append f (p ∷ a) b = ap (λ (l : List (List ℕ)). f p ∷ l) (map-append f a b)

  -- a group behind some rows
  module _ (rows : List Row) (n : Numbers) (g : Name) (ts : List (List ℕ)) (e : n ≡ counted (numbers_in zeros rows) g) where
    abbrev more : List Row
    more = row_of g (group_values g ts)

    written-more : written d (rows ++ more) ≡ written d rows ++ map (segment_text d) (group_pieces d n g ts)
    unfolding written group_pieces
    written-more =
        ap (map (segment_text d)) (pieces-append zeros rows more ∙ ap (λ (ps : List Piece). pieces d zeros rows ++ ps) (pieces-in (numbers_in zeros rows) g (group_values g ts) ∙ rw (← e)))
        ∙ map-append (segment_text d) (pieces d zeros rows) (row_pieces d n more)

    pub message-more : message_of d (rows ++ more) ≡ message_of d rows ++ group_text d n g ts
    unfolding message_of group_text
    message-more = ap (ended 0x0D) written-more ∙ ended-append 0x0D (written d rows) (map (segment_text d) (group_pieces d n g ts))

    pub segments-more : 1 ≤ length (lines g) → length (written d (rows ++ more)) ≡ length (written d rows) + (1 + (1 when is g Obr))
    segments-more l =
        ap length written-more ∙ length-append (written d rows) (map (segment_text d) (group_pieces d n g ts))
        ∙ ap (λ (k : ℕ). length (written d rows) + k) (length-map (group_pieces d n g ts) (segment_text d) ∙ pieces-count n g ts l)

    pub numbers_more : n ≡ numbers_in zeros (rows ++ more)
    numbers_more = e ∙ rw (numbers-append zeros rows more, numbers-in (numbers_in zeros rows) g (group_values g ts))

  pub message-none : message_of d [] ≡ []
  unfolding message_of written pieces ended
  message-none = refl

  pub segments-none : length (written d []) ≡ 0
  unfolding written pieces
  segments-none = refl
