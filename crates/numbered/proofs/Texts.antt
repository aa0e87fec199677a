-- The text of a segment with a number is what its pattern says, and of any segment by its name. Assumes nothing.
use mathlib.Core.Path.{◌≡◌, refl, sym, ap, ◌∙◌}
use mathlib.Core.Logic.{◌⊎◌, inl, inr}
use mathlib.Core.Bool.{Bool, true, false, not, ◌&&◌}
use mathlib.Core.List.{List, [], ◌∷◌, append_assoc, append-nil}
use Prim.Native.Nat.{ℕ, ◌≤◌}
use native.Mathlib.Omega.{arith}
use borrow.Author.Tests.{le-leb}
use lib.Dec.{eqb}
use lib.ListN.{length, take, drop}
use denote.Ref.{Bor}
use Rattle.rules.specs.declared.Delims.{Delims}
use Rattle.rules.specs.declared.Name.{Name}
use Rattle.rules.specs.declared.Name.TheVariants.{Msh, Pid, Pv1, Spm, Obr, Orc, Obx, Other}
use Rattle.rules.specs.Lists.{nth, same, decimal}
use Rattle.rules.specs.Frame.{is, spelling}
use Rattle.rules.specs.Message as Message
use Rattle.rules.specs.Message.{value_text, zeros}
use Rattle.rules.proofs.Measures.{tens, decimal-few}
use Rattle.rules.proofs.Names.{name-is}
use Rattle.writer.specs.Over.{over_front, Wrote, fitted, Fit}
use Rattle.writer.specs.Woven.{woven}
use Rattle.writer.proofs.Laws.{front}
use Rattle.groups.proofs.Laws.{blank-by}
use Rattle.segments.specs.Segments.{group_segment}
use Rattle.segments.proofs.Texts.{shapes, fit-as}
use Rattle.numbered.specs.Numbered.{number_is, has_number, numbered_piece, numbered_text, filled_sn, greatest_number}

-- ---- the patterns
abbrev specimen-pattern : List ℕ
specimen-pattern = 35 ∷ 124 ∷ 35 ∷ 124 ∷ 124 ∷ 124 ∷ 36 ∷ 94 ∷ 94 ∷ 74 ∷ 67 ∷ 49 ∷ 48 ∷ 124 ∷ 124 ∷ 124 ∷ 124 ∷ 124 ∷ 124 ∷ 124 ∷ 124 ∷ 124 ∷ 124 ∷ 124 ∷ 124 ∷ 124 ∷ 36 ∷ 13 ∷ []

abbrev structured-pattern : List ℕ
structured-pattern = 35 ∷ 124 ∷ 35 ∷ 124 ∷ 36 ∷ 124 ∷ 36 ∷ 94 ∷ 36 ∷ 94 ∷ 74 ∷ 67 ∷ 49 ∷ 48 ∷ 124 ∷ 124 ∷ 36 ∷ 94 ∷ 36 ∷ 94 ∷ 36 ∷ 94 ∷ 36 ∷ 124 ∷ 36 ∷ 124 ∷ 124 ∷ 36 ∷ 124 ∷ 124 ∷ 124 ∷ 36 ∷ 13 ∷ []

abbrev single-pattern : List ℕ
single-pattern = 35 ∷ 124 ∷ 35 ∷ 124 ∷ 36 ∷ 124 ∷ 36 ∷ 94 ∷ 36 ∷ 94 ∷ 74 ∷ 67 ∷ 49 ∷ 48 ∷ 124 ∷ 124 ∷ 36 ∷ 124 ∷ 36 ∷ 124 ∷ 124 ∷ 36 ∷ 124 ∷ 124 ∷ 124 ∷ 36 ∷ 13 ∷ []

-- ---- the segments by their patterns, where the values stand in the lines
module _ (d : Delims) (ts : List (List ℕ)) (r : ℕ) (x old : List ℕ) where
  abbrev at : ℕ → ℕ → List ℕ
  at k n = drop n (nth ts k)

  pub specimen-is : (n m a b : Bor (List ℕ)) → n.now ≡ 83 ∷ 80 ∷ 77 ∷ [] → a.now ≡ at 0 9 → b.now ≡ at 1 10
      → Fit r x (woven d specimen-pattern (n ∷ m ∷ a ∷ b ∷ [])) old → Fit r x (numbered_text d m.now Spm ts) old
  unfolding shapes numbered_piece numbered_text filled_sn
  specimen-is n m a b en ea eb p = fit-as (simp (en, ea, eb, append_assoc, append-nil)) p

  pub structured-is : (n m item name type c v j s unit flag status : Bor (List ℕ)) → n.now ≡ 79 ∷ 66 ∷ 88 ∷ [] → item.now ≡ at 0 5 → name.now ≡ at 1 5 → type.now ≡ at 2 5
      → c.now ≡ at 3 8 → v.now ≡ at 4 6 → j.now ≡ at 5 5 → s.now ≡ at 6 7 → unit.now ≡ at 7 5 → flag.now ≡ at 8 5 → status.now ≡ at 9 7 → filled_sn ts ≡ true
      → Fit r x (woven d structured-pattern (n ∷ m ∷ type ∷ item ∷ name ∷ c ∷ v ∷ j ∷ s ∷ unit ∷ flag ∷ status ∷ [])) old → Fit r x (numbered_text d m.now Obx ts) old
  unfolding shapes numbered_piece numbered_text filled_sn value_text
  structured-is n m item name type c v j s unit flag status en e0 e1 e2 e3 e4 e5 e6 e7 e8 e9 h p =
      fit-as (simp (en, e0, e1, e2, e3, e4, e5, e6, e7, e8, e9, h, append_assoc, append-nil)) p

  pub single-is : (n m item name type v unit flag status : Bor (List ℕ)) → n.now ≡ 79 ∷ 66 ∷ 88 ∷ [] → item.now ≡ at 0 5 → name.now ≡ at 1 5 → type.now ≡ at 2 5
      → v.now ≡ at 4 6 → unit.now ≡ at 7 5 → flag.now ≡ at 8 5 → status.now ≡ at 9 7 → filled_sn ts ≡ false
      → Fit r x (woven d single-pattern (n ∷ m ∷ type ∷ item ∷ name ∷ v ∷ unit ∷ flag ∷ status ∷ [])) old → Fit r x (numbered_text d m.now Obx ts) old
  unfolding shapes numbered_piece numbered_text filled_sn value_text
  single-is n m item name type v unit flag status en e0 e1 e2 e4 e7 e8 e9 h p =
      fit-as (simp (en, e0, e1, e2, e4, e7, e8, e9, h, append_assoc, append-nil)) p

-- which of a result's two patterns
pub sn-is : (ts : List (List ℕ)) (type v : List ℕ) (q u b : Bool) → type ≡ drop 5 (nth ts 2) → v ≡ drop 6 (nth ts 4) → q ≡ same type (83 ∷ 78 ∷ []) → u ≡ eqb (length v) 0 → (q && not u) ≡ b → filled_sn ts ≡ b
unfolding shapes filled_sn
sn-is ts type v q u b et ev eq eu h = rw (← et, ← ev, ← eq, ← blank-by v eu) h

-- ---- a segment with its number
module _ (d : Delims) (ts : List (List ℕ)) (n : Name) (number : List ℕ) (k r : ℕ) (x old : List ℕ) (q : Bool) (e : number ≡ decimal k) (eq : q ≡ is n Spm) where
  pub numbered-specimen : q ≡ true → Fit r x (numbered_text d number Spm ts) old → Fit r x (group_segment d (number_is k) n 0 ts) old
  unfolding shapes numbered_piece numbered_text
  numbered-specimen h p = rw (name-is n Spm (sym eq ∙ h)) (fit-as (rw e) p)

  pub numbered-result : q ≡ false → has_number n ≡ true → Fit r x (numbered_text d number Obx ts) old → Fit r x (group_segment d (number_is k) n 0 ts) old
  unfolding shapes numbered_piece numbered_text
  numbered-result h c p =
      let o : is n Obx ≡ true = rw (← eq, h) at c in
      rw (name-is n Obx o) (fit-as (rw e) p)

pub number_short : (n : ℕ) → n ≤ greatest_number → length (decimal n) ≤ 5
unfolding tens
number_short n h = decimal-few 4 n (omega arith)

pub number_is_lem : (r n : ℕ) (x old : List ℕ) → Wrote r x (decimal n) old → take r x ≡ decimal n
number_is_lem r n x old p = front p

pub number_size : (r n : ℕ) (x old : List ℕ) → Wrote r x (decimal n) old → n ≤ greatest_number → length (take r x) ≤ 5
number_size r n x old p h = omega (arith, ap length (front p), number_short n h)

-- ---- a segment by its name
module _ (d : Delims) (ts : List (List ℕ)) (n : Message.Numbers) (m : Name) (r : ℕ) (x old : List ℕ) where
  as-named : (w : List ℕ) (g : Name) → w ≡ group_segment d n g 0 ts → m ≡ g → Fit r x w old → Fit r x (group_segment d n m 0 ts) old
  as-named w g e h p = rw (e ∙ ap (λ (k : Name). group_segment d n k 0 ts) (sym h)) at p

  pub put-msh : m ≡ Msh → Fit r x (group_segment d zeros Msh 0 ts) old → Fit r x (group_segment d n m 0 ts) old
  unfolding shapes
  put-msh = as-named _ Msh refl

  pub put-pid : m ≡ Pid → Fit r x (group_segment d zeros Pid 0 ts) old → Fit r x (group_segment d n m 0 ts) old
  unfolding shapes
  put-pid = as-named _ Pid refl

  pub put-pv1 : m ≡ Pv1 → Fit r x (group_segment d zeros Pv1 0 ts) old → Fit r x (group_segment d n m 0 ts) old
  unfolding shapes
  put-pv1 = as-named _ Pv1 refl

  pub put-obr : m ≡ Obr → Fit r x (group_segment d zeros Obr 0 ts) old → Fit r x (group_segment d n m 0 ts) old
  unfolding shapes
  put-obr = as-named _ Obr refl

  pub put-spm : m ≡ Spm → Fit r x (group_segment d (number_is n.specimen) m 0 ts) old → Fit r x (group_segment d n m 0 ts) old
  unfolding shapes
  put-spm h p = as-named (group_segment d (number_is n.specimen) Spm 0 ts) Spm refl h (rw h at p)

  pub put-obx : m ≡ Obx → Fit r x (group_segment d (number_is n.result) m 0 ts) old → Fit r x (group_segment d n m 0 ts) old
  unfolding shapes
  put-obx h p = as-named (group_segment d (number_is n.result) Obx 0 ts) Obx refl h (rw h at p)

-- an ORC stands in its order, and no group is another
module _ (d : Delims) (ts : List (List ℕ)) (n : Message.Numbers) (m : Name) (old : List ℕ) where
  nothing : Fit 0 old [] old
  unfolding fitted over_front
  nothing = record { ends = refl; is = rw (le-leb 0 (length old) (omega arith)) }

  pub put-none : (m ≡ Orc) ⊎ (m ≡ Other) → Fit 0 old (group_segment d n m 0 ts) old
  unfolding shapes
  put-none (inl h) = rw h nothing
  put-none (inr h) = rw h nothing

pub numbered-spm : (m : Name) → m ≡ Spm → has_number m ≡ true
numbered-spm m e = rw e

pub numbered-obx : (m : Name) → m ≡ Obx → has_number m ≡ true
numbered-obx m e = rw e
