-- The laws of the look back. Assumes nothing.
use mathlib.Core.Path.{◌≡◌, refl, sym, ap, ◌∙◌}
use mathlib.Core.Bool.{Bool, true, false, cond, ◌&&◌}
use mathlib.Core.List.{List, ◌∷◌}
use Prim.Native.Nat.{ℕ, ◌+◌, ◌<◌}
use borrow.Author.Tests.{eq-eqb, ne_eqb}
use lib.Dec.{eqb, ltb}
use lib.ListN.{length}
use Rattle.rules.specs.declared.Name.TheVariants.{Pid, Pv1}
use Rattle.rules.proofs.Logic.{never}
use Rattle.csv_rules.specs.Quote.{Items, FileLine}
use Rattle.csv_rules.specs.Columns.{number_of}
use Rattle.csv_rules.specs.Sheets.{same_number}
use Rattle.csv_rows.specs.declared.RowItems.{RowItems}
use Rattle.csv_rows.specs.Rows.{lines_from, items_of, Firsts, RowIs}
use Rattle.csv_rows.proofs.Laws.{row-lines}
use Rattle.csv_rows.proofs.Tied.{tied-raw, tied-number}
use Rattle.csv_repeats.specs.declared.Standing.{Standing}
use Rattle.csv_repeats.specs.declared.Standing.TheVariants.{Same, New, Back, Differs}
use Rattle.csv_places.specs.declared.Slot.{Slot}
use Rattle.csv_places.specs.declared.Slot.TheVariants.{Held, Free, Crowded}
use Rattle.csv_places.specs.Places.{items_at, hash_of, RowThere, Places, SlotIs, keeps_place, with_place}
use Rattle.csv_places.proofs.Laws.{items-there, row_inside}
use Rattle.csv_repeats.specs.Looks.{same_header, looked_for, HeldThere, Looked, Stands, WithRow, is_differs, is_back, begun}
use Rattle.csv_repeats.proofs.Standings.{Alike}

-- ---- the first line that is named
pub back-first : (returns at : ℕ) (s : Standing) (t : Bool) → t ≡ is_back s → (eqb returns 0 && t) ≡ true → at ≡ cond (eqb returns 0 && is_back s) at returns
back-first returns at s t e h = rw (← e, h)

pub back-kept : (returns at : ℕ) (s : Standing) (t : Bool) → t ≡ is_back s → (eqb returns 0 && t) ≡ false → returns ≡ cond (eqb returns 0 && is_back s) at returns
back-kept returns at s t e h = rw (← e, h)

-- ---- a row as it lies in the file
pub row-alike : (r : RowItems) (items : Items) → Firsts r items → Alike (items_of r) items
row-alike r items P = record {
  number = tied-number r items P;
  pid = tied-raw r items P Pid;
  pv1 = tied-raw r items P Pv1;
}

-- ---- a row that is kept of a number
module _ (f : List ℕ) (p : ℕ) (T : RowThere f p) where
  pub there-inside : p < length f
  there-inside = row_inside f p T

  pub there-found : (q : RowItems) (size n : ℕ) (good : Bool) → RowIs f p true q size n good → (r : Items) (g : Bool) → g ≡ same_header r (items_of q)
      → (s : Standing) → s ≡ cond g Back Differs → s ≡ cond (same_header r (items_at f p)) Back Differs
  there-found q size n good R r g e s k =
      let w : record { items = R.items; size = size } ∷ lines_from f (p + size) ≡ T.row ∷ T.others = sym (row-lines f p true q size n good R) ∙ T.is in
      let o : record { items = R.items; size = size } ≡ T.row = cc in
      let i : R.items ≡ items_at f p = ap (λ (l : FileLine). l.items) o ∙ sym (items-there f p T) in
      let a = row-alike q R.items R.lies in
      k ∙ rw (e, a.pid, a.pv1, i)

pub held-there : (f places : List ℕ) (r : Items) (s : Slot) → Places f places → SlotIs f places r s → HeldThere f s
unfolding SlotIs HeldThere
held-there f places r (Held p) P H = rw H.is at (P.rows H.slot (λ z. H.some (sym H.is ∙ z)))
held-there f places r (Free i) P H = tt
held-there f places r Crowded P H = tt

-- ---- a standing found
module _ (f : List ℕ) (r : Items) (slot : Slot) (s : Standing) where
  pub held-for : (p : ℕ) → slot ≡ Held p → s ≡ cond (same_header r (items_at f p)) Back Differs → s ≡ looked_for f r slot
  unfolding looked_for
  held-for p h e = e ∙ rw h

pub free-for : (f : List ℕ) (r : Items) (slot : Slot) (i : ℕ) → slot ≡ Free i → New ≡ looked_for f r slot
unfolding looked_for
free-for f r slot i h = rw h

pub crowded-for : (f : List ℕ) (r : Items) (slot : Slot) → slot ≡ Crowded → New ≡ looked_for f r slot
unfolding looked_for
crowded-for f r slot h = rw h

pub held_at : (f : List ℕ) (slot : Slot) (p : ℕ) → HeldThere f slot → slot ≡ Held p → RowThere f p
unfolding HeldThere
held_at f slot p h e = rw e at h

module _ (f : List ℕ) (at : ℕ) (r : Items) (places : List ℕ) (unkept : ℕ) (slot : Slot) (S : SlotIs f places r slot) (s : Standing) (e : s ≡ looked_for f r slot) where
  pub looked-kept : unkept ≡ 0 → (after : List ℕ) (hash : ℕ) → hash ≡ hash_of (number_of r) → after ≡ with_place places slot at hash → (k : Bool) → k ≡ keeps_place slot at → (o : ℕ) → o ≡ cond k 0 at
      → Looked f at r places unkept s o after
  looked-kept z after hash w t k h o u = record { slot = slot; slot_is = S; is = e; table = rw (z, ← w) t; unkept-is = u ∙ rw (z, h) }

  pub looked-left : (unkept ≡ 0 → ⊥) → Looked f at r places unkept s unkept places
  looked-left z = let y = ne_eqb unkept 0 z in record { slot = slot; slot_is = S; is = e; table = rw y; unkept-is = rw y }

module _ (f : List ℕ) (first at : ℕ) (before row : Items) (places : List ℕ) (unkept : ℕ) (t : Bool) (e : t ≡ same_number before row) where
  pub stands_same : (ltb first at && t) ≡ true → (g : Bool) → g ≡ same_header row before → (s : Standing) → s ≡ cond g Same Differs
      → Stands f first at before row places unkept s unkept places
  stands_same w g o s p = record {
    same = λ h. (p ∙ rw o, refl, refl);
    other = λ h. never (sym (rw e at w) ∙ h);
  }

  pub stands-other : (ltb first at && t) ≡ false → (s : Standing) (o : ℕ) (after : List ℕ) → Looked f at row places unkept s o after
      → Stands f first at before row places unkept s o after
  stands-other w s o after L = record { same = λ h. never (sym h ∙ rw e at w); other = λ h. L }

-- ---- 53 and 54 with a row more
pub line_stays : (unkept after line k : ℕ) → after ≡ unkept → line ≡ cond (eqb after unkept) line k
line_stays unkept after line k h = rw (eq-eqb after unkept h)

pub line-here : (unkept after line k : ℕ) → (after ≡ unkept → ⊥) → k ≡ cond (eqb after unkept) line k
line-here unkept after line k h = rw (ne_eqb after unkept h)

pub with-is : (f : List ℕ) (first at : ℕ) (before row : Items) (places : List ℕ) (unkept line k returns count : ℕ) (s : Standing) (o : ℕ) (after : List ℕ)
    → Stands f first at before row places unkept s o after
    → (d r n m : ℕ) → d ≡ cond (is_differs s) k 0 → r ≡ cond (eqb returns 0 && is_back s) k returns → n ≡ begun s → m ≡ cond (eqb o unkept) line k
    → WithRow f first at before row places unkept line k returns count o m d r (count + n) after
with-is f first at before row places unkept line k returns count s o after S d r n m e b u w =
    record { standing = s; stands = S; differs = e; back = b; runs = ap (λ (x : ℕ). count + x) u; line-is = w }
