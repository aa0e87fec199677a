-- A sheet that may be read: 40 and 41, its end, and what is told of it then. Assumes nothing.
use mathlib.Core.Path.{◌≡◌, refl, sym, ap, ◌∙◌}
use mathlib.Core.Bool.{Bool, true, false, not, ◌&&◌}
use mathlib.Core.List.{List, [], ◌∷◌}
use Prim.Native.Nat.{ℕ, suc, ◌-◌, ◌≤◌, ◌<◌}
use native.Mathlib.Omega.{arith}
use borrow.Author.Tests.{lt-ltb, le-ltb, ltb-false}
use lib.Dec.{eqb, ltb}
use lib.ListN.{length, get_or}
use Rattle.rules.specs.declared.Kind.TheVariants.{SheetTooLong, SheetBytes}
use Rattle.rules.specs.declared.Refusal.{Refusal}
use Rattle.std.specs.Prelude.{Result, Ok, Err}
use Rattle.rules.specs.Told.{Told, told, refusal, ◌>>◌}
use Rattle.rules.specs.Lists.{empty, split, onto, last, front, later}
use Rattle.rules.specs.Shift.{keeps}
use Rattle.rules.specs.Sheet.{read_sheet}
use Rattle.rules.proofs.Logic.{cases, not-true, not-false, guard}
use Rattle.rules.proofs.Split.{split-here, split-there, split-cons, last-split}
pub use Rattle.lines.proofs.Laws.{exit-is}
use Rattle.sheets.specs.Sheet.{refusal_at, readable_told, rows_in, groups_told, judged_told}

-- ---- 40 and 41
module _ (s : List ℕ) where
  pub read-40 : (k : Refusal) → 65536 < length s → k ≡ refusal_at SheetTooLong 0 → told {A = Unit {0}} (Err k) ≡ readable_told s
  unfolding readable_told
  read-40 k l f = rw (lt-ltb 65536 (length s) l) (ap (λ (x : Refusal). told {A = Unit {0}} (Err x)) f)

  module _ (l : length s ≤ 65536) (q : Bool) (e : q ≡ keeps 0x0A s) where
    pub read-41 : (k : Refusal) → not q ≡ true → k ≡ refusal_at SheetBytes 0 → told {A = Unit {0}} (Err k) ≡ readable_told s
    unfolding readable_told
    read-41 k h f = rw (le-ltb 65536 (length s) l, ← e, not-true q h) (ap (λ (x : Refusal). told {A = Unit {0}} (Err x)) f)

    module _ (h : not q ≡ false) (u : Bool) (g : u ≡ empty (last (split 0x0A s))) where
      pub read-41-end : (k : Refusal) → not u ≡ true → k ≡ refusal_at SheetBytes 0 → told {A = Unit {0}} (Err k) ≡ readable_told s
      unfolding readable_told
      read-41-end k w f = rw (le-ltb 65536 (length s) l, ← e, not-false q h, ← g, not-true u w) (ap (λ (x : Refusal). told {A = Unit {0}} (Err x)) f)

      pub read_right : not u ≡ false → told (Ok tt) ≡ readable_told s
      unfolding readable_told
      read_right w = rw (le-ltb 65536 (length s) l, ← e, not-false q h, ← g, not-false u w)

  -- ---- what is told of a sheet: 40 and 41, then its rows
  pub read-sheet : read_sheet s ≡ (readable_told s >> rows_in s)
  unfolding read_sheet readable_told
  read-sheet =
      cases (ltb 65536 (length s))
      (λ a. rw a)
      (λ a. cases (not (keeps 0x0A s && empty (last (split 0x0A s)))) (λ b. rw (a, b)) (λ b. rw (a, b)))

  -- j is what reading it tells
  module _ (j : Result (Unit {0}) Refusal) (t : told j ≡ readable_told s) where
    pub readable-short : j ≡ Ok tt → length s ≤ 65536
    unfolding readable_told
    readable-short f = ltb-false 65536 (length s) (guard 40 0 0 (ltb 65536 (length s)) _ tt (sym t ∙ ap told f)).0

    pub readable-rows : j ≡ Ok tt → read_sheet s ≡ rows_in s
    readable-rows f = read-sheet ∙ ap (λ (x : Told (Unit {0})). x >> rows_in s) (sym t ∙ ap told f)

    pub unreadable : (k : Refusal) → j ≡ Err k → read_sheet s ≡ refusal k
    unreadable k f = read-sheet ∙ ap (λ (x : Told (Unit {0})). x >> rows_in s) (sym t ∙ ap told f)

    -- ---- the whole
    pub judged-wrong : (k : Refusal) → j ≡ Err k → {r : Result (Unit {0}) Refusal} → r ≡ Err k → told r ≡ judged_told s
    unfolding judged_told
    judged-wrong k f e = rw (e, unreadable k f)

    pub judged-right : j ≡ Ok tt → (r : Result (Unit {0}) Refusal) → told r ≡ groups_told s → told r ≡ judged_told s
    unfolding judged_told groups_told
    judged-right f r g = rw (readable-rows f) g

-- ---- the end of a sheet
last_more : (x y : ℕ) (p q : List ℕ) (ps : List (List ℕ)) → empty (last ((x ∷ p) ∷ ps)) ≡ empty (last ((y ∷ q) ∷ ps))
unfolding last empty
last_more x y p q [] = refl
last_more x y p q (r ∷ ps) = refl

same_end : (x y : ℕ) (s : List ℕ) → empty (last (onto x (split 0x0A (y ∷ s)))) ≡ empty (last (split 0x0A (y ∷ s)))
unfolding onto
same_end x y s =
    cases (eqb y 0x0A)
    (λ e. rw (split-here 0x0A y s e, last-split 0x0A (x ∷ []) s, last-split 0x0A [] s))
    (λ e. rw (split-there 0x0A y s e, split-cons 0x0A s) (last_more x y (y ∷ front 0x0A s) (front 0x0A s) (later 0x0A s)))

ends_at : (x : ℕ) (s : List ℕ) → empty (last (split 0x0A (x ∷ s))) ≡ eqb (get_or (x ∷ s) (length s) 0) 0x0A
ends_at x [] =
    cases (eqb x 0x0A)
    (λ e. rw (split-here 0x0A x [] e, e) (unfold split last empty in refl))
    (λ e. rw (split-there 0x0A x [] e, e) (unfold split onto last empty in refl))
ends_at x (y ∷ s) =
    cases (eqb x 0x0A)
    (λ e. rw (split-here 0x0A x (y ∷ s) e, last-split 0x0A [] (y ∷ s)) (ends_at y s))
    (λ e. rw (split-there 0x0A x (y ∷ s) e, same_end x y s) (ends_at y s))

pub ends-none : (s : List ℕ) → length s ≡ 0 → true ≡ empty (last (split 0x0A s))
unfolding split last empty
ends-none [] h = refl
ends-none (x ∷ s) h = absurd (omega arith)

pub ends_some : (s : List ℕ) → (length s ≡ 0 → ⊥) → eqb (get_or s (length s - 1) 0) 0x0A ≡ empty (last (split 0x0A s))
ends_some [] h = absurd (h refl)
ends_some (x ∷ s) h = let z : suc (length s) - 1 ≡ length s = omega arith in rw z (sym (ends_at x s))
