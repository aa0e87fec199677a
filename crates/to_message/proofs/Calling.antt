-- What the call tells and leaves, case by case. Assumes nothing.
use mathlib.Core.Path.{◌≡◌, refl, sym, ap, ◌∙◌}
use mathlib.Core.Bool.{true, false, ◌||◌}
use mathlib.Core.List.{List}
use Prim.Native.Nat.{ℕ, ◌≤◌, ◌<◌}
use native.Mathlib.Omega.{arith}
use borrow.Author.Tests.{lt-ltb, le-ltb}
use lib.Dec.{ltb}
use lib.ListN.{length}
use Rattle.rules.specs.declared.Delims.{Delims}
use Rattle.rules.specs.declared.Kind.TheVariants.{Overflow, Room}
use Rattle.rules.specs.declared.Refusal.{Refusal}
use Rattle.std.specs.Prelude.{Result, Ok, Err}
use Rattle.rules.specs.Told.{Told, told, gives, refused, refusal, Call}
use Rattle.rules.specs.Lists.{bytes, all, any, has, distinct}
use Rattle.rules.specs.Frame.{delims_ok}
use Rattle.rules.specs.Proper.{Proper}
use Rattle.rules.specs.Row.{Row}
use Rattle.rules.specs.Sheet.{read_sheet}
use Rattle.rules.specs.Message.{base, message_of, message_told, to_message}
use Rattle.rules.specs.Promises.{MessageWritten}
use Rattle.rules.proofs.Logic.{not-given, told_cases, then-gives, called-as}
use Rattle.rules.proofs.Header.{proper}
use Rattle.writer.specs.Over as Over
use Rattle.sheets.specs.Sheet.{refusal_at, readable_told, rows_in}
use Rattle.sheets.proofs.Telling.{read-sheet, readable-short, readable-rows, unreadable}
use Rattle.compose.specs.declared.Size.{Size}
use Rattle.compose.specs.Compose.{size_of, size_told, FaultFree, Pass}
use Rattle.to_message.specs.Call.{measured_told}

-- the writer's delimiters keep the header rule
pub base-proper : (d : Delims) → d ≡ base → Proper d
base-proper d e = rw e (proper base (unfold delims_ok base all any has distinct bytes in refl))

-- a refusal leaves the buffer as it was
kept : (x : List ℕ) (k : Refusal) → Call (refusal k) x (Err k) x
kept x k = record { told = refl; buffer = refl; within = λ n e. let z : ◌≡◌ {A = ℕ} 0 1 = cc in absurd (omega arith) }

-- ---- a sheet s that was read: its length, and its rows
module _ (s : List ℕ) (rows : List Row) (e : read_sheet s ≡ gives rows) where
  read_whole : (readable_told s ≡ gives tt) × (rows_in s ≡ gives rows)
  read_whole = then-gives (readable_told s) (rows_in s) rows (sym (read-sheet s) ∙ e)

  read_short : length s ≤ 65536
  read_short = readable-short s (Ok tt) (sym read_whole.0) refl

-- ---- 44, 45, and the message, where the sheet s gives one of this size
module _ (s : List ℕ) (size : Size) (g : gives size ≡ measured_told s) where
  -- its rows
  measured : {P : Type 0} → ((rows : List Row) → read_sheet s ≡ gives rows → size ≡ size_of base rows → P) → P
  unfolding measured_told
  measured f = told_cases (read_sheet s) (λ rows e. f rows e (cc (rw e at g))) (λ n a b e. not-given (sym (rw e at g)))

  pub measured-short : length s ≤ 65536
  measured-short = measured (λ rows e z. read_short s rows e)

  pub measured-right : FaultFree s
  measured-right = measured (λ rows e z. record { rows = rows; told = (read_whole s rows e).1 })

  module _ (x : List ℕ) where
    module _ (k : Refusal) where
      pub write-44 : (ltb 32768 size.bytes || ltb 512 size.segments) ≡ true → k ≡ refusal_at Overflow 0 → MessageWritten s x (Err k) x
      unfolding to_message message_told
      write-44 h f = measured (λ rows e z. called-as {u = refusal k} (rw (e, rw z at h) (ap refusal (sym f))) (kept x k))

    module _ (h : (ltb 32768 size.bytes || ltb 512 size.segments) ≡ false) where
      pub write-45 : (k : Refusal) → length x < size.bytes → k ≡ refusal_at Room 0 → MessageWritten s x (Err k) x
      unfolding to_message message_told
      write-45 k l f = measured (λ rows e z. called-as {u = refusal k} (rw (e, rw z at h, lt-ltb (length x) _ (rw z at l)) (ap refusal (sym f))) (kept x k))

      pub write-all : size.bytes ≤ length x → (d : Delims) → d ≡ base → (p : Result Size Refusal) (y : List ℕ) → Pass d s x p y → MessageWritten s x (Ok size.bytes) y
      unfolding to_message message_told Over.over_front
      write-all l d b p y t =
          let t : Pass base s x p y = rw b at t in
          measured (λ rows e z. called-as {u = gives (message_of base rows)} (rw (e, rw z at h, le-ltb (length x) _ (rw z at l)))
          (record { told = ap (λ (v : Size). gives v.bytes) z; buffer = t.wrote rows (read_whole s rows e).1 (rw z at l); within = λ n w. let q : size.bytes ≡ n = cc in rw q at l }))

-- ---- the call
-- a sheet that is judged to be wrong
pub call-refused : (s : List ℕ) (k : Refusal) → told (Err k) ≡ measured_told s → (x : List ℕ) {r : Result ℕ Refusal} → r ≡ Err k → MessageWritten s x r x
unfolding to_message measured_told
call-refused s k t x e =
    rw e (called-as (told_cases (read_sheet s) (λ rows e. not-given (rw e at t)) (λ n a b e. rw e (same n a b (rw e at t)))) (kept x k))
  where
    same : (n a b : ℕ) → ◌≡◌ {A = Told Size} (refusal k) (refused n a b) → ◌≡◌ {A = Told (List ℕ)} (refused n a b) (refusal k)
    same n a b h = cc

-- ---- 40, 41, and the first pass over the sheet's groups: j is what reading the sheet tells
module _ (s : List ℕ) (j : Result (Unit {0}) Refusal) (t : told j ≡ readable_told s) where
  pub measure-not : (k : Refusal) → j ≡ Err k → {r : Result Size Refusal} → r ≡ Err k → told r ≡ measured_told s
  unfolding measured_told
  measure-not k f e = rw (e, unreadable s j t k f)

  pub measure-all : j ≡ Ok tt → (d : Delims) → d ≡ base → (z : List ℕ) (p : Result Size Refusal) (y : List ℕ) → Pass d s z p y → told p ≡ measured_told s
  unfolding measured_told
  measure-all f d b z p y w = w.told ∙ ap (λ (v : Delims). size_told v s) b ∙ sym (rw (readable-rows s j t f))
