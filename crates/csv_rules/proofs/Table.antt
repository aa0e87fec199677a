-- The table is whole, by computation; the answers are told apart. Assumes nothing.
use mathlib.Core.Path.{◌≡◌, refl, sym, ap, ◌∙◌}
use mathlib.Core.Bool.{true, false}
use mathlib.Core.List.{List, [], ◌∷◌}
use Prim.Native.Nat.{ℕ, ◌≤◌}
use native.Mathlib.Omega.{arith}
use lib.Dec.{eqb}
use lib.ListN.{length}
use Rattle.std.specs.Prelude.{Result, Ok, Err}
use Rattle.rules.specs.declared.Kind.{Kind}
use Rattle.rules.specs.declared.Kind.TheVariants.{TooLong, Header, Bytes, Segment, TooMany, Order, Missing, Null, Repeated, Escape, Long, Value, Status, Differs, NoOrdinal, Zero, SheetTooLong, SheetBytes, Key, LineValue, Overflow, Room}
use Rattle.rules.specs.declared.Refusal.{Refusal}
use Rattle.rules.specs.Told.{Told, gives, refused, number}
use Rattle.rules.specs.All.{rules}
use Rattle.rules.proofs.Logic.{not-given}
use Rattle.rules.proofs.Unique.{refusal-unique}
use Rattle.csv_rules.specs.declared.FileFault.{FileFault}
use Rattle.csv_rules.specs.declared.FileFault.TheVariants.{Quoting, Columns, Unconverted, HeaderDiffers, Returns}
use Rattle.csv_rules.specs.declared.CsvSheets.{CsvSheets}
use Rattle.csv_rules.specs.declared.NotMade.{NotMade}
use Rattle.csv_rules.specs.declared.NotMade.TheVariants.{Unfit, Faulty}
use Rattle.csv_rules.specs.declared.Next.{Next}
use Rattle.csv_rules.specs.Answers.{fault_number, told_count, told_made, SheetCall}
use Rattle.csv_rules.specs.Sheets.{csv_sheet, csv_next}
use Rattle.csv_rules.specs.Columns.{columns, dropped}
use Rattle.csv_rules.specs.Claims.{same_keys, one_to, each_once, uses, EveryKey, EveryColumn, CountedOnce, SheetOnce, NextOnce, SheetLeaves, NextLeaves}

pub every-key : EveryKey
unfolding rules columns same_keys
every-key = refl

pub every-column : EveryColumn
unfolding rules columns dropped one_to each_once uses
every-column = refl

-- ---- the request's numbers are its own
unfoldable numbered : List FileFault → ℕ → FileFault
numbered [] n = Returns
numbered (f ∷ fs) n = elim (eqb (fault_number f) n) [ true ↦ f | false ↦ numbered fs n ]

abbrev faults : List FileFault
faults = Quoting ∷ Columns ∷ Unconverted ∷ HeaderDiffers ∷ Returns ∷ []

fault-back : (f : FileFault) → numbered faults (fault_number f) ≡ f
unfolding numbered
fault-back Quoting = refl
fault-back Columns = refl
fault-back Unconverted = refl
fault-back HeaderDiffers = refl
fault-back Returns = refl

fault-unique : (f g : FileFault) → fault_number f ≡ fault_number g → f ≡ g
fault-unique f g e = sym (fault-back f) ∙ ap (numbered faults) e ∙ fault-back g

low : (k : Kind) → number k ≤ 45
low TooLong = omega arith
low Header = omega arith
low Bytes = omega arith
low Segment = omega arith
low TooMany = omega arith
low Order = omega arith
low Missing = omega arith
low Null = omega arith
low Repeated = omega arith
low Escape = omega arith
low Long = omega arith
low Value = omega arith
low Status = omega arith
low Differs = omega arith
low NoOrdinal = omega arith
low Zero = omega arith
low SheetTooLong = omega arith
low SheetBytes = omega arith
low Key = omega arith
low LineValue = omega arith
low Overflow = omega arith
low Room = omega arith

high : (f : FileFault) → 50 ≤ fault_number f
high Quoting = omega arith
high Columns = omega arith
high Unconverted = omega arith
high HeaderDiffers = omega arith
high Returns = omega arith

apart : {P : Type 0} (r : Refusal) (f : FileFault) → number r.kind ≡ fault_number f → P
apart r f e = absurd (omega (arith, low r.kind, high f, e))

count-once : (a b : Result CsvSheets FileFault) → told_count a ≡ told_count b → a ≡ b
count-once (Ok c) (Ok d) h = cc
count-once (Ok c) (Err f) h = cc
count-once (Err f) (Ok c) h = cc
count-once (Err f) (Err g) h = ap Err (fault-unique f g (cc))

pub counted-once : CountedOnce
counted-once file a b p q = count-once a b (p ∙ sym q)

pub made-once : (a b : Result ℕ NotMade) → told_made a ≡ told_made b → a ≡ b
made-once (Ok n) (Ok m) h = cc
made-once (Ok n) (Err (Unfit s)) h = cc
made-once (Ok n) (Err (Faulty g)) h = cc
made-once (Err (Unfit r)) (Ok m) h = cc
made-once (Err (Unfit r)) (Err (Unfit s)) h = ap (λ (x : Refusal). Err (Unfit x)) (refusal-unique _ r s h)
made-once (Err (Unfit r)) (Err (Faulty g)) h = apart r g (cc)
made-once (Err (Faulty f)) (Ok m) h = cc
made-once (Err (Faulty f)) (Err (Unfit s)) h = apart s f (cc)
made-once (Err (Faulty f)) (Err (Faulty g)) h = ap (λ (x : FileFault). Err (Faulty x)) (fault-unique f g (cc))

call-once : (t : Told (List ℕ)) (before x y : List ℕ) (a b : Result ℕ NotMade) → SheetCall t before a x → SheetCall t before b y → (a ≡ b) × (x ≡ y)
call-once t before x y a b C D = (made-once a b (C.told ∙ sym D.told), C.buffer ∙ sym D.buffer)

pub sheet-once : SheetOnce
sheet-once file which g before x y a b C D = call-once (csv_sheet file which g (length before)) before x y a b C D

abbrev next : Result ℕ NotMade → ℕ → Next
next w n = record { made = w; place = n }

pub next-once : NextOnce
next-once file at g before x y a b C D =
    let w = call-once (csv_next file at g (length before)) before x y a.made b.made C.call D.call in
    (ap (λ z. next z a.place) w.0 ∙ ap (next b.made) (C.place ∙ sym D.place), w.1)

-- ---- what is no sheet leaves the buffer
call-leaves : (t : Told (List ℕ)) (before after : List ℕ) (r : Result ℕ NotMade) → ((n : ℕ) → r ≡ Ok n → ⊥) → SheetCall t before r after → after ≡ before
call-leaves (gives w) before after (Ok n) h C = absurd (h n refl)
call-leaves (gives w) before after (Err (Unfit k)) h C = not-given C.told
call-leaves (gives w) before after (Err (Faulty f)) h C = not-given C.told
call-leaves (refused n s f) before after r h C = C.buffer

pub sheet-leaves : SheetLeaves
sheet-leaves file which g before after r h C = call-leaves (csv_sheet file which g (length before)) before after r h C

pub next-leaves : NextLeaves
next-leaves file at g before after r h C = call-leaves (csv_next file at g (length before)) before after r.made h C.call
