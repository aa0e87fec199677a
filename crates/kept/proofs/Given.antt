-- The claims of specs/Given, proved. Assumes nothing.
use mathlib.Core.Path.{◌≡◌, sym, ap, ◌∙◌}
use mathlib.Core.List.{List}
use mathlib.Core.Option.{some}
use Prim.Native.Nat.{ℕ, suc, ◌≤◌}
use native.Mathlib.Omega.{arith}
use borrow.Author.Tests.{ne_eqb, le-ltb}
use lib.ListN.{length, get_elem?}
use Rattle.std.specs.declared.result.Result.TheVariants.{Ok}
use Rattle.rules.specs.declared.Counts.{Counts}
use Rattle.rules.specs.Told.{gives, told}
use Rattle.rules.specs.Shift.{met}
use Rattle.rules.specs.Frame.{delims_of, Known, known}
use Rattle.rules.specs.View.{view}
use Rattle.rules.specs.Check.{check_told}
use Rattle.rules.specs.Fetch.{span_of, ordinal, fetch_told}
use Rattle.rules.specs.Row.{rows_of}
use Rattle.rules.specs.Sheet.{sheet_of, sheet_told, to_sheet}
use Rattle.rules.proofs.Header.{header}
use Rattle.rules.proofs.Unique.{told-unique}
use Rattle.rules.proofs.Where.{framed, stands-known}
use Rattle.kept.specs.Given.{counts_given, Accepted, PartsGiven, SheetGiven, CheckCalls, FetchCalls, TurnCalls}
use Rattle.kept.proofs.Accepted.{told-kept, frame-told, kept-told}
use Rattle.kept.proofs.Parts.{part-shows}

pub accepted : Accepted
accepted m = (told-kept m, kept-told m)

fetch-gives : (m : List ℕ) (n : Counts) → check_told m ≡ gives n → (i f c : ℕ) (k : Known) → get_elem? (known m) i ≡ some k → 1 ≤ f → 1 ≤ c
    → fetch_told m (suc i) f c ≡ gives (span_of (delims_of m) k f c)
unfolding fetch_told ordinal
fetch-gives m n h i f c k e p q = rw (h, ne_eqb f 0 (λ z. omega arith), ne_eqb c 0 (λ z. omega arith), e, ordinal)

pub parts-given : PartsGiven
parts-given m K i f c k e p q =
    let s = part-shows m (header m K.header) k (stands-known m (framed m (frame-told m K)) i k e) f c in
    record { stretch = span_of (delims_of m) k f c; given = fetch-gives m _ (kept-told m K) i f c k e p q; within = s.within; bytes = s.bytes }

pub sheet-given : SheetGiven
unfolding to_sheet sheet_told
sheet-given m room K l = rw (kept-told m K, le-ltb room (length (sheet_of (rows_of (view m)))) l)

-- ---- of the calls
pub check-calls : CheckCalls
check-calls m r p = (
  (λ c e. (accepted m).0 c (sym p ∙ ap told e)),
  (λ K. told-unique r (Ok (counts_given m)) (p ∙ kept-told m K)),
)

pub fetch-calls : FetchCalls
fetch-calls m m-lies i f c k x x-lies P K e p q =
    let G = parts-given m K i f c k e p q in
    ap met (rw G.given at P.bytes) ∙ G.bytes

pub turn-calls : TurnCalls
turn-calls m before after r C K l =
    let g = sheet-given m (length before) K l in
    (told-unique r (Ok (length (sheet_of (rows_of (view m))))) (rw g at C.told), rw g at C.buffer)
