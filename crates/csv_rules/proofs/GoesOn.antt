-- A sheet that comes out of a file is accepted: so demand 2 holds of it. Assumes nothing.
use mathlib.Core.Path.{◌≡◌, ◌∙◌}
use mathlib.Core.List.{List}
use Prim.Native.Nat.{ℕ}
use lib.Dec.{ltb}
use lib.ListN.{length, drop}
use Rattle.rules.specs.Told.{gives}
use Rattle.rules.specs.Fetch.{ordinal}
use Rattle.rules.specs.Row.{Row}
use Rattle.rules.specs.Sheet.{sheet_of, read_sheet}
use Rattle.rules.specs.Message.{base}
use Rattle.rules.proofs.Logic.{told_cases, guard, not-given}
use Rattle.returns.proofs.Demand2.{sheet-is-written, sheet-returns, base_ok, by-base}
use Rattle.csv_rules.specs.Quote.{cut, is_broken}
use Rattle.csv_rules.specs.Sheets.{Run, Given, sheet_rows, run_told, csv_told, csv_sheet, first_told, runs_from, csv_next}
use Rattle.csv_rules.specs.Claims.{GoesOn, SheetGoesOn, NextGoesOn}

accepted-goes-on : (s : List ℕ) (rows : List Row) → read_sheet s ≡ gives rows → GoesOn s
accepted-goes-on s rows h =
    record {
      written = λ room. rw (← by-base s room) (sheet-is-written base s rows room h);
      returned = λ m room e. sheet-returns base base_ok s m room (by-base s room ∙ e);
    }

sheet-goes-on-from : (g : Given) (u : Run) (room : ℕ) (s : List ℕ) → run_told g u room ≡ gives s → GoesOn s
unfolding run_told
sheet-goes-on-from g u room s h =
    let t = sheet_of (sheet_rows g u) in
    told_cases (read_sheet t)
    (λ rows e.
    let q = guard 45 0 0 (ltb room (length t)) (gives t) s (rw e at h) in
    let i : t ≡ s = cc q.1 in
    accepted-goes-on s rows (rw i at e))
    (λ a b c e. not-given (rw e at h))

pub sheet-goes-on : SheetGoesOn
unfolding csv_sheet
sheet-goes-on file which g room s h =
    told_cases (csv_told file)
    (λ us e.
    told_cases (ordinal us which)
    (λ u o. sheet-goes-on-from g u room s (rw (e, o) at h))
    (λ a b c o. not-given (rw (e, o) at h)))
    (λ a b c e. not-given (rw e at h))

pub next-goes-on : NextGoesOn
unfolding csv_next
next-goes-on file at g room s h =
    told_cases (first_told (is_broken (cut (drop at file))) (runs_from file at))
    (λ u e. sheet-goes-on-from g u room s (rw e at h))
    (λ a b c e. not-given (rw e at h))
