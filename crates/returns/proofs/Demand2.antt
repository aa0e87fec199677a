-- The claims of demand 2, proved. Assumes nothing.
use mathlib.Core.Path.{◌≡◌, refl, sym, ◌∙◌}
use mathlib.Core.Bool.{true, cond, ◌||◌}
use mathlib.Core.List.{List, [], ◌∷◌, ◌++◌}
use Prim.Native.Nat.{ℕ, ◌+◌}
use Prim.Native.String.{String}
use native.Mathlib.Omega.{arith}
use borrow.Author.Tests.{le-ltb}
use lib.Dec.{ltb}
use lib.ListN.{length, take, drop}
use Rattle.std.specs.declared.result.Result.TheVariants.{Ok}
use Rattle.rules.specs.declared.Delims.{Delims}
use Rattle.rules.specs.declared.Name.{Name}
use Rattle.rules.specs.declared.Name.TheVariants.{Spm, Obr, Obx}
use Rattle.rules.specs.Told.{Told, gives, refused, accepted, length_of, Call}
use Rattle.rules.specs.Lists.{bytes, starts, all, any, has, distinct, count}
use Rattle.rules.specs.Frame.{delims_ok, is}
use Rattle.rules.specs.View.{view}
use Rattle.rules.specs.Check.{check_told}
use Rattle.rules.specs.Row.{line, lines, Row, header, patient, visit, specimen, order, result, group_of, values, rows_of}
use Rattle.rules.specs.Sheet.{key_of, lines_text, row_lines, sheet_of, read_sheet, sheet_told, to_sheet}
use Rattle.rules.specs.Message.{base, written, message_of, message_told, to_message}
use Rattle.rules.proofs.Logic.{cases, told_cases, guard, not-given}
use Rattle.rules.proofs.Lists.{take_own}
use Rattle.rules.proofs.Unique.{told-unique}
use Rattle.returns.specs.Demand2.{to_message_by, lines_with, line_counts, Only44Or45, given, overflow, short, SheetIsWritten, SheetReturns, MessageReturns, SheetCalls, MessageCalls}
use Rattle.returns.proofs.Messages.{counted, rows-return}
use Rattle.returns.proofs.Sheets.{SheetIs, sheet-is, sheet-read}
use Rattle.returns.proofs.Accepts.{wrote, segments-short, message-accepted}
use Rattle.returns.proofs.Again.{rows-of-accepted}

-- ---- the counts of a sheet's lines are those of its rows
abbrev begins : String → List (List ℕ) → ℕ
begins key ts = count (starts (bytes key)) ts

-- a row of the group g has one line that begins with the key, and other rows have none
abbrev OneLine : String → Name → Row → List (List ℕ) → Type 0
OneLine key g r ts = begins key (lines_text (lines (group_of r)) (values r) ++ ts) ≡ cond (is g (group_of r)) 1 0 + begins key ts

one_line : (r : Row) (ts : List (List ℕ)) → OneLine "specimen=" Spm r ts × OneLine "order=" Obr r ts × OneLine "item=" Obx r ts
unfolding count starts bytes lines_text lines line key_of values
one_line (header a b c) ts = (omega arith, omega arith, omega arith)
one_line (patient a b c d e f g) ts = (omega arith, omega arith, omega arith)
one_line (visit a) ts = (omega arith, omega arith, omega arith)
one_line (specimen a b) ts = (omega arith, omega arith, omega arith)
one_line (order a b) ts = (omega arith, omega arith, omega arith)
one_line (result a b c d e f g h k l) ts = (omega arith, omega arith, omega arith)

lines-counted : (key : String) (g : Name) → ((r : Row) (ts : List (List ℕ)) → OneLine key g r ts) → (rows : List Row) → begins key (row_lines rows) ≡ counted g rows
unfolding row_lines count
lines-counted key g h [] = refl
lines-counted key g h (r ∷ rs) = rw (h r (row_lines rs), lines-counted key g h rs)

counts_of : (s : List ℕ) (rows : List Row) → SheetIs s rows → line_counts s ≡ accepted (counted Spm rows) (counted Obr rows) (counted Obx rows)
unfolding line_counts lines_with
counts_of s rows S =
    rw (
      S.lines,
      lines-counted "specimen=" Spm (λ r ts. (one_line r ts).0) rows,
      lines-counted "order=" Obr (λ r ts. (one_line r ts).1) rows,
      lines-counted "item=" Obx (λ r ts. (one_line r ts).2) rows,
    )

-- ---- from a sheet
told-only : (d : Delims) (rows : List Row) (room : ℕ) → Only44Or45 (message_told d rows room)
unfolding message_told
told-only d rows room =
    cases (ltb 32768 (length (message_of d rows)) || ltb 512 (length (written d rows)))
    (λ e. overflow (rw e))
    (λ e. cases (ltb room (length (message_of d rows))) (λ f. short (rw (e, f))) (λ f. given (message_of d rows) (rw (e, f))))

pub sheet-is-written : SheetIsWritten
unfolding to_message_by
sheet-is-written d s rows room h = rw h (told-only d rows room)

-- the rows of the sheet that was written
rows_told_lem : (d : Delims) (s m : List ℕ) (room : ℕ) {P : Type 0} → to_message_by d s room ≡ gives m → ((rows : List Row) → read_sheet s ≡ gives rows → message_told d rows room ≡ gives m → P) → P
unfolding to_message_by
rows_told_lem d s m room h f = told_cases (read_sheet s) (λ rows e. f rows e (rw e at h)) (λ a b c e. not-given (rw e at h))

pub sheet-returns : SheetReturns
unfolding to_sheet sheet_told
sheet-returns d ok s m room h =
    rows_told_lem d s m room h
    (λ rows hs hm.
    let S = sheet-is s rows hs in
    let w = wrote d rows room m hm in
    let c = message-accepted d ok rows S.ok S.tidy w.bytes_fit w.segments-fit in
    record {
      counts = rw (w.is, c) (sym (counts_of s rows S));
      under850 = rw w.is (segments-short d ok rows S.ok S.tidy w.bytes_fit w.segments-fit);
      sheet = λ room' l. rw (w.is, c, rows-return d ok rows S.ok S.tidy, S.is, le-ltb room' (length s) l);
    })

-- ---- from a message
pub message-returns : MessageReturns
unfolding to_sheet sheet_told
message-returns m c h =
    let rows = rows_of (view m) in
    let R = rows-of-accepted m c h in
    let r = sheet-read rows R.ok R.tidy (omega (arith, R.size)) in
    record {
      sheet = sheet_of rows;
      rows = rows;
      given = λ room. rw h;
      under57000 = R.size;
      read = r;
      again = λ d ok n room k.
          rows_told_lem d (sheet_of rows) n room k
          (λ rs hs hm.
          let e : rs ≡ rows = cc in
          let w = wrote d rows room n (rw e at hm) in
          let a = message-accepted d ok rows R.ok R.tidy w.bytes_fit w.segments-fit in
          (rw (w.is, a) R.counts, λ room'. rw (w.is, a, rows-return d ok rows R.ok R.tidy, h)));
    }

-- ---- of the calls
pub base_ok : delims_ok base ≡ true
unfolding delims_ok base all has any bytes distinct
base_ok = refl

pub by-base : (s : List ℕ) (room : ℕ) → to_message_by base s room ≡ to_message s room
unfolding to_message to_message_by
by-base s room = refl

-- what a call that wrote has written
called : (t : Told (List ℕ)) (n : ℕ) (b a : List ℕ) {P : Type 0} → Call t b (Ok n) a → ((w : List ℕ) → t ≡ gives w → take n a ≡ w → P) → P
called t n b a C f =
    told_cases t
    (λ w e.
    let l : gives n ≡ gives (length w) = rw e at C.told in
    let k : n ≡ length w = cc in
    let x : a ≡ w ++ drop (length w) b = rw e at C.buffer in
    f w e (rw (x, k) (take_own w (drop (length w) b))))
    (λ x y z e. let r : gives n ≡ refused x y z = rw e at C.told in not-given (sym r))

pub sheet-calls : SheetCalls
sheet-calls s out out' back back' n r C D fits =
    called (to_message s (length out)) n out out' C
    (λ m e t.
    let R = sheet-returns base base_ok s m (length out) (by-base s (length out) ∙ e) in
    let g : to_sheet (take n out') (length back) ≡ gives s = rw t (R.sheet (length back) fits) in
    (rw t R.counts, told-unique r (Ok (length s)) (rw g at D.told), rw g at D.buffer))

-- the length of what only 44 or 45 refuses
only-length : (t : Told (List ℕ)) → Only44Or45 t → Only44Or45 (length_of t)
only-length t (given w e) = given (length w) (rw e)
only-length t (overflow e) = overflow (rw e)
only-length t (short e) = short (rw e)

not-turned : (m s : List ℕ) (room : ℕ) {x y z : ℕ} {P : Type 0} → check_told m ≡ refused x y z → to_sheet m room ≡ gives s → P
unfolding to_sheet
not-turned m s room h e = not-given (rw h at e)

pub message-calls : MessageCalls
message-calls m out out' back back' n r C D =
    called (to_sheet m (length out)) n out out' C
    (λ s e t.
    told_cases (check_told m)
    (λ c h.
    let T = message-returns m c h in
    let g = guard 45 0 0 (ltb (length out) (length T.sheet)) (gives T.sheet) s (sym (T.given (length out)) ∙ e) in
    let q : take n out' ≡ T.sheet = cc g.1 in
    let o : Only44Or45 (to_message (take n out') (length back)) = rw (q, ← by-base T.sheet (length back)) (sheet-is-written base T.sheet T.rows (length back) T.read) in (
      rw D.told (only-length (to_message (take n out') (length back)) o),
      λ k w.
          called (to_message (take n out') (length back)) k back back' (rw w at D)
          (λ x f u.
          let A = T.again base base_ok x (length back) (by-base T.sheet (length back) ∙ (rw q at f)) in
          (rw u (A.0 ∙ sym h), λ room. rw u (A.1 room))),
    ))
    (λ x y z h. not-turned m s (length out) h e))
