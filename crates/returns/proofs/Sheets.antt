-- A sheet that is read is the sheet of its rows, and the rows are valid; valid rows are read back from their sheet. Assumes nothing.
use mathlib.Core.Path.{◌≡◌, refl, sym}
use mathlib.Core.Bool.{true, not, ◌&&◌}
use mathlib.Core.List.{List, [], ◌∷◌, ◌++◌, map}
use Prim.Native.Nat.{ℕ, ◌≤◌}
use native.Mathlib.Omega.{arith}
use borrow.Author.Tests.{le-ltb}
use lib.Dec.{ltb}
use lib.ListN.{length}
use Rattle.rules.specs.declared.Name.{Name}
use Rattle.rules.specs.Told.{gives}
use Rattle.rules.specs.Lists.{bytes, empty, split, last, ended}
use Rattle.rules.specs.Shift.{step, walk, keeps}
use Rattle.rules.specs.Frame.{Reached, start}
use Rattle.rules.specs.Row.{Line, line, lines, Row, group_of, values}
use Rattle.rules.specs.Sheet.{key_of, lines_text, row_lines, sheet_of, line_ok, past_group, lines_of, read_sheet, good, valid}
use Rattle.rules.proofs.Logic.{never, both, not-false, guard}
use Rattle.rules.proofs.Reading.{rows-read, rows_back}
use Rattle.rules.proofs.Split.{frees, ended-lines, split-ended, but_last-snoc, last_snoc, split-frees, but_last-frees}
use Rattle.rules.proofs.Names.{in_names}
use Rattle.rules.proofs.Clean.{Cleans, clean-append, clean-rest, cleans-append, cleans-parts, end-0A, cleans-free, ended-cleans, cleans-ended}
use Rattle.returns.proofs.Messages.{first, Tidy}

abbrev keys : List Line → List (List ℕ)
keys ls = map key_of ls

-- ---- the values of a line keep the shift rule as the line does
keys-clean : (g : Name) → Cleans (keys (lines g))
unfolding lines line key_of bytes walk step
keys-clean g =
    in_names (λ g. Cleans (keys (lines g)))
    (refl, (refl, (refl, (refl, tt)))) (refl, (refl, (refl, (refl, (refl, (refl, (refl, tt))))))) (refl, tt) (refl, (refl, tt)) (refl, (refl, tt)) tt
    (refl, (refl, (refl, (refl, (refl, (refl, (refl, (refl, (refl, (refl, tt)))))))))) tt g

values-clean : (ls : List Line) (vs ws : List (List ℕ)) → good ls vs ws ≡ true → Cleans (keys ls) → Cleans (lines_text ls ws) → Cleans ws
unfolding good lines_text
values-clean [] vs [] g k h = tt
values-clean [] vs (w ∷ ws) g k h = never (sym g)
values-clean (l ∷ ls) vs [] g k h = tt
values-clean (l ∷ ls) vs (w ∷ ws) g k h =
    (clean-rest (key_of l) w k.0 h.0, values-clean ls (vs ++ (w ∷ [])) ws (both (line_ok l vs w) (good ls (vs ++ (w ∷ [])) ws) g).1 k.1 h.1)

text-clean : (ls : List Line) (ws : List (List ℕ)) → Cleans (keys ls) → Cleans ws → Cleans (lines_text ls ws)
unfolding lines_text
text-clean [] ws k h = tt
text-clean (l ∷ ls) [] k h = tt
text-clean (l ∷ ls) (w ∷ ws) k h = (clean-append (key_of l) w k.0 h.0, text-clean ls ws k.1 h.1)

lines-tidy : (a : Reached) (rows : List Row) → valid a rows ≡ true → Cleans (row_lines rows) → Tidy rows
unfolding row_lines
lines-tidy a [] v h = tt
lines-tidy a (r ∷ rs) v h =
    let f = first a r rs v in
    let c = cleans-parts (lines_text (lines (group_of r)) (values r)) (row_lines rs) h in
    (values-clean (lines (group_of r)) [] (values r) f.holds (keys-clean (group_of r)) c.0, lines-tidy (past_group a (group_of r)) rs f.rest c.1)

tidy-lines : (rows : List Row) → Tidy rows → Cleans (row_lines rows)
unfolding row_lines
tidy-lines [] t = tt
tidy-lines (r ∷ rs) t =
    cleans-append (lines_text (lines (group_of r)) (values r)) (row_lines rs) (text-clean (lines (group_of r)) (values r) (keys-clean (group_of r)) t.0) (tidy-lines rs t.1)

-- ---- THE SHEET'S RETURN
pub record SheetIs (s : List ℕ) (rows : List Row) : Type 0 where
  pub is : sheet_of rows ≡ s
  pub lines : lines_of s ≡ row_lines rows
  pub ok : valid start rows ≡ true
  pub tidy : Tidy rows

pub sheet-is : (s : List ℕ) (rows : List Row) → read_sheet s ≡ gives rows → SheetIs s rows
unfolding read_sheet lines_of sheet_of
sheet-is s rows h =
    let g0 = guard 40 0 0 (ltb 65536 (length s)) _ rows h in
    let g1 = guard 41 0 0 (not (keeps 0x0A s && empty (last (split 0x0A s)))) _ rows g0.1 in
    let b = both (keeps 0x0A s) (empty (last (split 0x0A s))) (not-false (keeps 0x0A s && empty (last (split 0x0A s))) g1.0) in
    let B = rows_back (lines_of s) start 0 1 rows (omega arith) g1.1 in
    let c : lines_of s ≡ row_lines rows = B.lines in
    let i : ended 0x0A (row_lines rows) ≡ s = rw (← c) (ended-lines 0x0A s b.1) in
    let f : frees 0x0A (row_lines rows) ≡ true = rw (← c) (but_last-frees 0x0A (split 0x0A s) (split-frees 0x0A s)) in
    let k : keeps 0x0A (ended 0x0A (row_lines rows)) ≡ true = rw i b.0 in
    record { is = i; lines = c; ok = B.ok; tidy = lines-tidy start rows B.ok (ended-cleans 0x0A end-0A (row_lines rows) f k) }

pub sheet-read : (rows : List Row) → valid start rows ≡ true → Tidy rows → length (sheet_of rows) ≤ 65536 → read_sheet (sheet_of rows) ≡ gives rows
unfolding read_sheet lines_of sheet_of empty
sheet-read rows v t l =
    let c = tidy-lines rows t in
    let s = split-ended 0x0A (row_lines rows) (cleans-free 0x0A end-0A (row_lines rows) c) in
    rw (
      le-ltb 65536 (length (ended 0x0A (row_lines rows))) l,
      cleans-ended 0x0A end-0A (row_lines rows) c,
      s,
      last_snoc (row_lines rows),
      but_last-snoc (row_lines rows),
    )
    (rows-read rows start v 1)
