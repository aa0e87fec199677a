-- The sheet of a message is its segments' lines, one after another. Assumes nothing.
use Prim.Native.Nat.{ℕ, suc, ◌+◌}
use mathlib.Core.Path.{◌≡◌, refl, ap, ◌∙◌}
use mathlib.Core.List.{List, [], ◌∷◌, ◌++◌, map}
use mathlib.Core.Bool.{true}
use lib.ListN.{length}
use Rattle.rules.specs.declared.Delims.{Delims}
use Rattle.rules.specs.declared.Name.{Name}
use Rattle.rules.specs.declared.Name.TheVariants.{Msh, Pid, Pv1, Spm, Obr, Orc, Obx, Other}
use Rattle.rules.specs.Lists.{ended}
use Rattle.rules.specs.Shift.{met}
use Rattle.rules.specs.Frame.{Known, is, name_of, known_from, known, segments, delims_of}
use Rattle.rules.specs.Places.{places}
use Rattle.rules.specs.View.{part_of, field_of, segment_of, view}
use Rattle.rules.specs.Row.{Line, line, lines, Row, row_of, values, rows_from, rows_of}
use Rattle.rules.specs.Sheet.{lines_text, row_lines, sheet_of}
use Rattle.rules.proofs.Logic.{cases}
use Rattle.rules.proofs.Split.{ended-append}
use Rattle.sources.specs.Sources.{lines_of_body}
use Rattle.to_sheet.specs.Sections.{sections}

abbrev segment_at : Name → ℕ → List ℕ → Known
segment_at n at body = record { name = n; start = at; body = body }

-- where a segment starts is nothing to its lines
one-row : (d : Delims) (n : Name) (at : ℕ) (body : List ℕ) (rows : List Row)
    → row_lines (row_of n (map (λ (l : Line). l.source d (segment_of d (segment_at n at body))) (lines n)) ++ rows) ≡ lines_of_body d n body ++ row_lines rows
unfolding row_lines row_of values lines line lines_text lines_of_body segment_of places part_of field_of
one-row d Msh at body rows = refl
one-row d Pid at body rows = refl
one-row d Pv1 at body rows = refl
one-row d Spm at body rows = refl
one-row d Obr at body rows = refl
one-row d Orc at body rows = refl
one-row d Obx at body rows = refl
one-row d Other at body rows = refl

step-known : (d : Delims) (n : Name) (at : ℕ) (body : List ℕ) (ks : List Known)
    → sheet_of (rows_from d (map (segment_of d) (segment_at n at body ∷ ks))) ≡ ended 0x0A (lines_of_body d n body) ++ sheet_of (rows_from d (map (segment_of d) ks))
unfolding sheet_of rows_from segment_of
step-known d n at body ks =
    let rows : List Row = rows_from d (map (segment_of d) ks) in
    ap (ended 0x0A) (one-row d n at body rows) ∙ ended-append 0x0A (lines_of_body d n body) (row_lines rows)

other-is : (n : Name) → is n Other ≡ true → n ≡ Other
other-is Msh e = cc
other-is Pid e = cc
other-is Pv1 e = cc
other-is Spm e = cc
other-is Obr e = cc
other-is Orc e = cc
other-is Obx e = cc
other-is Other e = refl

-- an unknown segment has no lines
none_other : (d : Delims) (n : Name) (body rest : List ℕ) → is n Other ≡ true → rest ≡ ended 0x0A (lines_of_body d n body) ++ rest
unfolding lines_of_body lines lines_text ended
none_other d n body rest e = rw (other-is n e)

sheet-from : (d : Delims) (at : ℕ) (ss : List (List ℕ)) → sheet_of (rows_from d (map (segment_of d) (known_from at ss))) ≡ sections d ss
unfolding known_from sections sheet_of rows_from row_lines ended
sheet-from d at [] = refl
sheet-from d at (s ∷ ss) =
    let rest = known_from (at + suc (length s)) ss in
    let r = sheet-from d (at + suc (length s)) ss in
    cases (is (name_of s) Other)
    (λ e. rw e (r ∙ none_other d (name_of s) (met s) (sections d ss) e))
    (λ e. rw e (step-known d (name_of s) at (met s) rest ∙ ap (λ (l : List ℕ). ended 0x0A (lines_of_body d (name_of s) (met s)) ++ l) r))

pub sheet-is : (m : List ℕ) → sheet_of (rows_of (view m)) ≡ sections (delims_of m) (segments m)
unfolding rows_of view known
sheet-is m = sheet-from (delims_of m) 0 (segments m)
