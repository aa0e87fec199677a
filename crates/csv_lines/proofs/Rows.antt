-- The lines of rows, one behind another. Assumes nothing.
use mathlib.Core.Path.{◌≡◌, refl}
use mathlib.Core.List.{List, ◌∷◌, ◌++◌}
use Rattle.rules.specs.declared.Name.{Name}
use Rattle.rules.specs.declared.Name.TheVariants.{Pid, Pv1, Spm, Obr, Obx}
use Rattle.rules.specs.Row.{row_of, values}
use Rattle.rules.specs.Sheet.{row_lines}
use Rattle.rules.proofs.Logic.{cases}
use Rattle.csv_rules.specs.Quote.{Items, FileLine}
use Rattle.csv_rules.specs.Columns.{keys}
use Rattle.csv_rules.specs.Sheets.{agree, Run, Given, below, sheet_rows}
use Rattle.csv_lines.specs.Lines.{header_lines, first_lines, next_lines, group_lines}
use Rattle.csv_lines.proofs.Groups.{tables}

-- ---- the lines of a run
pub rows_are : (g : Given) (u : Run)
    → row_lines (sheet_rows g u) ≡ header_lines g.mode g.sent g.control ++ (first_lines u.row.items ++ row_lines (below u.row.items u.others))
unfolding tables row_lines sheet_rows row_of values first_lines
rows_are g u = refl

pub next-are : (q : Items) (r : FileLine) (rs : List FileLine) → row_lines (below q (r ∷ rs)) ≡ next_lines q r.items ++ row_lines (below r.items rs)
unfolding tables row_lines below row_of values next_lines
next-are q r rs =
    cases (agree Spm q r.items)
    (λ e. cases (agree Obr q r.items) (λ h. rw (e, h)) (λ h. rw (e, h)))
    (λ e. rw e)

-- ---- rows with equal keys
pub first-same : (r p : Items) → ((g : Name) → keys g r ≡ keys g p) → first_lines r ≡ first_lines p
unfolding first_lines group_lines
first-same r p e = rw (e Pid, e Pv1, e Spm, e Obr, e Obx)

pub next-same : (q p r s : Items) → ((g : Name) → keys g q ≡ keys g p) → ((g : Name) → keys g r ≡ keys g s) → next_lines q r ≡ next_lines p s
unfolding next_lines group_lines
next-same q p r s e h = rw (e Spm, e Obr, h Spm, h Obr, h Obx)
