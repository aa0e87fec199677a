-- The laws of the lines of PID. Assumes nothing.
use Prim.Native.Nat.{ℕ}
use mathlib.Core.Path.{◌≡◌, refl, sym, ap, ◌∙◌}
use mathlib.Core.List.{List, [], ◌∷◌}
use mathlib.Core.Bool.{false}
use Rattle.rules.specs.declared.Delims.{Delims}
use Rattle.rules.specs.declared.Name.TheVariants.{Pid}
use Rattle.rules.specs.Lists.{bytes, has, split, or_empty}
use Rattle.rules.specs.Shift.{met}
use Rattle.rules.specs.View.{component_of}
use Rattle.rules.specs.Judge.{first_marked}
use Rattle.plain_bytes.specs.Bytes.{until, is_byte}
use Rattle.scan.specs.Scan.{ends, onward, next}
use Rattle.components.specs.Components.{forward}
use Rattle.closed.specs.Closed.{MarkedOf}
use Rattle.components.proofs.Pieces.{piece-at, until-free, component-at}
use Rattle.fill.specs.declared.Lines.{Lines}
use Rattle.fill.specs.Fill.{keyed}
use Rattle.fill.specs.Lines.{Continued}
use Rattle.fill.proofs.Laws.{then, lines_as}
use Rattle.sources.specs.Sources.{lines_of_body}
use Rattle.sources.proofs.Table.{first-is, tables, on, field-on}
use Rattle.report.specs.Report.{field_lines}
use Rattle.report_patient.specs.Patient.{name_lines, names_lines, from_names}

-- ---- PID-5
pub name_is : (l m n : Lines) (mark : ℕ) (f t u a b family given : List ℕ)
    → Continued 1 l m (λ d. keyed d family (met a) ∷ []) → Continued 1 m n (λ d. keyed d given (met b) ∷ []) → MarkedOf l.delims mark (met f) t
    → met a ≡ until (ends l.delims) (met t) → met u ≡ next l.delims (met t) → met b ≡ until (ends l.delims) (met u)
    → Continued 2 l n (λ d. name_lines d family given (or_empty (first_marked d (mark ∷ []) (split d.repetition (met f)))))
unfolding name_lines component_of forward
name_is l m n mark f t u a b family given p q g ea eu eb =
    lines_as (then p q) (rw (← g.told, component-at l.delims l.proper 0 (met t), component-at l.delims l.proper 1 (met t), ea, eb, eu) refl)

pub names_free : (d : Delims) (t f : List ℕ) → met f ≡ until (is_byte d.field) (met t) → has d.field (met f) ≡ false
names_free d t f e = ap (has d.field) e ∙ until-free d.field (met t)

pub names_are : (l m n : Lines) (f h i j k : List ℕ)
    → Continued 2 l m (λ d. name_lines d h i (or_empty (first_marked d (73 ∷ []) (split d.repetition (met f)))))
    → Continued 2 m n (λ d. name_lines d j k (or_empty (first_marked d (80 ∷ []) (split d.repetition (met f)))))
    → h ≡ bytes "family=" → i ≡ bytes "given=" → j ≡ bytes "kanafamily=" → k ≡ bytes "kanagiven=" → Continued 4 l n (λ d. names_lines d (met f))
unfolding names_lines name_lines bytes
names_are l m n f h i j k p q eh ei ej ek = lines_as (then p q) (rw (eh, ei, ej, ek) refl)

-- ---- PID
pub from_names_is : (l m n : Lines) (t f u j k : List ℕ) → Continued 4 l m (λ d. names_lines d (met f)) → Continued 2 m n (λ d. field_lines d j 1 k (met u))
    → met f ≡ until (is_byte l.delims.field) (met t) → met u ≡ onward l.delims.field 2 (met t) → j ≡ bytes "birth=" → k ≡ bytes "sex="
    → Continued 6 l n (λ d. from_names d (met t))
unfolding from_names
from_names_is l m n t f u j k p q e g ej ek = lines_as (then p q) (rw (e, g, ej, ek) refl)

pub patient_is : (l m n : Lines) (s t u id k : List ℕ) → Continued 1 l m (λ d. keyed d k (met id) ∷ []) → Continued 6 m n (λ d. from_names d (met u))
    → met t ≡ onward l.delims.field 3 (met s) → met id ≡ until (ends l.delims) (met t) → met u ≡ onward l.delims.field 2 (met t) → k ≡ bytes "patient="
    → Continued 7 l n (λ d. lines_of_body d Pid (met s))
unfolding tables from_names names_lines name_lines field_lines
patient_is l m n s t u id k p q et ei eu ek =
    let u5 : met u ≡ onward l.delims.field 5 (met s) = on l.delims s t u 3 2 et eu in
    lines_as (then p q)
    (rw (ek, first-is l.delims l.proper s t id 3 et ei, u5, sym (piece-at l.delims.field 5 (met s)), field-on l.delims l.proper (met s) 5 2 0, field-on l.delims l.proper (met s) 5 2 1) refl)
