-- The laws of the lines of MSH, PV1, SPM and OBR. Assumes nothing.
use Prim.Native.Nat.{ℕ}
use mathlib.Core.Path.{◌≡◌, refl}
use mathlib.Core.List.{List, [], ◌∷◌, ◌++◌}
use Rattle.rules.specs.declared.Name.TheVariants.{Msh, Pv1, Spm, Obr}
use Rattle.rules.specs.Lists.{bytes}
use Rattle.rules.specs.Shift.{met}
use Rattle.plain_bytes.specs.Bytes.{until}
use Rattle.scan.specs.Scan.{ends, onward}
use Rattle.fill.specs.declared.Lines.{Lines}
use Rattle.fill.specs.Fill.{keyed}
use Rattle.fill.specs.Lines.{Continued}
use Rattle.fill.proofs.Laws.{then, lines_as}
use Rattle.sources.specs.Sources.{lines_of_body}
use Rattle.sources.proofs.Table.{first-is, tables, on, field_at, later}
use Rattle.report.specs.Report.{from_sent, field_lines}

-- ---- MSH
pub from_sent_is : (l m n o : Lines) (t u w a b c i j k : List ℕ)
    → Continued 1 l m (λ d. keyed d i (met c) ∷ []) → Continued 1 m n (λ d. keyed d j (met a) ∷ []) → Continued 1 n o (λ d. keyed d k (met b) ∷ [])
    → met a ≡ until (ends l.delims) (met t) → met u ≡ onward l.delims.field 3 (met t) → met b ≡ until (ends l.delims) (met u)
    → met w ≡ onward l.delims.field 1 (met u) → met c ≡ until (ends l.delims) (met w)
    → i ≡ bytes "mode=" → j ≡ bytes "sent=" → k ≡ bytes "control=" → Continued 3 l o (λ d. from_sent d (met t))
unfolding from_sent onward
from_sent_is l m n o t u w a b c i j k p q r ea eu eb ew ec ei ej ek =
    lines_as (then (then p q) r)
    (rw (ei, ej, ek, ea, later l.delims t u b 3 eu eb, later l.delims t w c 4 (on l.delims t u w 3 1 eu ew) ec) refl)

pub header_is : (l m n : Lines) (s t k v : List ℕ) → Continued 1 l m (λ d. (k ++ v) ∷ []) → Continued 3 m n (λ d. from_sent d (met t))
    → met t ≡ onward l.delims.field 6 (met s) → k ≡ bytes "version=" → v ≡ bytes "1" → Continued 4 l n (λ d. lines_of_body d Msh (met s))
unfolding tables from_sent
header_is l m n s t k v p q e f g =
    lines_as (then p q)
    (rw (f, g, field_at l.delims l.proper s t 6 4 e, field_at l.delims l.proper s t 6 0 e, field_at l.delims l.proper s t 6 3 e) refl)

-- ---- PV1
pub visit_is : (l m : Lines) (s t class k : List ℕ) → Continued 1 l m (λ d. keyed d k (met class) ∷ [])
    → met t ≡ onward l.delims.field 2 (met s) → met class ≡ until (ends l.delims) (met t) → k ≡ bytes "class=" → Continued 1 l m (λ d. lines_of_body d Pv1 (met s))
unfolding tables
visit_is l m s t class k p e f g = lines_as p (rw (g, first-is l.delims l.proper s t class 2 e f) refl)

-- ---- SPM and OBR
pub fields_are : (l m n : Lines) (k : ℕ) (t u a b i j : List ℕ) → Continued 1 l m (λ d. keyed d i (met a) ∷ []) → Continued 1 m n (λ d. keyed d j (met b) ∷ [])
    → met a ≡ until (ends l.delims) (met t) → met u ≡ onward l.delims.field k (met t) → met b ≡ until (ends l.delims) (met u)
    → Continued 2 l n (λ d. field_lines d i k j (met t))
unfolding field_lines onward
fields_are l m n k t u a b i j p q ea eu eb = lines_as (then p q) (rw (ea, later l.delims t u b k eu eb) refl)

module _ (l m : Lines) (s t j k : List ℕ) where
  pub specimen_is : Continued 2 l m (λ d. field_lines d j 13 k (met t)) → met t ≡ onward l.delims.field 4 (met s) → j ≡ bytes "specimen=" → k ≡ bytes "collected="
      → Continued 2 l m (λ d. lines_of_body d Spm (met s))
  unfolding tables field_lines
  specimen_is p e v w = lines_as p (rw (v, w, field_at l.delims l.proper s t 4 0 e, field_at l.delims l.proper s t 4 13 e) refl)

  pub order_is : Continued 2 l m (λ d. field_lines d j 2 k (met t)) → met t ≡ onward l.delims.field 2 (met s) → j ≡ bytes "order=" → k ≡ bytes "group="
      → Continued 2 l m (λ d. lines_of_body d Obr (met s))
  unfolding tables field_lines
  order_is p e v w = lines_as p (rw (v, w, field_at l.delims l.proper s t 2 0 e, field_at l.delims l.proper s t 2 2 e) refl)
