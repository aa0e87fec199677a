-- The laws of an OBX's lines. Assumes nothing.
use Prim.Native.Nat.{ℕ}
use native.Mathlib.Omega.{arith}
use mathlib.Core.Path.{◌≡◌, refl, sym, ap, ◌∙◌}
use mathlib.Core.List.{List, [], ◌∷◌}
use Rattle.rules.specs.declared.Name.TheVariants.{Obx}
use Rattle.rules.specs.Lists.{bytes}
use Rattle.rules.specs.Shift.{met}
use Rattle.rules.specs.Judge.{plain_of, raw_four}
use Rattle.plain_bytes.specs.Bytes.{until, is_byte}
use Rattle.scan.specs.Scan.{ends, onward, next}
use Rattle.scan.proofs.Laws.{onward-add}
use Rattle.components.proofs.Pieces.{piece-at}
use Rattle.fill.specs.declared.Lines.{Lines}
use Rattle.fill.specs.Fill.{keyed}
use Rattle.fill.specs.Lines.{Continued}
use Rattle.fill.proofs.Laws.{then, lines_as}
use Rattle.sources.specs.Sources.{lines_of_body}
use Rattle.sources.proofs.Laws.{next-onward}
use Rattle.sources.proofs.Table.{raw_in, first-at, name-at, first-is, tables, on, field-on, later}
use Rattle.report_value.specs.Value.{four_lines}
use Rattle.report_result.specs.Result.{from_item, from_value, from_unit}

-- ---- from OBX-6 on
pub from_unit_is : (l m n o : Lines) (t u w a b c i j k : List ℕ)
    → Continued 1 l m (λ d. keyed d i (met a) ∷ []) → Continued 1 m n (λ d. keyed d j (met b) ∷ []) → Continued 1 n o (λ d. keyed d k (met c) ∷ [])
    → met a ≡ until (ends l.delims) (met t) → met u ≡ onward l.delims.field 2 (met t) → met b ≡ until (ends l.delims) (met u)
    → met w ≡ onward l.delims.field 3 (met u) → met c ≡ until (ends l.delims) (met w)
    → i ≡ bytes "unit=" → j ≡ bytes "flag=" → k ≡ bytes "status=" → Continued 3 l o (λ d. from_unit d (met t))
unfolding from_unit onward
from_unit_is l m n o t u w a b c i j k p q r ea eu eb ew ec ei ej ek =
    lines_as (then (then p q) r)
    (rw (ei, ej, ek, ea, later l.delims t u b 2 eu eb, later l.delims t w c 5 (on l.delims t u w 2 3 eu ew) ec) refl)

-- ---- from OBX-5 on, and from OBX-3 on
pub from_value_is : (l m n : Lines) (t f u kind : List ℕ) → Continued 4 l m (λ d. four_lines d (raw_four d (plain_of d (met kind)) (met f)))
    → Continued 3 m n (λ d. from_unit d (met u)) → met f ≡ until (is_byte l.delims.field) (met t) → met u ≡ onward l.delims.field 1 (met t)
    → Continued 7 l n (λ d. from_value d (met t) (met kind))
unfolding from_value
from_value_is l m n t f u kind p q e g = lines_as (then p q) (rw (e, g) refl)

pub from_item_is : (l m n o p : Lines) (t u v a b kind i j k : List ℕ)
    → Continued 1 l m (λ d. keyed d i (met a) ∷ []) → Continued 1 m n (λ d. keyed d j (met b) ∷ []) → Continued 1 n o (λ d. keyed d k (met kind) ∷ [])
    → Continued 7 o p (λ d. from_value d (met v) (met kind))
    → met a ≡ until (ends l.delims) (met t) → met u ≡ next l.delims (met t) → met b ≡ until (ends l.delims) (met u) → met v ≡ onward l.delims.field 2 (met u)
    → i ≡ bytes "item=" → j ≡ bytes "name=" → k ≡ bytes "type=" → Continued 10 l p (λ d. from_item d (met t) (met kind))
unfolding from_item
from_item_is l m n o p t u v a b kind i j k p1 p2 p3 p4 ea eu eb ev ei ej ek =
    let v2 : met v ≡ onward l.delims.field 2 (met t) = ev ∙ ap (onward l.delims.field 2) eu ∙ next-onward l.delims l.proper 2 (met t) (omega arith) in
    lines_as (then (then (then p1 p2) p3) p4) (rw (ei, ej, ek, ea, eb, eu, v2) refl)

-- ---- OBX
pub result_is : (l m : Lines) (s t u kind : List ℕ) → Continued 10 l m (λ d. from_item d (met u) (met kind)) → met t ≡ onward l.delims.field 2 (met s)
    → met kind ≡ until (ends l.delims) (met t) → met u ≡ onward l.delims.field 1 (met t) → Continued 10 l m (λ d. lines_of_body d Obx (met s))
unfolding tables from_item from_value four_lines from_unit
result_is l m s t u kind p et ek eu =
    let d = l.delims in
    let u3 : met u ≡ onward d.field 3 (met s) = on d s t u 2 1 et eu in
    let k2 : met kind ≡ raw_in d (met s) 2 1 = first-is d l.proper s t kind 2 et ek in
    let i3 : until (ends d) (met u) ≡ raw_in d (met s) 3 1 = first-at d l.proper s u 3 u3 in
    let v5 : onward d.field 2 (met u) ≡ onward d.field 5 (met s) = ap (onward d.field 2) u3 ∙ onward-add d.field 3 2 (met s) in
    lines_as p
    (rw (i3, name-at d l.proper s u 3 u3, k2, v5, sym (piece-at d.field 5 (met s)), field-on d l.proper (met s) 5 1 0, field-on d l.proper (met s) 5 1 2, field-on d l.proper (met s) 5 1 5) refl)
