-- WHAT IT IS TO KEEP THE RULES of document 01, fact by fact and in its order. Nothing is refused here, so no fact comes before another: a
-- message keeps the rules if all of them hold of it.
use Rattle.std.specs.Prelude.{◌≡◌, Bool, true, false, cond, not, ◌&&◌, ◌||◌, ℕ, suc, ◌≤◌, leb, length, replicate}
use mathlib.Core.List.{List, ◌∷◌, map, flat_map}
use Rattle.std.proofs.Math.Option.{none, some}
use Rattle.std.proofs.Math.ListN.{get_elem?}
use Rattle.rules.specs.declared.Delims.{Delims}
use Rattle.rules.specs.declared.Name.{Name}
use Rattle.rules.specs.declared.Name.TheVariants.{Msh, Pid, Pv1, Spm, Obr, Orc, Obx}
use Rattle.rules.specs.Lists.{bytes, empty, filled, same, all, has, split}
use Rattle.rules.specs.Shift.{keeps}
use Rattle.rules.specs.Frame.{header_ok, delims_of, segments, segments_ok, is, Known, known}
use Rattle.rules.specs.Value.{Rule, too_long, holds}
use Rattle.rules.specs.Escape.{unescape}
use Rattle.rules.specs.Places.{Place, Field, reads, closed, charset, names, value, places, name_rule, value_rules}
use Rattle.rules.specs.View.{field_of, first_repetition, component_of}
use Rattle.rules.specs.Judge.{plain_of, kanji, kana, is_sn, raw_four, beside, unjoined, agrees}

-- ---- "MSH PID PV1, then one or more specimens: SPM and one or more orders: OBR ORC and one or more OBX."
-- the names of an order, by the number of its results; of a specimen, by its orders; of a message, by its specimens
unfoldable pub order_names : ℕ → List Name
order_names results = Obr ∷ Orc ∷ replicate results Obx

unfoldable pub specimen_names : List ℕ → List Name
specimen_names orders = Spm ∷ flat_map order_names orders

unfoldable pub message_names : List (List ℕ) → List Name
message_names specimens = Msh ∷ Pid ∷ Pv1 ∷ flat_map specimen_names specimens

pub record InOrder (ns : List Name) : Type 0 where
  pub specimens : List (List ℕ)
  pub a-specimen : filled specimens ≡ true
  pub an-order : all (λ (orders : List ℕ). filled orders) specimens ≡ true
  pub a-result : all (all (leb 1)) specimens ≡ true
  pub names : ns ≡ message_names specimens

abbrev pub segment_names : List ℕ → List Name
segment_names m = map (λ (k : Known). k.name) (known m)

-- ---- "Places that the profile reads"
-- a component of a known segment's field, raw; and its value: "Components are unescaped, then judged."
abbrev pub raw_part : Delims → Known → ℕ → ℕ → List ℕ
raw_part d k f c = component_of d (first_repetition d (field_of d k f)) c

abbrev pub part_value : Delims → Known → ℕ → ℕ → List ℕ
part_value d k f c = plain_of d (raw_part d k f c)

-- a value is empty where it may be; or it isn't too long, and its rule holds
unfoldable pub value_ok : Bool → Rule → List ℕ → Bool
value_ok required r v = cond (empty v) (not required) (not (too_long r v) && holds r v)

-- a component isn't `""`, its escapes are right and it holds no subcomponent separator, and its value is right
unfoldable pub component_ok : Delims → Bool → Rule → List ℕ → Bool
component_ok d required r raw = not (same raw (bytes "\"\"")) && elim (unescape d raw) [ none ↦ false | some v ↦ value_ok required r v ]

-- PID-5: "Each has component 1 text 1–48 and component 2 text 0–48. Kanji is required"; a kana name may be missing
unfoldable pub person_name_ok : Delims → List ℕ → Bool
person_name_ok d r = component_ok d true name_rule (component_of d r 1) && component_ok d false name_rule (component_of d r 2)

unfoldable pub names_ok : Delims → List ℕ → Bool
names_ok d raw = elim (kanji d raw) [ none ↦ false | some r ↦ person_name_ok d r ] && elim (kana d raw) [ none ↦ true | some r ↦ person_name_ok d r ]

-- OBX-5, by OBX-2: no repetition; no component too many, "a fifth for SN, a second for NM and ST"; each part by its rule, the value filled
-- where a part beside it is; "a second number needs a joiner"
unfoldable pub obx5_ok : Delims → List ℕ → List ℕ → Bool
obx5_ok d type raw =
    let c = raw_four d type raw in
    let r = value_rules type in
    not (has d.repetition raw) && leb (length (split d.component raw)) (cond (is_sn type) 4 1)
    && component_ok d false r.compare c.compare && component_ok d (beside c) r.value c.value
    && component_ok d false r.join c.join && component_ok d false r.second c.second
    && not (unjoined c)

-- a field of the table: it has no repetition, and each read component is right; MSH-18 is "as raw bytes the repetition separator, then
-- `ISO IR87`, nothing else"; PID-5; OBX-5
unfoldable pub field_ok : Delims → Known → Field → Bool
field_ok d k (reads f ps) =
    not (has d.repetition (field_of d k f)) && all (λ (p : Place). component_ok d p.required p.rule (raw_part d k f p.component)) ps
field_ok d k (closed f charset) = same (field_of d k f) (d.repetition ∷ bytes "ISO IR87")
field_ok d k (closed f names) = names_ok d (field_of d k f)
field_ok d k (closed f value) = obx5_ok d (part_value d k 2 1) (field_of d k f)

unfoldable pub segment_ok : Delims → Known → Bool
segment_ok d k = all (field_ok d k) (places k.name)

-- OBX-11: "Status F, P or C needs a value (for SN its first number); I or X needs OBX-5 empty in every component."
unfoldable pub status_ok : Delims → Known → Bool
status_ok d k = not (is k.name Obx) || agrees (part_value d k 11 1) (raw_four d (part_value d k 2 1) (field_of d k 5))

-- ORC-2, "equal to the last OBR-2": the order number of the known segment right before it
abbrev pub OrdersAgree : Delims → List Known → Type 0
OrdersAgree d ks = (i : ℕ) (k l : Known) → get_elem? ks i ≡ some k → get_elem? ks (suc i) ≡ some l → l.name ≡ Orc → part_value d l 2 1 ≡ part_value d k 2 1

-- ---- all of it
pub record Kept (m : List ℕ) : Type 0 where
  -- "At most 32,768 bytes."
  pub short : length m ≤ 32768
  -- "Text starts in one-byte mode." "The message must end in one-byte mode."
  pub shifts : keeps 0x0D m ≡ true
  -- "The first nine bytes are `MSH`, five different delimiters and the first of these again."
  pub header : header_ok m ≡ true
  -- "Each ends in 0D, the last too. A segment has at most 4,096 bytes without its 0D"; "A name is a capital and two capitals or digits"
  pub cut : segments_ok (delims_of m).field m ≡ true
  -- "there are at most 512, all names counted"
  pub few : length (segments m) ≤ 512
  -- "MSH PID PV1, then one or more specimens"
  pub order : InOrder (segment_names m)
  -- each place that the profile reads, in each known segment
  pub read : all (segment_ok (delims_of m)) (known m) ≡ true
  -- OBX-11 and OBX-5 agree
  pub status : all (status_ok (delims_of m)) (known m) ≡ true
  -- ORC-2 is the OBR-2 before it
  pub orders : OrdersAgree (delims_of m) (known m)
