-- What a read field is told, and how far a segment is judged.
use Rattle.std.specs.Prelude.{◌≡◌, List, [], ◌∷◌, map, ℕ, suc, ◌+◌, ◌-◌, ◌≤◌, ◌<◌, length, take, drop}
use Rattle.rules.specs.declared.Delims.{Delims}
use Rattle.rules.specs.Told.{◌then◌, ◌when◌, number}
use Rattle.std.specs.declared.result.Result.{Result}
use Rattle.std.specs.declared.result.Result.TheVariants.{Ok, Err}
use Rattle.rules.specs.Lists.{has}
use Rattle.rules.specs.Shift.{met, byte_of}
use Rattle.rules.specs.Places.{Field, reads, closed, charset, names, ◌must◌, ◌may◌}
use Rattle.rules.specs.Places as Table
use Rattle.rules.specs.View.{first_repetition, seen_in}
use Rattle.rules.specs.Judge.{judge_all, names_fault}
use Rattle.plain_bytes.specs.Bytes.{until, is_byte}
use Rattle.scan.specs.Scan.{ends, after_sep, onward}
use Rattle.value.specs.Rules.{rule_of}
use Rattle.judge.specs.Judge.{Small}
use Rattle.components.specs.Components.{Smalls}
use Rattle.closed.specs.Closed.{charset_fault}
use Rattle.value.specs.declared.Place.{Place}
use Rattle.value.specs.declared.Place.TheVariants.{Unread, Must, May}
use Rattle.fields.specs.declared.Form.{Form}
use Rattle.fields.specs.declared.Form.TheVariants.{One, Three, Charset, Names}
use Rattle.fields.specs.declared.Walk.{Walk}
use Rattle.fields.specs.declared.FieldFault.{FieldFault}

-- ---- one field
-- the entries of the table, from component c on
unfoldable pub entries_from : ℕ → List Place → List Table.Place
entries_from c [] = []
entries_from c (Unread ∷ ps) = entries_from (suc c) ps
entries_from c (Must r ∷ ps) = (c must rule_of r) ∷ entries_from (suc c) ps
entries_from c (May r ∷ ps) = (c may rule_of r) ∷ entries_from (suc c) ps

unfoldable pub entry_for : ℕ → Form → Field
entry_for n (One a) = reads n (entries_from 1 (a ∷ []))
entry_for n (Three a b c) = reads n (entries_from 1 (a ∷ b ∷ c ∷ []))
entry_for n Charset = closed n charset
entry_for n Names = closed n names

unfoldable pub SmallForm : Form → Type 0
unfolding Smalls Small
SmallForm (One a) = Smalls a
SmallForm (Three a b c) = Smalls a × Smalls b × Smalls c
SmallForm Charset = Unit {0}
SmallForm Names = Unit {0}

-- the fault of a field f by its form
unfoldable pub entries_fault : Delims → List Table.Place → List ℕ → ℕ
entries_fault d ps f = 22 when has d.repetition f then judge_all d (map (seen_in d (first_repetition d f)) ps)

unfoldable pub form_fault : Delims → Form → List ℕ → ℕ
form_fault d (One a) f = entries_fault d (entries_from 1 (a ∷ [])) f
form_fault d (Three a b c) f = entries_fault d (entries_from 1 (a ∷ b ∷ c ∷ [])) f
form_fault d Charset f = charset_fault d f
form_fault d Names f = names_fault d f

-- the first component of the field at the start of m, where it is read
unfoldable pub form_head : Delims → Form → List ℕ → List ℕ
form_head d (One a) m = until (ends d) m
form_head d (Three a b c) m = until (ends d) m
form_head d Charset m = []
form_head d Names m = []

-- the field at the start of t, where it breaks nothing
pub record ReadOf (d : Delims) (first : List ℕ → List ℕ) (t : List ℕ) (head len : ℕ) : Type 0 where
  pub raw : map byte_of (first (met t)) ≡ take head t
  pub long : len ≡ length (until (is_byte d.field) (met t))

-- ---- a segment s, field by field
-- what a segment breaks, by the number of its refusal, and the field; 0 for nothing
abbrev pub fault_in : {A : Type 0} → Result A FieldFault → ℕ
fault_in (Ok a) = 0
fault_in (Err e) = number e.kind

abbrev pub field_in : {A : Type 0} → Result A FieldFault → ℕ
field_in (Ok a) = 0
field_in (Err e) = e.field

pub record Begins (n : ℕ) (w : Walk) : Type 0 where
  pub field : w.field ≡ n
  pub part : w.start + w.head ≡ 0
  pub at : w.at ≡ 0

-- before field n is judged
pub record Ready (s : List ℕ) (n : ℕ) (w : Walk) : Type 0 where
  pub low : w.at ≤ length s
  pub earlier : w.field < n
  pub part : w.start + w.head ≤ length s

-- from field n on, as w leads to it
abbrev pub ahead : Delims → List ℕ → ℕ → Walk → List ℕ
ahead d s n w = onward d.field (n - w.field) (met (drop w.at s))

-- field n is judged, from w on: it breaks nothing, and r stands there
pub record Passed (d : Delims) (s : List ℕ) (n : ℕ) (own : List ℕ → ℕ) (first : List ℕ → List ℕ) (w r : Walk) : Type 0 where
  pub told : own (until (is_byte d.field) (ahead d s n w)) ≡ 0
  pub numbered : r.field ≡ n
  pub raw : map byte_of (first (ahead d s n w)) ≡ take r.head (drop r.start s)
  pub rest : after_sep d.field (met (drop r.at s)) ≡ after_sep d.field (ahead d s n w)
  pub part : r.start + r.head ≤ length s
  pub low : r.at ≤ length s

-- or it breaks a rule, which ends the segment
pub record Broken (d : Delims) (s : List ℕ) (n : ℕ) (own : List ℕ → ℕ) (w : Walk) (e : FieldFault) : Type 0 where
  pub told : number e.kind ≡ own (until (is_byte d.field) (ahead d s n w))
  pub numbered : e.field ≡ n

-- from w on to field n of the table
abbrev pub To : Delims → List ℕ → ℕ → Form → Walk → Result Walk FieldFault → Type 0
To d s n form w (Ok r) = Passed d s n (form_fault d form) (form_head d form) w r
To d s n form w (Err e) = Broken d s n (form_fault d form) w e
