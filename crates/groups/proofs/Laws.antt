-- The laws of each group's lines: one for each way through their code. Assumes nothing.
use mathlib.Core.Path.{◌≡◌, refl, sym, subst, ap, ◌∙◌}
use mathlib.Core.Logic.{◌⊎◌, inl, inr}
use mathlib.Core.Bool.{Bool, true, false, not, ◌&&◌, ◌||◌}
use mathlib.Core.List.{List, [], ◌∷◌, ◌++◌}
use Prim.Native.Nat.{ℕ, ◌≤◌}
use native.Mathlib.Omega.{arith}
use borrow.Author.Tests.{eq-eqb, eqb-true}
use lib.Dec.{eqb}
use lib.ListN.{length, take, drop}
use Rattle.rules.specs.declared.Name.{Name}
use Rattle.rules.specs.declared.Name.TheVariants.{Msh, Pid, Pv1, Spm, Obr, Orc, Obx, Other}
use Rattle.rules.specs.Lists.{bytes, empty, filled, nth, same, split, is_one_of, any, onto}
use Rattle.rules.specs.Value.{Rule, fault, fits, holds, too_long, words, text}
use Rattle.rules.specs.Places.{Four, value_rules, entry_of, entry_in, places}
use Rattle.rules.specs.Judge.{agrees}
use Rattle.rules.specs.Row.{Line, line, lines, four_at, joined}
use Rattle.rules.specs.Sheet.{key_of}
use Rattle.rules.proofs.Logic.{and-true, and-false, cases, never}
use Rattle.rules.proofs.Lists.{same-eq, empty-zero, filled-some}
use Rattle.rules.proofs.Names.{in_names}
use Rattle.value.specs.declared.Words.TheVariants.{Modes, Sexes, Classes, Types, Flags, Statuses}
use Rattle.value.specs.declared.Place.TheVariants.{Must, May}
use Rattle.value.specs.declared.Rule.TheVariants.{Time, Date, Text, Digits, Capitals, OneOf}
use Rattle.value.specs.declared.Parts.{Parts as Rules}
use Rattle.value.specs.Rules.{rule_of, rules_of, text_of}
use Rattle.std.specs.Prelude.{Ok, Err}
use Rattle.lines.specs.declared.LineFault.{LineFault}
use Rattle.lines.specs.Lines.{Verdict, and_then, line_as, line_at}
use Rattle.groups.specs.declared.Obx5.{Obx5}
use Rattle.groups.specs.Groups.{values_from, four_of, parts_of, status_of, VerdictOn}
use Rattle.groups.proofs.Reading.{on_none, on-more, on-wrong}

-- ---- "version is 1"
version-one : (fits true (text 1) (49 ∷ []) && same (49 ∷ []) (49 ∷ [])) ≡ fits true (words "1") (49 ∷ [])
unfolding fault empty too_long holds is_one_of split bytes onto any same
version-one = refl

version-is : (v : List ℕ) → (fits true (text 1) v && same v (49 ∷ [])) ≡ fits true (words "1") v
unfolding fault empty too_long holds is_one_of split bytes onto any
version-is [] = refl
version-is (b ∷ v) =
    cases (same (b ∷ v) (49 ∷ []))
    (λ e. subst (λ (w : List ℕ). (fits true (text 1) w && same w (49 ∷ [])) ≡ fits true (words "1") w) (sym (same-eq (b ∷ v) (49 ∷ []) e)) version-one)
    (λ e. rw (e, any, and-false (fits true (text 1) (b ∷ v))))

-- ---- parts that are blank
pub blank : {A : Type 0} (s : List A) → eqb (length s) 0 ≡ empty s
blank s =
    cases (eqb (length s) 0)
    (λ e. e ∙ sym (empty-zero s (eqb-true (length s) 0 e)))
    (λ e. e ∙ sym (filled-some s (λ z. never (sym (eq-eqb (length s) 0 z) ∙ e))))

pub blank-by : {A : Type 0} {q : Bool} (s : List A) → q ≡ eqb (length s) 0 → q ≡ empty s
blank-by s e = e ∙ blank s

pub filled-by : {A : Type 0} {q : Bool} (s : List A) → q ≡ eqb (length s) 0 → not q ≡ filled s
filled-by s e = ap not (blank-by s e)

-- ---- the keys
abbrev version= : List ℕ
version= = 118 ∷ 101 ∷ 114 ∷ 115 ∷ 105 ∷ 111 ∷ 110 ∷ 61 ∷ []

abbrev mode= : List ℕ
mode= = 109 ∷ 111 ∷ 100 ∷ 101 ∷ 61 ∷ []

abbrev sent= : List ℕ
sent= = 115 ∷ 101 ∷ 110 ∷ 116 ∷ 61 ∷ []

abbrev control= : List ℕ
control= = 99 ∷ 111 ∷ 110 ∷ 116 ∷ 114 ∷ 111 ∷ 108 ∷ 61 ∷ []

abbrev patient= : List ℕ
patient= = 112 ∷ 97 ∷ 116 ∷ 105 ∷ 101 ∷ 110 ∷ 116 ∷ 61 ∷ []

abbrev family= : List ℕ
family= = 102 ∷ 97 ∷ 109 ∷ 105 ∷ 108 ∷ 121 ∷ 61 ∷ []

abbrev given= : List ℕ
given= = 103 ∷ 105 ∷ 118 ∷ 101 ∷ 110 ∷ 61 ∷ []

abbrev kanafamily= : List ℕ
kanafamily= = 107 ∷ 97 ∷ 110 ∷ 97 ∷ 102 ∷ 97 ∷ 109 ∷ 105 ∷ 108 ∷ 121 ∷ 61 ∷ []

abbrev kanagiven= : List ℕ
kanagiven= = 107 ∷ 97 ∷ 110 ∷ 97 ∷ 103 ∷ 105 ∷ 118 ∷ 101 ∷ 110 ∷ 61 ∷ []

abbrev birth= : List ℕ
birth= = 98 ∷ 105 ∷ 114 ∷ 116 ∷ 104 ∷ 61 ∷ []

abbrev sex= : List ℕ
sex= = 115 ∷ 101 ∷ 120 ∷ 61 ∷ []

abbrev class= : List ℕ
class= = 99 ∷ 108 ∷ 97 ∷ 115 ∷ 115 ∷ 61 ∷ []

abbrev specimen= : List ℕ
specimen= = 115 ∷ 112 ∷ 101 ∷ 99 ∷ 105 ∷ 109 ∷ 101 ∷ 110 ∷ 61 ∷ []

abbrev collected= : List ℕ
collected= = 99 ∷ 111 ∷ 108 ∷ 108 ∷ 101 ∷ 99 ∷ 116 ∷ 101 ∷ 100 ∷ 61 ∷ []

abbrev order= : List ℕ
order= = 111 ∷ 114 ∷ 100 ∷ 101 ∷ 114 ∷ 61 ∷ []

abbrev group= : List ℕ
group= = 103 ∷ 114 ∷ 111 ∷ 117 ∷ 112 ∷ 61 ∷ []

abbrev item= : List ℕ
item= = 105 ∷ 116 ∷ 101 ∷ 109 ∷ 61 ∷ []

abbrev name= : List ℕ
name= = 110 ∷ 97 ∷ 109 ∷ 101 ∷ 61 ∷ []

abbrev type= : List ℕ
type= = 116 ∷ 121 ∷ 112 ∷ 101 ∷ 61 ∷ []

abbrev compare= : List ℕ
compare= = 99 ∷ 111 ∷ 109 ∷ 112 ∷ 97 ∷ 114 ∷ 101 ∷ 61 ∷ []

abbrev value= : List ℕ
value= = 118 ∷ 97 ∷ 108 ∷ 117 ∷ 101 ∷ 61 ∷ []

abbrev join= : List ℕ
join= = 106 ∷ 111 ∷ 105 ∷ 110 ∷ 61 ∷ []

abbrev second= : List ℕ
second= = 115 ∷ 101 ∷ 99 ∷ 111 ∷ 110 ∷ 100 ∷ 61 ∷ []

abbrev unit= : List ℕ
unit= = 117 ∷ 110 ∷ 105 ∷ 116 ∷ 61 ∷ []

abbrev flag= : List ℕ
flag= = 102 ∷ 108 ∷ 97 ∷ 103 ∷ 61 ∷ []

abbrev status= : List ℕ
status= = 115 ∷ 116 ∷ 97 ∷ 116 ∷ 117 ∷ 115 ∷ 61 ∷ []

-- ---- the groups
-- to unfold this name is to unfold the table of lines
unfoldable pub table : Unit {0}
unfolding values_from lines line entry_of entry_in places key_of bytes rule_of rules_of text_of four_at
table = tt

-- a line more, where the code tells in its own way that the value holds; and where its rule is all that it must meet
module _ (ls : List Line) (l : Line) (ts : List (List ℕ)) (before r : Verdict) (key : List ℕ) (good : Bool) (p : VerdictOn ls ts before) (e : key ≡ key_of l) where
  abbrev v : List ℕ
  v = drop (length (key_of l)) (nth ts (length ls))

  abbrev right : Bool
  right = l.holds (values_from ls 0 ts ++ (v ∷ [])) v

  goes : good ≡ right → r ≡ line_as (length ls) key good (nth ts (length ls)) → VerdictOn (ls ++ (l ∷ [])) ts (and_then before r)
  goes f h = on-more ls l ts before (and_then before r) p (ap (and_then before) (h ∙ rw (e, f)))

  plain : good ≡ right → r ≡ line_as (length ls) key (good && true) (nth ts (length ls)) → VerdictOn (ls ++ (l ∷ [])) ts (and_then before r)
  plain f h = on-more ls l ts before (and_then before r) p (ap (and_then before) (h ∙ rw (e, and-true good, f)))

module _ (ts : List (List ℕ)) where
  abbrev at : ℕ → ℕ → List ℕ
  at k n = drop n (nth ts k)

  pub header_is : {v : List ℕ} {one : Bool} → v ≡ at 0 8 → one ≡ same v (49 ∷ []) → {v0 v1 v2 v3 r : Verdict}
      → v0 ≡ line_at 0 version= (Must (Text 1)) one ts
      → v1 ≡ line_at 1 mode= (Must (OneOf Modes)) true ts
      → v2 ≡ line_at 2 sent= (Must Time) true ts
      → v3 ≡ line_at 3 control= (Must (Text 20)) true ts
      → r ≡ and_then (and_then (and_then v0 v1) v2) v3 → VerdictOn (lines Msh) ts r
  unfolding table
  header_is {v} {one} ev eo {v0} {v1} {v2} {v3} {r} e0 e1 e2 e3 e =
      let o : (fits true (text 1) (at 0 8) && one) ≡ fits true (words "1") (at 0 8)
      = ap (λ (b : Bool). fits true (text 1) (at 0 8) && b) (eo ∙ ap (λ (w : List ℕ). same w (49 ∷ [])) ev) ∙ version-is (at 0 8) in
      let p0 = goes [] _ ts (Ok tt) v0 version= _ (on_none ts) refl o e0 in
      let p1 = plain _ _ ts v0 v1 mode= _ p0 refl refl e1 in
      let p2 = plain _ _ ts (and_then v0 v1) v2 sent= _ p1 refl refl e2 in
      rw e (plain _ _ ts (and_then (and_then v0 v1) v2) v3 control= _ p2 refl refl e3)

  pub named-is : {v0 v1 v2 r : Verdict}
      → v0 ≡ line_at 0 patient= (Must (Text 20)) true ts
      → v1 ≡ line_at 1 family= (Must (Text 48)) true ts
      → v2 ≡ line_at 2 given= (May (Text 48)) true ts
      → r ≡ and_then (and_then v0 v1) v2 → VerdictOn (take 3 (lines Pid)) ts r
  unfolding table
  named-is {v0} {v1} {v2} {r} e0 e1 e2 e =
      let p0 = plain [] _ ts (Ok tt) v0 patient= _ (on_none ts) refl refl e0 in
      let p1 = plain _ _ ts v0 v1 family= _ p0 refl refl e1 in
      rw e (plain _ _ ts (and_then v0 v1) v2 given= _ p1 refl refl e2)

  pub kana-is : {f g : List ℕ} {also : Bool} → f ≡ at 3 11 → g ≡ at 4 10 → also ≡ (filled f || empty g) → VerdictOn (take 3 (lines Pid)) ts (Ok tt) → {v3 v4 r : Verdict}
      → v3 ≡ line_at 3 kanafamily= (May (Text 48)) true ts
      → v4 ≡ line_at 4 kanagiven= (May (Text 48)) also ts
      → r ≡ and_then v3 v4 → VerdictOn (take 5 (lines Pid)) ts r
  unfolding table
  kana-is {f} {g} {also} ef eg ea p {v3} {v4} {r} e3 e4 e =
      let o : (fits false (text 48) (at 4 10) && also) ≡ (fits false (text 48) (at 4 10) && (filled (at 3 11) || empty (at 4 10)))
      = ap (λ (b : Bool). fits false (text 48) (at 4 10) && b) (rw (← ef, ← eg) ea) in
      rw e (goes _ _ ts v3 v4 kanagiven= _ (plain _ _ ts (Ok tt) v3 kanafamily= _ p refl refl e3) refl o e4)

  pub patient-is : VerdictOn (take 5 (lines Pid)) ts (Ok tt) → {v5 v6 r : Verdict}
      → v5 ≡ line_at 5 birth= (May Date) true ts
      → v6 ≡ line_at 6 sex= (Must (OneOf Sexes)) true ts
      → r ≡ and_then v5 v6 → VerdictOn (lines Pid) ts r
  unfolding table
  patient-is p {v5} {v6} {r} e5 e6 e = rw e (plain _ _ ts v5 v6 sex= _ (plain _ _ ts (Ok tt) v5 birth= _ p refl refl e5) refl refl e6)

  pub names-wrong : {f : LineFault} → VerdictOn (take 3 (lines Pid)) ts (Err f) → VerdictOn (lines Pid) ts (Err f)
  unfolding table
  names-wrong {f} p = on-wrong _ _ ts f p

  pub kana-wrong : {f : LineFault} → VerdictOn (take 5 (lines Pid)) ts (Err f) → VerdictOn (lines Pid) ts (Err f)
  unfolding table
  kana-wrong {f} p = on-wrong _ _ ts f p

  pub visit-is : {r : Verdict} → r ≡ line_at 0 class= (Must (OneOf Classes)) true ts → VerdictOn (lines Pv1) ts r
  unfolding table
  visit-is {r} e = plain [] _ ts (Ok tt) r class= _ (on_none ts) refl refl e

  pub specimen-is : {v0 v1 r : Verdict}
      → v0 ≡ line_at 0 specimen= (Must (Digits 3)) true ts
      → v1 ≡ line_at 1 collected= (Must Time) true ts
      → r ≡ and_then v0 v1 → VerdictOn (lines Spm) ts r
  unfolding table
  specimen-is {v0} {v1} {r} e0 e1 e = rw e (plain _ _ ts v0 v1 collected= _ (plain [] _ ts (Ok tt) v0 specimen= _ (on_none ts) refl refl e0) refl refl e1)

  pub order_is : {v0 v1 r : Verdict}
      → v0 ≡ line_at 0 order= (Must (Digits 15)) true ts
      → v1 ≡ line_at 1 group= (Must (Capitals 8)) true ts
      → r ≡ and_then v0 v1 → VerdictOn (lines Obr) ts r
  unfolding table
  order_is {v0} {v1} {r} e0 e1 e = rw e (plain _ _ ts v0 v1 group= _ (plain [] _ ts (Ok tt) v0 order= _ (on_none ts) refl refl e0) refl refl e1)

  pub item-is : {v0 v1 v2 r : Verdict}
      → v0 ≡ line_at 0 item= (Must (Capitals 17)) true ts
      → v1 ≡ line_at 1 name= (May (Text 48)) true ts
      → v2 ≡ line_at 2 type= (Must (OneOf Types)) true ts
      → r ≡ and_then (and_then v0 v1) v2 → VerdictOn (take 3 (lines Obx)) ts r
  unfolding table
  item-is {v0} {v1} {v2} {r} e0 e1 e2 e =
      let p0 = plain [] _ ts (Ok tt) v0 item= _ (on_none ts) refl refl e0 in
      let p1 = plain _ _ ts v0 v1 name= _ p0 refl refl e1 in
      rw e (plain _ _ ts (and_then v0 v1) v2 type= _ p1 refl refl e2)

  -- the four parts
  pub parts_is : {kind : List ℕ} {also : Bool} (rules : Rules) → kind ≡ at 2 5 → also ≡ joined (parts_of ts) → rules_of rules ≡ value_rules kind → VerdictOn (take 3 (lines Obx)) ts (Ok tt)
      → {v3 v4 v5 v6 r : Verdict}
      → v3 ≡ line_at 3 compare= (May rules.compare) true ts
      → v4 ≡ line_at 4 value= (May rules.value) true ts
      → v5 ≡ line_at 5 join= (May rules.join) true ts
      → v6 ≡ line_at 6 second= (May rules.second) also ts
      → r ≡ and_then (and_then (and_then v3 v4) v5) v6 → VerdictOn (take 7 (lines Obx)) ts r
  unfolding table
  parts_is {kind} {also} rules ek ea er p {v3} {v4} {v5} {v6} {r} e3 e4 e5 e6 e =
      let own : rules_of rules ≡ value_rules (at 2 5) = er ∙ ap value_rules ek in
      let p3 = goes _ _ ts (Ok tt) v3 compare= _ p refl (ap (λ (f : Four Rule). fits false f.compare (at 3 8) && true) own) e3 in
      let p4 = goes _ _ ts v3 v4 value= _ p3 refl (ap (λ (f : Four Rule). fits false f.value (at 4 6) && true) own) e4 in
      let p5 = goes _ _ ts (and_then v3 v4) v5 join= _ p4 refl (ap (λ (f : Four Rule). fits false f.join (at 5 5) && true) own) e5 in
      rw e (goes _ _ ts (and_then (and_then v3 v4) v5) v6 second= _ p5 refl (ap (λ (f : Four Rule). fits false f.second (at 6 7) && also) own ∙ ap (λ (b : Bool). fits false (value_rules (at 2 5)).second (at 6 7) && b) ea) e6)

  pub four-are : (p : Obx5) → p.compare.now ≡ at 3 8 → p.value.now ≡ at 4 6 → p.join.now ≡ at 5 5 → p.second.now ≡ at 6 7 → four_of p ≡ parts_of ts
  unfolding table
  four-are p ec ev ej es = rw (ec, ev, ej, es)

  pub status-is : {t : List ℕ} → t ≡ at 9 7 → t ≡ status_of ts
  unfolding table
  status-is {t} e = e

  pub standing-is : {met : Bool} → met ≡ agrees (status_of ts) (parts_of ts) → VerdictOn (take 7 (lines Obx)) ts (Ok tt) → {v7 v8 v9 r : Verdict}
      → v7 ≡ line_at 7 unit= (May (Text 20)) true ts
      → v8 ≡ line_at 8 flag= (May (OneOf Flags)) true ts
      → v9 ≡ line_at 9 status= (Must (OneOf Statuses)) met ts
      → r ≡ and_then (and_then v7 v8) v9 → VerdictOn (lines Obx) ts r
  unfolding table
  standing-is {met} e p {v7} {v8} {v9} {r} e7 e8 e9 f =
      let p7 = plain _ _ ts (Ok tt) v7 unit= _ p refl refl e7 in
      let p8 = plain _ _ ts v7 v8 flag= _ p7 refl refl e8 in
      rw f (goes _ _ ts (and_then v7 v8) v9 status= _ p8 refl (ap (λ (b : Bool). fits true (rule_of (OneOf Statuses)) (at 9 7) && b) e) e9)

  pub item-wrong : {f : LineFault} → VerdictOn (take 3 (lines Obx)) ts (Err f) → VerdictOn (lines Obx) ts (Err f)
  unfolding table
  item-wrong {f} p = on-wrong _ _ ts f p

  pub parts-wrong : {f : LineFault} → VerdictOn (take 7 (lines Obx)) ts (Err f) → VerdictOn (lines Obx) ts (Err f)
  unfolding table
  parts-wrong {f} p = on-wrong _ _ ts f p

-- ---- a group by its name
-- a group that has no lines
pub group-none : (n : Name) (ts : List (List ℕ)) → (n ≡ Orc) ⊎ (n ≡ Other) → VerdictOn (lines n) ts (Ok tt)
unfolding lines
group-none n ts (inl e) = rw e (on_none ts)
group-none n ts (inr e) = rw e (on_none ts)

-- no group has more than ten lines
pub lines-few : (g : Name) → length (lines g) ≤ 10
unfolding lines
lines-few g = in_names (λ g. length (lines g) ≤ 10) (omega arith) (omega arith) (omega arith) (omega arith) (omega arith) (omega arith) (omega arith) (omega arith) g
