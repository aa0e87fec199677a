-- A read place has no fault exactly if it is right: each number of a fault is 0 where the test of the same place holds. Assumes nothing.
use mathlib.Core.Path.{◌≡◌, refl, sym, ap, ◌∙◌}
use mathlib.Core.Bool.{Bool, true, false, cond, not, ◌&&◌}
use mathlib.Core.List.{List, [], ◌∷◌, map}
use mathlib.Core.Option.{Option, none, some}
use Prim.Native.Nat.{ℕ, zero, suc}
use native.Mathlib.Omega.{arith}
use borrow.Author.Tests.{ltb-true, ltb-false, le-leb, lt-leb, ne_eqb}
use lib.Dec.{eqb, leb, ltb}
use lib.ListN.{length}
use Rattle.rules.specs.declared.Delims.{Delims}
use Rattle.rules.specs.Told.{◌then◌, ◌when◌}
use Rattle.rules.specs.Lists.{bytes, empty, same, all, has, split}
use Rattle.rules.specs.Value.{Rule, too_long, holds, fault}
use Rattle.rules.specs.Escape.{unescape}
use Rattle.rules.specs.Places.{Place, Four, name_rule, value_rules}
use Rattle.rules.specs.View.{component_of, seen_in}
use Rattle.rules.specs.Judge.{fault_or23, judge, judge_all, kanji, kana, name_fault, marked_fault, names_fault, is_sn, raw_four, beside, unjoined, parts_fault, value_fault}
use Rattle.rules.proofs.Logic.{cases, and_assoc}
use Rattle.rules.proofs.Lists.{all_cons}
use Rattle.kept.specs.Kept.{value_ok, component_ok, person_name_ok, names_ok, obx5_ok}

-- no fault
abbrev pub clear : ℕ → Bool
clear n = eqb n 0

some-fault : (n : ℕ) → clear (suc n) ≡ false
some-fault n = ne_eqb (suc n) 0 (λ e. omega arith)

pub clear-then : (a b : ℕ) → clear (a then b) ≡ (clear a && clear b)
clear-then zero b = refl
clear-then (suc a) b = rw (some-fault a)

pub clear-when : (n : ℕ) (t : Bool) → clear (suc n when t) ≡ not t
clear-when n true = some-fault n
clear-when n false = refl

not-not : (t : Bool) → not (not t) ≡ t
not-not true = refl
not-not false = refl

pub clear-unless : (n : ℕ) (t : Bool) → clear (suc n when not t) ≡ t
clear-unless n t = clear-when n (not t) ∙ not-not t

-- ---- a value, a component
value-clear : (q : Bool) (r : Rule) (v : List ℕ) → clear (fault q r v) ≡ value_ok q r v
unfolding fault value_ok
value-clear q r v =
    cases (empty v)
    (λ e. rw e (clear-when 19 q))
    (λ e. rw (e, clear-then (24 when too_long r v) (25 when not (holds r v)), clear-when 23 (too_long r v), clear-unless 24 (holds r v)))

pub component-clear : (d : Delims) (q : Bool) (r : Rule) (raw : List ℕ) → clear (judge d q r raw) ≡ component_ok d q r raw
unfolding judge component_ok
component-clear d q r raw =
    clear-then (21 when same raw (bytes "\"\"")) (fault_or23 q r (unescape d raw))
    ∙ rw (clear-when 20 (same raw (bytes "\"\""))) (ap (λ (t : Bool). not (same raw (bytes "\"\"")) && t) (opened (unescape d raw)))
  where
    opened : (o : Option (List ℕ)) → clear (fault_or23 q r o) ≡ elim o [ none ↦ false | some v ↦ value_ok q r v ]
    opened none = unfold fault_or23 in refl
    opened (some v) = unfold fault_or23 in value-clear q r v

pub components-clear : (d : Delims) (r : List ℕ) (ps : List Place)
    → clear (judge_all d (map (seen_in d r) ps)) ≡ all (λ (p : Place). component_ok d p.required p.rule (component_of d r p.component)) ps
unfolding judge_all seen_in all
components-clear d r [] = refl
components-clear d r (p ∷ ps) =
    let t : Place → Bool = λ p. component_ok d p.required p.rule (component_of d r p.component) in
    clear-then (judge d p.required p.rule (component_of d r p.component)) (judge_all d (map (seen_in d r) ps))
    ∙ rw (component-clear d p.required p.rule (component_of d r p.component), components-clear d r ps) (sym (all_cons t p ps))

-- ---- PID-5
name-clear : (d : Delims) (r : List ℕ) → clear (name_fault d r) ≡ person_name_ok d r
unfolding name_fault person_name_ok
name-clear d r =
    clear-then (judge d true name_rule (component_of d r 1)) (judge d false name_rule (component_of d r 2))
    ∙ rw (component-clear d true name_rule (component_of d r 1), component-clear d false name_rule (component_of d r 2))

kanji-clear : (d : Delims) (o : Option (List ℕ)) → clear (marked_fault d 20 o) ≡ elim o [ none ↦ false | some r ↦ person_name_ok d r ]
unfolding marked_fault
kanji-clear d none = refl
kanji-clear d (some r) = name-clear d r

kana-clear : (d : Delims) (o : Option (List ℕ)) → clear (marked_fault d 0 o) ≡ elim o [ none ↦ true | some r ↦ person_name_ok d r ]
unfolding marked_fault
kana-clear d none = refl
kana-clear d (some r) = name-clear d r

pub names-clear : (d : Delims) (raw : List ℕ) → clear (names_fault d raw) ≡ names_ok d raw
unfolding names_fault names_ok
names-clear d raw =
    clear-then (marked_fault d 20 (kanji d raw)) (marked_fault d 0 (kana d raw)) ∙ rw (kanji-clear d (kanji d raw), kana-clear d (kana d raw))

-- ---- OBX-5
at-most : (n k : ℕ) → not (ltb n k) ≡ leb k n
at-most n k = cases (ltb n k) (λ e. rw (e, lt-leb k n (ltb-true n k e))) (λ e. rw (e, le-leb k n (ltb-false n k e)))

parts-clear : (d : Delims) (r : Four Rule) (c : Four (List ℕ))
    → clear (parts_fault d r c)
    ≡ (component_ok d false r.compare c.compare && (component_ok d (beside c) r.value c.value
    && (component_ok d false r.join c.join && (component_ok d false r.second c.second && not (unjoined c)))))
unfolding parts_fault
parts-clear d r c =
    rw (
      clear-then (judge d false r.compare c.compare) _,
      clear-then (judge d (beside c) r.value c.value) _,
      clear-then (judge d false r.join c.join) _,
      clear-then (judge d false r.second c.second) _,
      component-clear d false r.compare c.compare,
      component-clear d (beside c) r.value c.value,
      component-clear d false r.join c.join,
      component-clear d false r.second c.second,
      clear-when 24 (unjoined c),
    )

pub obx5-clear : (d : Delims) (type raw : List ℕ) → clear (value_fault d type raw) ≡ obx5_ok d type raw
unfolding value_fault obx5_ok
obx5-clear d type raw =
    let c = raw_four d type raw in
    let r = value_rules type in
    rw (
      clear-then (22 when has d.repetition raw) _,
      clear-when 21 (has d.repetition raw),
      clear-then (23 when ltb (cond (is_sn type) 4 1) (length (split d.component raw))) _,
      clear-when 22 (ltb (cond (is_sn type) 4 1) (length (split d.component raw))),
      at-most (cond (is_sn type) 4 1) (length (split d.component raw)),
      parts-clear d r c,
    )
    (simp and_assoc)
