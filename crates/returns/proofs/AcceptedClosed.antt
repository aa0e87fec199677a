-- PID and OBX of an accepted message. Assumes nothing.
use mathlib.Core.Path.{◌≡◌, refl, ap, ◌∙◌}
use mathlib.Core.Bool.{Bool, true, false, cond, not, ◌&&◌, ◌||◌}
use mathlib.Core.List.{List, [], ◌∷◌}
use mathlib.Core.Option.{Option, none, some}
use Prim.Native.Nat.{ℕ, suc, ◌+◌, ◌≤◌}
use native.Mathlib.Omega.{arith}
use lib.Dec.{ltb}
use lib.ListN.{length}
use Rattle.rules.specs.declared.Delims.{Delims}
use Rattle.rules.specs.declared.Name.TheVariants.{Pid, Obx}
use Rattle.rules.specs.Told.{◌when◌}
use Rattle.rules.specs.Lists.{bytes, empty, filled, or_empty, same, has, split, onto, nth, is_one_of}
use Rattle.rules.specs.Proper.{Proper}
use Rattle.rules.specs.Value.{Rule, fault, holds, words, text, fits}
use Rattle.rules.specs.Escape.{unescape, unescape_at}
use Rattle.rules.specs.Places.{places, Four, value_rules}
use Rattle.rules.specs.View.{field_of, component_of, first_repetition}
use Rattle.rules.specs.Judge.{fault_or23, plain_of, judge, first_marked, kanji, kana, name_fault, marked_fault, names_fault, is_sn, raw_four, beside, unjoined, parts_fault, value_fault, agrees}
use Rattle.rules.specs.Check.{Context}
use Rattle.rules.specs.Row.{lines}
use Rattle.rules.proofs.Logic.{cases, never, not-false, then-none, when-none}
use Rattle.rules.proofs.Lists.{same-eq, from, one_word}
use Rattle.rules.proofs.Measures.{sum, pieces-fit, piece-there, nth-short, split-sum}
use Rattle.returns.proofs.Groups.{must-may, must-filled, meets-rule}
use Rattle.returns.proofs.Closed.{first-cons, four_of}
use Rattle.returns.proofs.Whole.{Whole, whole-nth, whole-nil, Fair, fair}
use Rattle.returns.proofs.Measures.{lines-size}
use Rattle.returns.proofs.Accepted.{Zeros, whole-field, whole-component, GoodSeg, sources, seg, readings, component-short}

-- a filled text has a byte
long-one : (v : List ℕ) → empty v ≡ false → 1 ≤ length v
unfolding empty
long-one [] h = never h
long-one (x ∷ v) h = omega arith

-- a component that must be filled is there, raw
there : {r : Rule} {raw v : List ℕ} → Fair true r raw v → 1 ≤ length raw
there {r} {raw} {v} f = omega (arith, f.size, long-one v (must-filled r v f.keeps.1))

-- ---- PID-5
-- a marked repetition is one of them; blank where there is none
abbrev marked : Delims → List ℕ → List (List ℕ) → List ℕ
marked d m rs = or_empty (first_marked d m rs)

record Found (d : Delims) (m : List ℕ) (rs : List (List ℕ)) : Type 0 where
  i : ℕ
  is : marked d m rs ≡ nth rs i

marked-cons : (d : Delims) (m r : List ℕ) (rs : List (List ℕ)) → marked d m (r ∷ rs) ≡ cond (same (component_of d r 8) m) r (marked d m rs)
unfolding or_empty
marked-cons d m r rs = ap or_empty (first-cons d m r rs) ∙ cases (same (component_of d r 8) m) (λ e. rw e) (λ e. rw e)

found : (d : Delims) (m : List ℕ) (rs : List (List ℕ)) → Found d m rs
found d m [] = record { i = 0; is = unfold first_marked or_empty in refl }
found d m (r ∷ rs) =
    let f = found d m rs in
    cases (same (component_of d r 8) m)
    (λ e. record { i = 0; is = rw (marked-cons d m r rs, e) })
    (λ e. record { i = suc f.i; is = rw (marked-cons d m r rs, e) f.is })

marked-short : (d : Delims) (m : List ℕ) (rs : List (List ℕ)) → length (marked d m rs) ≤ sum rs
unfolding sum
marked-short d m [] = unfold first_marked or_empty in omega arith
marked-short d m (r ∷ rs) =
    rw (marked-cons d m r rs)
    (cases (same (component_of d r 8) m) (λ e. rw e (omega arith)) (λ e. rw e (omega (arith, marked-short d m rs))))

-- two marks, two repetitions
marked-both : (d : Delims) (a b : List ℕ) → same a b ≡ false → (rs : List (List ℕ)) → length (marked d a rs) + length (marked d b rs) ≤ sum rs
unfolding sum
marked-both d a b n [] = unfold first_marked or_empty in omega arith
marked-both d a b n (r ∷ rs) =
    rw (marked-cons d a r rs, marked-cons d b r rs)
    (cases (same (component_of d r 8) a)
    (λ e.
    let q : same (component_of d r 8) b ≡ false = rw (same-eq (component_of d r 8) a e) n in
    rw (e, q) (omega (arith, marked-short d b rs)))
    (λ e. cases (same (component_of d r 8) b)
    (λ f. rw (e, f) (omega (arith, marked-short d a rs)))
    (λ f. rw (e, f) (omega (arith, marked-both d a b n rs)))))

abbrev part : Delims → ℕ → List ℕ → List ℕ
part d c r = plain_of d (component_of d r c)

abbrev NameFair : Delims → Bool → ℕ → List ℕ → Type 0
NameFair d q c r = Fair q (text 48) (component_of d r c) (part d c r)

-- a kana name: blank where there is none
record KanaGood (d : Delims) (r : List ℕ) : Type 0 where
  f : NameFair d false 1 r
  g : NameFair d false 2 r
  blanks : (filled (part d 1 r) || empty (part d 2 r)) ≡ true

abbrev kanji_of : Delims → List ℕ → List ℕ
kanji_of d raw = or_empty (kanji d raw)

abbrev kana_of : Delims → List ℕ → List ℕ
kana_of d raw = or_empty (kana d raw)

record NamesGood (d : Delims) (raw : List ℕ) : Type 0 where
  f : NameFair d true 1 (kanji_of d raw)
  g : NameFair d false 2 (kanji_of d raw)
  k : KanaGood d (kana_of d raw)
  size : length (part d 1 (kanji_of d raw)) + length (part d 2 (kanji_of d raw)) + length (part d 1 (kana_of d raw)) + length (part d 2 (kana_of d raw)) ≤ length raw

module _ (d : Delims) (p : Proper d) where
  name-good : (r : List ℕ) → Whole r → name_fault d r ≡ 0 → NameFair d true 1 r × NameFair d false 2 r
  unfolding name_fault
  name-good r W h =
      let z = then-none (judge d true (text 48) (component_of d r 1)) (judge d false (text 48) (component_of d r 2)) h in
      (fair d p true (text 48) (component_of d r 1) (whole-component d p r W 1) z.0, fair d p false (text 48) (component_of d r 2) (whole-component d p r W 2) z.1)

  marked-whole : (m raw : List ℕ) → Whole raw → Whole (marked d m (split d.repetition raw))
  marked-whole m raw W = let f = found d m (split d.repetition raw) in rw f.is (whole-nth d.repetition p.repetition raw W f.i)

  two-short : (r : List ℕ) → length (component_of d r 1) + length (component_of d r 2) ≤ length r
  unfolding component_of sum from
  two-short r = omega (arith, pieces-fit d.component r 2)

  nil-fair : (c : ℕ) → component_of d [] c ≡ [] → NameFair d false c []
  nil-fair c e = rw e (fair d p false (text 48) [] whole-nil (unfold judge same unescape unescape_at fault_or23 fault empty bytes in refl))

  kanji-good : (o : Option (List ℕ)) → Whole (or_empty o) → marked_fault d 20 o ≡ 0 → NameFair d true 1 (or_empty o) × NameFair d false 2 (or_empty o)
  unfolding or_empty marked_fault
  kanji-good none W h = absurd (omega arith)
  kanji-good (some r) W h = name-good r W h

  kana-good : (o : Option (List ℕ)) → Whole (or_empty o) → marked_fault d 0 o ≡ 0 → KanaGood d (or_empty o)
  unfolding or_empty marked_fault
  kana-good none W h =
      record {
        f = nil-fair 1 (unfold component_of split in refl);
        g = nil-fair 2 (unfold component_of split in refl);
        blanks = unfold component_of split unescape unescape_at empty in refl;
      }
  kana-good (some r) W h =
      let k = name-good r W h in
      let k1 = k.0 in
      record {
        f = record { keeps = (k1.keeps.0, must-may true (text 48) _ k1.keeps.1); clean = k1.clean; size = k1.size; blank = k1.blank };
        g = k.1;
        blanks = rw (must-filled (text 48) (part d 1 r) k1.keeps.1);
      }

  names-good : (raw : List ℕ) → Whole raw → names_fault d raw ≡ 0 → NamesGood d raw
  unfolding names_fault
  names-good raw W h =
      let z = then-none (marked_fault d 20 (kanji d raw)) (marked_fault d 0 (kana d raw)) h in
      let a = kanji-good (kanji d raw) (marked-whole (bytes "I") raw W) z.0 in
      let b = kana-good (kana d raw) (marked-whole (bytes "P") raw W) z.1 in
      let s = marked-both d (bytes "I") (bytes "P") (unfold same bytes in refl) (split d.repetition raw) in
      record {
        f = a.0;
        g = a.1;
        k = b;
        size = omega (arith, s, split-sum d.repetition raw, two-short (kanji_of d raw), two-short (kana_of d raw), a.0.size, a.1.size, b.f.size, b.g.size);
      }

  -- ---- PID: its name has three bytes
  pub pid-good : (ctx : Context) (at : ℕ) (body : List ℕ) → Whole body → 3 ≤ length (nth (split d.field body) 0) → Zeros d ctx (seg Pid at body) (places Pid)
      → GoodSeg (seg Pid at body) (sources d (seg Pid at body))
  unfolding readings
  pid-good ctx at body W named Z =
      let k = seg Pid at body in
      let f3 = Z.0.0 in
      let N = names-good (field_of d k 5) (whole-field d p k W 5) Z.2.0 in
      let f7 = Z.2.2.0.0 in
      let f8 = Z.2.2.2.0.0 in
      let kg : (same (part d 2 (kana_of d (field_of d k 5))) (bytes "\"\"") ≡ false)
      × ((fits false (text 48) (part d 2 (kana_of d (field_of d k 5))) && (filled (part d 1 (kana_of d (field_of d k 5))) || empty (part d 2 (kana_of d (field_of d k 5))))) ≡ true) =
      (N.k.g.keeps.0, rw N.k.g.keeps.1 N.k.blanks) in
      let c8 = component-short d (field_of d k 8) 1 in
      let l8 : 1 ≤ length (nth (split d.field body) 8) = omega (arith, there f8) in
      record {
        ok = (f3.keeps, (N.f.keeps, (N.g.keeps, (N.k.f.keeps, (kg, (f7.keeps, (f8.keeps, tt)))))));
        tidy = (f3.clean, (N.f.clean, (N.g.clean, (N.k.f.clean, (N.k.g.clean, (f7.clean, (f8.clean, tt)))))));
        size = rw (lines-size (lines Pid) (sources d k))
            (omega (
              arith,
              pieces-fit d.field body 9,
              piece-there d.field body 8 l8,
              N.size,
              f3.size,
              f7.size,
              f8.size,
              component-short d (field_of d k 3) 1,
              component-short d (field_of d k 7) 1,
              c8,
            ));
      }

-- ---- OBX-5
abbrev plain_four : Delims → Four (List ℕ) → Four (List ℕ)
plain_four d r = four_of (plain_of d r.compare) (plain_of d r.value) (plain_of d r.join) (plain_of d r.second)

record FourGood (d : Delims) (rules : Four Rule) (r : Four (List ℕ)) : Type 0 where
  c : Fair false rules.compare r.compare (plain_of d r.compare)
  v : Fair (beside r) rules.value r.value (plain_of d r.value)
  j : Fair false rules.join r.join (plain_of d r.join)
  s : Fair false rules.second r.second (plain_of d r.second)
  joined : unjoined r ≡ false

module _ (d : Delims) (p : Proper d) where
  four-sum : (type raw : List ℕ)
      → length (raw_four d type raw).compare + length (raw_four d type raw).value + length (raw_four d type raw).join + length (raw_four d type raw).second ≤ length raw
  unfolding raw_four sum from
  four-sum type raw =
      cases (is_sn type)
      (λ e. rw e (omega (arith, pieces-fit d.component raw 4)))
      (λ e. rw e (omega (arith, nth-short d.component raw 0)))

  four-good : (type raw : List ℕ) → Whole raw → value_fault d type raw ≡ 0 → FourGood d (value_rules type) (raw_four d type raw)
  unfolding value_fault parts_fault raw_four
  four-good type raw W h =
      let rules = value_rules type in
      let r = raw_four d type raw in
      let w : (i : ℕ) → Whole (nth (split d.component raw) i) = whole-nth d.component p.component raw W in
      let parts = (then-none (23 when ltb (cond (is_sn type) 4 1) (length (split d.component raw))) _ (then-none (22 when has d.repetition raw) _ h).1).1 in
      let z0 = then-none (judge d false rules.compare r.compare) _ parts in
      let z1 = then-none (judge d (beside r) rules.value r.value) _ z0.1 in
      let z2 = then-none (judge d false rules.join r.join) _ z1.1 in
      let z3 = then-none (judge d false rules.second r.second) (25 when unjoined r) z2.1 in
      record {
        c = fair d p false rules.compare r.compare (cases (is_sn type) (λ e. rw e (w 0)) (λ e. rw e whole-nil)) z0.0;
        v = fair d p (beside r) rules.value r.value (cases (is_sn type) (λ e. rw e (w 1)) (λ e. rw e (w 0))) z1.0;
        j = fair d p false rules.join r.join (cases (is_sn type) (λ e. rw e (w 2)) (λ e. rw e whole-nil)) z2.0;
        s = fair d p false rules.second r.second (cases (is_sn type) (λ e. rw e (w 3)) (λ e. rw e whole-nil)) z3.0;
        joined = when-none 24 (unjoined r) z3.1;
      }

  module _ (rules : Four Rule) (r : Four (List ℕ)) (F : FourGood d rules r) where
    plain-beside : beside (plain_four d r) ≡ beside r
    unfolding beside
    plain-beside = rw (F.c.blank, F.j.blank, F.s.blank)

    plain-joined : unjoined (plain_four d r) ≡ false
    unfolding unjoined
    plain-joined = rw (F.j.blank, F.s.blank) F.joined

    plain-agrees : (status : List ℕ) → agrees status (plain_four d r) ≡ agrees status r
    unfolding agrees
    plain-agrees status = rw (plain-beside, F.v.blank)

    value_there : (filled (plain_of d r.value) || not (beside (plain_four d r))) ≡ true
    value_there = rw plain-beside (go (beside r) F.v.keeps.1)
      where
        go : (q : Bool) → fits q rules.value (plain_of d r.value) ≡ true → (filled (plain_of d r.value) || not q) ≡ true
        go true h = rw (must-filled rules.value (plain_of d r.value) h)
        go false h = cases (empty (plain_of d r.value)) (λ e. rw e) (λ e. rw e)

  -- ---- OBX: its name, eleven separators, and `JC10` behind two
  word-is : (v : List ℕ) → fits true (words "JC10") v ≡ true → v ≡ bytes "JC10"
  word-is v h = one_word v (bytes "JC10") (unfold holds is_one_of split bytes onto in (meets-rule true (words "JC10") v (must-filled (words "JC10") v h) h).1)

  item-short : (r v : List ℕ) → Fair true (words "JC10") (component_of d (first_repetition d r) 3) v
      → length (component_of d (first_repetition d r) 1) + length (component_of d (first_repetition d r) 2) + 6 ≤ length r
  unfolding component_of sum from bytes
  item-short r v f =
      let n : length (first_repetition d r) ≤ length r = unfold first_repetition in nth-short d.repetition r 0 in
      let e : length v ≡ 4 = ap length (word-is v f.keeps.1) in
      let t = piece-there d.component (first_repetition d r) 2 (omega (arith, f.size)) in
      omega (arith, f.size, pieces-fit d.component (first_repetition d r) 3)

  pub obx-good : (ctx : Context) (at : ℕ) (body : List ℕ) → Whole body → 3 ≤ length (nth (split d.field body) 0) → Zeros d ctx (seg Obx at body) (places Obx)
      → GoodSeg (seg Obx at body) (sources d (seg Obx at body))
  unfolding readings
  obx-good ctx at body W named Z =
      let k = seg Obx at body in
      let f2 = Z.0.0 in
      let fi = Z.2.0.0 in
      let fn = Z.2.0.1.0 in
      let fj = Z.2.0.1.1.0 in
      let f6 = Z.2.2.2.0.0 in
      let f8 = Z.2.2.2.2.0.0 in
      let f11 = Z.2.2.2.2.2.0.0 in
      let type = plain_of d (component_of d (first_repetition d (field_of d k 2)) 1) in
      let status = plain_of d (component_of d (first_repetition d (field_of d k 11)) 1) in
      let raw = field_of d k 5 in
      let R = raw_four d type raw in
      let r = value_rules type in
      let F = four-good type raw (whole-field d p k W 5) Z.2.2.0 in
      let a : agrees status R ≡ true = not-false (agrees status R) (when-none 25 (not (agrees status R)) (then-none (26 when not (agrees status R)) _ Z.2.2.2.2.2.1).0) in
      let c11 = component-short d (field_of d k 11) 1 in
      let l11 : 1 ≤ length (nth (split d.field body) 11) = omega (arith, there f11) in
      record {
        ok = (
          fi.keeps,
          (
            fn.keeps,
            (
              f2.keeps,
              (
                (F.c.keeps.0, rw F.c.keeps.1),
                (
                  (F.v.keeps.0, rw (must-may (beside R) r.value (plain_of d R.value) F.v.keeps.1)),
                  (
                    (F.j.keeps.0, rw F.j.keeps.1),
                    (
                      (F.s.keeps.0, rw (F.s.keeps.1, plain-joined r R F) (value_there r R F)),
                      (f6.keeps, (f8.keeps, ((f11.keeps.0, rw (f11.keeps.1, plain-agrees r R F status, a)), tt))),
                    ),
                  ),
                ),
              ),
            ),
          ),
        );
        tidy = (fi.clean, (fn.clean, (f2.clean, (F.c.clean, (F.v.clean, (F.j.clean, (F.s.clean, (f6.clean, (f8.clean, (f11.clean, tt))))))))));
        size = rw (lines-size (lines Obx) (sources d k))
            (omega (
              arith,
              pieces-fit d.field body 12,
              piece-there d.field body 11 l11,
              item-short (field_of d k 3) _ fj,
              four-sum type raw,
              fi.size,
              fn.size,
              f2.size,
              F.c.size,
              F.v.size,
              F.j.size,
              F.s.size,
              f6.size,
              f8.size,
              f11.size,
              c11,
              component-short d (field_of d k 2) 1,
              component-short d (field_of d k 6) 1,
              component-short d (field_of d k 8) 1,
            ));
      }
