-- The closed fields PID-5 and OBX-5 as they are written, and so PID and OBX. Assumes nothing.
use mathlib.Core.Path.{◌≡◌, refl, sym, ◌∙◌}
use mathlib.Core.Bool.{Bool, true, false, cond, not, ◌&&◌, ◌||◌}
use mathlib.Core.List.{List, [], ◌∷◌, ◌++◌, append-nil}
use mathlib.Core.Option.{Option, none, some}
use Prim.Native.Nat.{ℕ}
use lib.Dec.{ltb}
use lib.ListN.{length}
use Rattle.rules.specs.declared.Delims.{Delims}
use Rattle.rules.specs.declared.Name.TheVariants.{Pid, Obx}
use Rattle.rules.specs.Lists.{bytes, empty, filled, or_empty, same, has, any, all, split, is_one_of}
use Rattle.rules.specs.Shift.{marks, mark, met, is_one, step}
use Rattle.rules.specs.Proper.{Proper}
use Rattle.rules.specs.Escape.{unescape, escape, escape_met, unescape_at}
use Rattle.rules.specs.Value.{Rule, fault, too_long, holds, words, text, fits}
use Rattle.rules.specs.Places.{Four, value_rules}
use Rattle.rules.specs.View.{component_of}
use Rattle.rules.specs.Judge.{plain_of, fault_or23, judge, first_marked, kanji, kana, name_fault, marked_fault, names_fault, is_sn, raw_four, beside, unjoined, parts_fault, value_fault, agrees}
use Rattle.rules.specs.Check.{Context}
use Rattle.rules.specs.Row.{lines, patient, result}
use Rattle.rules.specs.Message.{name_text, names_text, value_text, Numbers, pieces_of}
use Rattle.rules.proofs.Logic.{cases, never, both, neither, not-true, not-false}
use Rattle.rules.proofs.Lists.{empty-is, has-neither}
use Rattle.rules.proofs.Split.{split-none, split-next}
use Rattle.rules.proofs.Modes.{met-append}
use Rattle.rules.proofs.Clean.{Clean, Cleans, clean-keeps, clean-append}
use Rattle.rules.proofs.Escaped.{plain_byte, escaped-back, escaped-empty, escaped-null}
use Rattle.returns.proofs.Fields.{Ok, last, next, also, end, FieldIs, escaped, plain, nothing, single, several, value_in, judge-in, component-is, field_at, ok-cons}
use Rattle.returns.proofs.Groups.{Keeps, no-fault, filled-must, Facts}
use Rattle.returns.proofs.Segments.{tables, Says, seen, piece_at, read-value, word_ok, count_ok, blank_ok}

-- ---- PID-5
-- the first of some repetitions is marked, or another one is
pub first-cons : (d : Delims) (m r : List ℕ) (rs : List (List ℕ)) → first_marked d m (r ∷ rs) ≡ cond (same (component_of d r 8) m) (some r) (first_marked d m rs)
unfolding first_marked
first-cons d m r rs = cases (same (component_of d r 8) m) (λ e. rw (e, first_marked)) (λ e. rw (e, first_marked))

abbrev name_parts : Delims → List ℕ → List ℕ → List ℕ → List (List ℕ)
name_parts d f g mark = escape d f ∷ escape d g ∷ [] ∷ [] ∷ [] ∷ [] ∷ bytes "L" ∷ mark ∷ []

abbrev name_says : List ℕ → List ℕ → List ℕ → List (List ℕ)
name_says f g mark = f ∷ g ∷ [] ∷ [] ∷ [] ∷ [] ∷ bytes "L" ∷ mark ∷ []

abbrev NameIs : Delims → List ℕ → List ℕ → List ℕ → Type 0
NameIs d f g mark = FieldIs d (name_text d f g mark) (name_parts d f g mark) (name_says f g mark)

pub record NamesAre (d : Delims) (n f g kf kg : List ℕ) : Type 0 where
  pub ok : Ok d n
  pub family : plain_of d (component_of d (or_empty (kanji d (met n))) 1) ≡ f
  pub given : plain_of d (component_of d (or_empty (kanji d (met n))) 2) ≡ g
  pub kanafamily : plain_of d (component_of d (or_empty (kana d (met n))) 1) ≡ kf
  pub kanagiven : plain_of d (component_of d (or_empty (kana d (met n))) 2) ≡ kg
  pub fine : names_fault d (met n) ≡ 0

module _ (d : Delims) (p : Proper d) where
  name-field : (f g mark : List ℕ) → Clean f → Clean g → all plain_byte mark ≡ true → NameIs d f g mark
  unfolding name_text
  name-field f g mark hf hg hm =
      let b = nothing d p in
      several d p (escaped d p f hf) (also (escaped d p g hg) (also b (also b (also b (also b
      (also (plain d p (bytes "L") (unfold all plain_byte has any is_one step bytes in refl)) (also (plain d p mark hm) end)))))))

  name-fine : (f g mark : List ℕ) → NameIs d f g mark → Keeps true (text 48) f → Keeps false (text 48) g → name_fault d (met (name_text d f g mark)) ≡ 0
  unfolding name_fault
  name-fine f g mark x hf hg =
      rw (
        judge-in d p (name_text d f g mark) _ _ x true (text 48) 1 hf.0,
        judge-in d p (name_text d f g mark) _ _ x false (text 48) 2 hg.0,
        no-fault true (text 48) f hf.1,
        no-fault false (text 48) g hg.1,
      )

  marked : (f g mark m : List ℕ) (rs : List (List ℕ)) → NameIs d f g mark
      → first_marked d m (met (name_text d f g mark) ∷ rs) ≡ cond (same (met mark) m) (some (met (name_text d f g mark))) (first_marked d m rs)
  marked f g mark m rs x = rw (first-cons d m (met (name_text d f g mark)) rs, component-is d p (name_text d f g mark) _ _ x 8)

  module _ (f g kf kg : List ℕ) (hf : Clean f) (hg : Clean g) (hkf : Clean kf) (hkg : Clean kg)
      (qf : Keeps true (text 48) f) (qg : Keeps false (text 48) g) (qkf : Keeps false (text 48) kf) (qkg : Keeps false (text 48) kg)
      (blank : (filled kf || empty kg) ≡ true) where
    kanji-field : NameIs d f g (bytes "I")
    kanji-field = name-field f g (bytes "I") hf hg (unfold all plain_byte has any is_one step bytes in refl)

    kana-field : NameIs d kf kg (bytes "P")
    kana-field = name-field kf kg (bytes "P") hkf hkg (unfold all plain_byte has any is_one step bytes in refl)

    -- the kanji name first, and what is then taken for the kana name
    names_of : (n : List ℕ) (k : Option (List ℕ)) (rest : List (List ℕ)) → Ok d n → split d.repetition (met n) ≡ met (name_text d f g (bytes "I")) ∷ rest
        → first_marked d (bytes "P") rest ≡ k → plain_of d (component_of d (or_empty k) 1) ≡ kf → plain_of d (component_of d (or_empty k) 2) ≡ kg
        → marked_fault d 0 k ≡ 0 → NamesAre d n f g kf kg
    unfolding names_fault marked_fault or_empty
    names_of n k rest o c m k1 k2 kz =
        let x = kanji-field in
        let ki : kanji d (met n) ≡ some (met (name_text d f g (bytes "I"))) =
        (rw (c, marked f g (bytes "I") (bytes "I") rest x) (unfold met marks mark is_one step bytes same in refl)) in
        let ka : kana d (met n) ≡ k = (rw (c, marked f g (bytes "I") (bytes "P") rest x) (unfold met marks mark is_one step bytes same in m)) in
        record {
          ok = o;
          family = rw ki (value_in d p _ _ _ x 1);
          given = rw ki (value_in d p _ _ _ x 2);
          kanafamily = rw ka k1;
          kanagiven = rw ka k2;
          fine = rw (ki, ka, name-fine f g (bytes "I") x qf qg) kz;
        }

    no-kana : empty kf ≡ true → NamesAre d (names_text d f g kf kg) f g kf kg
    unfolding names_text
    no-kana e =
        let x = kanji-field in
        let ekf : kf ≡ [] = empty-is kf e in
        let ekg : kg ≡ [] = empty-is kg (rw e at blank) in
        rw (e, append-nil)
        (names_of (name_text d f g (bytes "I")) none [] x.ok (split-none d.repetition _ x.once) (unfold first_marked in refl)
        (rw ekf (unfold component_of split unescape unescape_at or_empty in refl)) (rw ekg (unfold component_of split unescape unescape_at or_empty in refl)) (unfold marked_fault in refl))

    with-kana : empty kf ≡ false → NamesAre d (names_text d f g kf kg) f g kf kg
    unfolding names_text
    with-kana e =
        let x = kanji-field in
        let y = kana-field in
        let A = name_text d f g (bytes "I") in
        let B = name_text d kf kg (bytes "P") in
        let oB = ok-cons d p d.repetition B p.repetition p.repetition-field y.ok in
        let a = met-append A (d.repetition ∷ B) (clean-keeps 0x0D A x.ok.clean) in
        let o : Ok d (A ++ (d.repetition ∷ B)) =
        record {
          clean = clean-append A (d.repetition ∷ B) x.ok.clean oB.0.clean;
          free = rw a (has-neither d.field (met A) (met (d.repetition ∷ B)) x.ok.free oB.0.free);
        } in
        let c : split d.repetition (met (A ++ (d.repetition ∷ B))) ≡ met A ∷ met B ∷ [] =
        (rw (a, oB.1, split-next d.repetition (met A) (met B) x.once, split-none d.repetition (met B) y.once)) in
        let k : first_marked d (bytes "P") (met B ∷ []) ≡ some (met B) = marked kf kg (bytes "P") (bytes "P") [] y ∙ (unfold met marks mark is_one step bytes same in refl) in
        let z = name-fine kf kg (bytes "P") y (qkf.0, filled-must true (text 48) kf (rw e) qkf.1) qkg in
        rw e
        (names_of (A ++ (d.repetition ∷ B)) (some (met B)) (met B ∷ []) o c k
        (unfold or_empty in (value_in d p _ _ _ y 1)) (unfold or_empty in (value_in d p _ _ _ y 2)) (unfold marked_fault in z))

    names : NamesAre d (names_text d f g kf kg) f g kf kg
    names = cases (empty kf) no-kana with-kana

  -- ---- PID
  pub pid : (n : Numbers) (id f g kf kg birth sex : List ℕ) (ctx : Context) → Facts (lines Pid) [] (id ∷ f ∷ g ∷ kf ∷ kg ∷ birth ∷ sex ∷ [])
      → Cleans (id ∷ f ∷ g ∷ kf ∷ kg ∷ birth ∷ sex ∷ [])
      → Says d (piece_at (pieces_of d n (patient id f g kf kg birth sex)) 0) ctx ctx (patient id f g kf kg birth sex ∷ [])
  unfolding tables
  pid n id f g kf kg birth sex ctx F C =
      let Ff = F.1 in
      let Fk = Ff.1.1 in
      let Fb = Fk.1.1 in
      let kgk = both (fits false (text 48) kg) (filled kf || empty kg) Fk.1.0.1 in
      let N =
      names f g kf kg C.1.0 C.1.1.0 C.1.1.1.0 C.1.1.1.1.0 Ff.0 Ff.1.0 Fk.0 (Fk.1.0.0, kgk.0) kgk.1 in
      let x3 = single d p (escaped d p id C.0) in
      let x7 = single d p (escaped d p birth C.1.1.1.1.1.0) in
      let x8 = single d p (escaped d p sex C.1.1.1.1.1.1.0) in
      let b = blank_ok d p in
      let o = next (word_ok d p (bytes "PID") refl) (next b (next b (next x3.ok (next b (next N.ok (next b (next x7.ok (next x8.ok last)))))))) in
      let e = field_at d p o Pid in
      record {
        known = refl;
        oks = o;
        row = λ at.
            rw (
              read-value d p x3 _ 3 1 (e at 3),
              read-value d p x7 _ 7 1 (e at 7),
              read-value d p x8 _ 8 1 (e at 8),
              e at 5,
              N.family,
              N.given,
              N.kanafamily,
              N.kanagiven,
            );
        faults = λ at. (
          seen x3 (e at 3) (F.0, tt),
          refl,
          (rw (e at 5) N.fine, refl, (seen x7 (e at 7) (Fb.0, tt), refl, (seen x8 (e at 8) (Fb.1.0, tt), refl, tt))),
        );
        context = λ at. refl;
      }

-- ---- OBX-5
blank-is : (v : List ℕ) → fits false (words "") v ≡ true → v ≡ []
unfolding fault empty too_long holds is_one_of any same split bytes
blank-is [] h = refl
blank-is (x ∷ v) h = never (sym h)

rules-blank : (type : List ℕ) → is_sn type ≡ false → ((value_rules type).compare ≡ words "") × ((value_rules type).join ≡ words "") × ((value_rules type).second ≡ words "")
unfolding value_rules
rules-blank type h = cases (same type (bytes "NM")) (λ e. (rw (h, e), rw (h, e), rw (h, e))) (λ e. (rw (h, e), rw (h, e), rw (h, e)))

abbrev pub four_of : List ℕ → List ℕ → List ℕ → List ℕ → Four (List ℕ)
four_of c v j s = record { compare = c; value = v; join = j; second = s }

record ValueIs (d : Delims) (type n c v j s : List ℕ) : Type 0 where
  ok : Ok d n
  four : raw_four d type (met n) ≡ four_of (met (escape d c)) (met (escape d v)) (met (escape d j)) (met (escape d s))
  once : has d.repetition (met n) ≡ false
  few : ltb (cond (is_sn type) 4 1) (length (split d.component (met n))) ≡ false

module _ (d : Delims) (p : Proper d) where
  nil : met (escape d []) ≡ []
  unfolding escape escape_met met marks
  nil = refl

  plain_back : (v : List ℕ) → Clean v → plain_of d (met (escape d v)) ≡ v
  unfolding or_empty
  plain_back v h = rw (escaped-back d p v h)

  judged : (q : Bool) (r : Rule) (v : List ℕ) → Clean v → Keeps q r v → judge d q r (met (escape d v)) ≡ 0
  unfolding judge fault_or23
  judged q r v h k = rw (escaped-null d p v h k.0, escaped-back d p v h) (no-fault q r v k.1)

  module _ (type c v j s : List ℕ) (hc : Clean c) (hv : Clean v) (hj : Clean j) (hs : Clean s) where
    -- a filled SN; one text, and blank beside it
    full : is_sn type ≡ true → empty v ≡ false → ValueIs d type (value_text d type c v j s) c v j s
    unfolding value_text raw_four
    full t e =
        let x = several d p (escaped d p c hc) (also (escaped d p v hv) (also (escaped d p j hj) (also (escaped d p s hs) end))) in
        rw (t, e) (record { ok = x.ok; four = rw (t, x.cut); once = x.once; few = rw (t, x.cut) })

    alone : (is_sn type && not (empty v)) ≡ false → (is_sn type ≡ true → v ≡ []) → c ≡ [] → j ≡ [] → s ≡ [] → ValueIs d type (value_text d type c v j s) c v j s
    unfolding value_text raw_four escape escape_met met marks
    alone t ev ec ej es =
        let x = single d p (escaped d p v hv) in
        rw (t, ec, ej, es, nil)
        (record {
          ok = x.ok;
          four = cases (is_sn type) (λ q. rw (q, x.cut, ev q, nil)) (λ q. rw (q, x.cut));
          once = x.once;
          few = cases (is_sn type) (λ q. rw (q, x.cut)) (λ q. rw (q, x.cut));
        })

    value-text : fits false (value_rules type).compare c ≡ true → fits false (value_rules type).join j ≡ true → fits false (value_rules type).second s ≡ true
        → (filled v || not (beside (four_of c v j s))) ≡ true → ValueIs d type (value_text d type c v j s) c v j s
    unfolding beside
    value-text qc qj qs r =
        cases (is_sn type)
        (λ t. cases (empty v)
        (λ e.
        let z1 = neither (filled c || filled j) (filled s) (not-true (filled c || filled j || filled s) (rw e at r)) in
        let z2 = neither (filled c) (filled j) z1.0 in
        alone (rw (t, e)) (λ q. empty-is v e) (empty-is c (not-false (empty c) z2.0)) (empty-is j (not-false (empty j) z2.1)) (empty-is s (not-false (empty s) z1.1)))
        (λ e. full t e))
        (λ t.
        let q = rules-blank type t in
        alone (rw t) (λ u. never (sym u ∙ t)) (blank-is c (rw q.0 at qc)) (blank-is j (rw q.1 at qj)) (blank-is s (rw q.2 at qs)))

    -- what is judged of the raw parts is judged of the texts
    abbrev raws : Four (List ℕ)
    raws = four_of (met (escape d c)) (met (escape d v)) (met (escape d j)) (met (escape d s))

    raw-beside : beside raws ≡ beside (four_of c v j s)
    unfolding beside
    raw-beside = rw (escaped-empty d p c hc, escaped-empty d p j hj, escaped-empty d p s hs)

    raw-unjoined : unjoined raws ≡ unjoined (four_of c v j s)
    unfolding unjoined
    raw-unjoined = rw (escaped-empty d p j hj, escaped-empty d p s hs)

    raw-agrees : (status : List ℕ) → agrees status raws ≡ agrees status (four_of c v j s)
    unfolding agrees
    raw-agrees status = rw (raw-beside, escaped-empty d p v hv)

    parts-fine : (r : Four Rule) → Keeps false r.compare c → Keeps false r.value v → Keeps false r.join j → Keeps false r.second s
        → unjoined (four_of c v j s) ≡ false → (filled v || not (beside (four_of c v j s))) ≡ true → parts_fault d r raws ≡ 0
    unfolding parts_fault
    parts-fine r kc kv kj ks u w =
        rw (
          judged false r.compare c hc kc,
          raw-beside,
          judged (beside (four_of c v j s)) r.value v hv (kv.0, filled-must (beside (four_of c v j s)) r.value v w kv.1),
          judged false r.join j hj kj,
          judged false r.second s hs ks,
          raw-unjoined,
          u,
        )

  -- ---- OBX
  pub obx : (n : Numbers) (item name type c v j s unit flag status : List ℕ) (ctx : Context)
      → Facts (lines Obx) [] (item ∷ name ∷ type ∷ c ∷ v ∷ j ∷ s ∷ unit ∷ flag ∷ status ∷ [])
      → Cleans (item ∷ name ∷ type ∷ c ∷ v ∷ j ∷ s ∷ unit ∷ flag ∷ status ∷ [])
      → Says d (piece_at (pieces_of d n (result item name type c v j s unit flag status)) 0) ctx ctx (result item name type c v j s unit flag status ∷ [])
  unfolding tables value_fault
  obx n item name type c v j s unit flag status ctx F C =
      let Ft = F.1.1 in
      let Fv = Ft.1 in
      let Fs = Fv.1.1.1 in
      let Fu = Fs.1 in
      let Cc = C.1.1.1 in
      let Cu = Cc.1.1.1.1 in
      let W = four_of c v j s in
      let r = value_rules type in
      let kc : Keeps false r.compare c = (Fv.0.0, (both (fits false r.compare c) true Fv.0.1).0) in
      let kv : Keeps false r.value v = (Fv.1.0.0, (both (fits false r.value v) true Fv.1.0.1).0) in
      let kj : Keeps false r.join j = (Fv.1.1.0.0, (both (fits false r.join j) true Fv.1.1.0.1).0) in
      let s0 = both (fits false r.second s) (not (unjoined W) && (filled v || not (beside W))) Fs.0.1 in
      let s1 = both (not (unjoined W)) (filled v || not (beside W)) s0.1 in
      let z0 = both (fits true (words "F P C I X") status) (agrees status W) Fu.1.1.0.1 in
      let X = value-text type c v j s Cc.0 Cc.1.0 Cc.1.1.0 Cc.1.1.1.0 kc.1 kj.1 s0.0 s1.1 in
      let x2 = single d p (escaped d p type C.1.1.0) in
      let x3 = several d p (escaped d p item C.0) (also (escaped d p name C.1.0) (also (plain d p (bytes "JC10") refl) end)) in
      let x6 = single d p (escaped d p unit Cu.0) in
      let x8 = single d p (escaped d p flag Cu.1.0) in
      let x11 = single d p (escaped d p status Cu.1.1.0) in
      let b = blank_ok d p in
      let o =
      next (word_ok d p (bytes "OBX") refl) (next (count_ok d p n.result) (next x2.ok (next x3.ok (next b (next X.ok (next x6.ok (next b (next x8.ok
      (next b (next b (next x11.ok last))))))))))) in
      let e = field_at d p o Obx in
      record {
        known = refl;
        oks = o;
        row = λ at.
            rw (
              read-value d p x3 _ 3 1 (e at 3),
              read-value d p x3 _ 3 2 (e at 3),
              read-value d p x2 _ 2 1 (e at 2),
              read-value d p x6 _ 6 1 (e at 6),
              read-value d p x8 _ 8 1 (e at 8),
              read-value d p x11 _ 11 1 (e at 11),
              e at 5,
              X.four,
              plain_back c Cc.0,
              plain_back v Cc.1.0,
              plain_back j Cc.1.1.0,
              plain_back s Cc.1.1.1.0,
            );
        faults = λ at. (
          seen x2 (e at 2) (Ft.0, tt),
          refl,
          (
            seen x3 (e at 3) (F.0, (F.1.0, ((refl, refl), tt))),
            refl,
            (
              rw (read-value d p x2 _ 2 1 (e at 2), e at 5, X.once, X.few, X.four)
                  (parts-fine type c v j s Cc.0 Cc.1.0 Cc.1.1.0 Cc.1.1.1.0 r kc kv kj (Fs.0.0, s0.0) (not-true (unjoined W) s1.0) s1.1),
              refl,
              (
                seen x6 (e at 6) (Fu.0, tt),
                refl,
                (
                  seen x8 (e at 8) (Fu.1.0, tt),
                  refl,
                  (
                    seen x11 (e at 11) ((Fu.1.1.0.0, z0.0), tt),
                    rw (
                      read-value d p x11 _ 11 1 (e at 11),
                      read-value d p x2 _ 2 1 (e at 2),
                      e at 5,
                      X.four,
                      raw-agrees type c v j s Cc.0 Cc.1.0 Cc.1.1.0 Cc.1.1.1.0 status,
                      z0.1,
                    ),
                    tt,
                  ),
                ),
              ),
            ),
          ),
        );
        context = λ at. refl;
      }
