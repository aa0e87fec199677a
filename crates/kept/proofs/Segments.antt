-- The segments' places are told to be right exactly if each read place is, status and value agree, and each ORC has the order number of what
-- stands before it. Assumes nothing.
use mathlib.Core.Path.{◌≡◌, refl, sym, ap, ◌∙◌}
use mathlib.Core.Bool.{Bool, true, false, not, ◌&&◌, ◌||◌}
use mathlib.Core.List.{List, [], ◌∷◌, map}
use Prim.Native.Nat.{ℕ, zero, suc}
use Rattle.rules.specs.declared.Delims.{Delims}
use Rattle.rules.specs.declared.Name.{Name}
use Rattle.rules.specs.declared.Name.TheVariants.{Obr, Orc, Obx, Other}
use Rattle.rules.specs.Told.{Told, gives, refused, ◌>>◌, ◌when◌}
use Rattle.rules.specs.Lists.{bytes, same, all, any, has}
use Rattle.rules.specs.Frame.{is, Known, after, start, order_fault}
use Rattle.rules.specs.Places.{Field, reads, closed, charset, names, value, places, field_no}
use Rattle.rules.specs.View.{field_of, first_repetition, seen_in, part_of, segment_of, part_at, seen_at}
use Rattle.rules.specs.Judge.{judge_all, raw_four, agrees}
use Rattle.rules.specs.Check.{Context, unsaid, value_at, part_no, own_fault, later_fault, part_fault, fault_told, parts_told, context_after, places_told}
use Rattle.rules.proofs.Logic.{cases, never, nothing-some, and-false, both}
use Rattle.rules.proofs.Lists.{all_cons, same-eq, same_self}
use Rattle.rules.proofs.Names.{in_names, name-is}
use Rattle.kept.specs.Kept.{part_value, field_ok, segment_ok, status_ok, OrdersAgree}
use Rattle.kept.proofs.Faultless.{clear, clear-then, clear-when, clear-unless, components-clear, names-clear, obx5-clear}
use Rattle.rules.proofs.Ordered.{orc-after}
use Rattle.kept.proofs.Order.{reached, follows}

-- ---- whether an answer gives
abbrev pub taken : {A : Type 0} → Told A → Bool
taken (gives a) = true
taken (refused n s f) = false

pub taken-gives : (t : Told (Unit {0})) → taken t ≡ true → t ≡ gives tt
taken-gives (gives a) h = refl
taken-gives (refused n s f) h = never (sym h)

taken-both : {A : Type 0} (t : Told (Unit {0})) (u : Told A) → taken (t >> u) ≡ (taken t && taken u)
taken-both (gives a) u = refl
taken-both (refused n s f) u = refl

taken-fault : (i f n : ℕ) → taken (fault_told i f n) ≡ clear n
unfolding fault_told
taken-fault i f zero = refl
taken-fault i f (suc n) = sym (clear-when n true)

-- ---- a segment
abbrev pub seg : Name → ℕ → List ℕ → Known
seg n at body = record { name = n; start = at; body = body }

-- OBX-2 as the view shows it, where OBX-5 is read
abbrev Typed : Delims → Known → Field → Type 0
Typed d k (reads f ps) = Unit
Typed d k (closed f charset) = Unit
Typed d k (closed f names) = Unit
Typed d k (closed f value) = value_at d (segment_of d k) 2 1 ≡ part_value d k 2 1

abbrev AllTyped : Delims → Known → List Field → Type 0
AllTyped d k [] = Unit
AllTyped d k (F ∷ fs) = Typed d k F × AllTyped d k fs

all_typed : (d : Delims) (at : ℕ) (body : List ℕ) (n : Name) → AllTyped d (seg n at body) (places n)
unfolding places segment_of part_of seen_in part_at seen_at
all_typed d at body n =
    in_names (λ n. AllTyped d (seg n at body) (places n))
    (tt, (tt, (tt, (tt, (tt, (tt, tt)))))) (tt, (tt, (tt, (tt, tt)))) (tt, tt) (tt, (tt, tt)) (tt, (tt, tt)) (tt, (tt, tt))
    (tt, (tt, (refl, (tt, (tt, (tt, tt)))))) tt n

field-clear : (d : Delims) (k : Known) (F : Field) → Typed d k F → clear (own_fault d (segment_of d k) (part_of d k F)) ≡ field_ok d k F
unfolding own_fault part_of field_ok
field-clear d k (reads f ps) t =
    clear-then (22 when has d.repetition (field_of d k f)) (judge_all d (map (seen_in d (first_repetition d (field_of d k f))) ps))
    ∙ rw (clear-when 21 (has d.repetition (field_of d k f)), components-clear d (first_repetition d (field_of d k f)) ps)
field-clear d k (closed f charset) t = clear-unless 24 (same (field_of d k f) (d.repetition ∷ bytes "ISO IR87"))
field-clear d k (closed f names) t = names-clear d (field_of d k f)
field-clear d k (closed f value) t = rw t (obx5-clear d (part_value d k 2 1) (field_of d k f))

-- ORC-2 against the context; what 26 and 27 say of a segment
abbrev order_ok : Delims → Context → Known → Bool
order_ok d x k = not (is k.name Orc) || same (part_value d k 2 1) x.order

abbrev later_ok : Delims → Context → Known → Field → Bool
later_ok d x k F = clear (later_fault d x (segment_of d k) (field_no F))

later-clear : (d : Delims) (x : Context) (at : ℕ) (body : List ℕ) (n : Name)
    → all (later_ok d x (seg n at body)) (places n) ≡ (status_ok d (seg n at body) && order_ok d x (seg n at body))
unfolding places later_fault all status_ok segment_of part_of seen_in part_at seen_at
later-clear d x at body n =
    in_names (λ n. all (later_ok d x (seg n at body)) (places n) ≡ (status_ok d (seg n at body) && order_ok d x (seg n at body)))
    refl refl refl refl refl
    (cases (same (part_value d (seg Orc at body) 2 1) x.order) (λ e. rw (e, all)) (λ e. rw (e, all)))
    (let k = seg Obx at body in cases (agrees (part_value d k 11 1) (raw_four d (part_value d k 2 1) (field_of d k 5))) (λ e. rw (e, all)) (λ e. rw (e, all)))
    refl n

-- the parts of a segment, one by one
swap : (a b c e : Bool) → ((a && b) && (c && e)) ≡ ((a && c) && (b && e))
swap true true c e = refl
swap true false c e = sym (and-false c)
swap false b c e = refl

part-clear : (d : Delims) (x : Context) (k : Known) (F : Field) → Typed d k F → clear (part_fault d x (segment_of d k) (part_of d k F)) ≡ (field_ok d k F && later_ok d x k F)
unfolding part_fault
part-clear d x k F t =
    let s = segment_of d k in
    clear-then (own_fault d s (part_of d k F)) (later_fault d x s (part_no (part_of d k F))) ∙ rw (field-clear d k F t, numbered F)
  where
    numbered : (F : Field) → part_no (part_of d k F) ≡ field_no F
    numbered (reads n ps) = unfold part_of part_no in refl
    numbered (closed n form) = unfold part_of part_no in refl

parts-taken : (d : Delims) (x : Context) (i : ℕ) (k : Known) (fs : List Field) → AllTyped d k fs
    → taken (parts_told d x i (segment_of d k) (map (part_of d k) fs)) ≡ (all (field_ok d k) fs && all (later_ok d x k) fs)
unfolding parts_told all
parts-taken d x i k [] t = refl
parts-taken d x i k (F ∷ fs) t =
    let s = segment_of d k in
    let p = part_of d k F in
    taken-both (fault_told i (part_no p) (part_fault d x s p)) (parts_told d x i s (map (part_of d k) fs))
    ∙ rw (
      taken-fault i (part_no p) (part_fault d x s p),
      part-clear d x k F t.0,
      parts-taken d x i k fs t.1,
      all_cons (field_ok d k) F fs,
      all_cons (later_ok d x k) F fs,
    )
    (swap (field_ok d k F) (later_ok d x k F) (all (field_ok d k) fs) (all (later_ok d x k) fs))

segment-taken : (d : Delims) (x : Context) (i : ℕ) (k : Known)
    → taken (parts_told d x i (segment_of d k) (segment_of d k).parts) ≡ (segment_ok d k && (status_ok d k && order_ok d x k))
unfolding segment_ok segment_of
segment-taken d x i k =
    parts-taken d x i k (places k.name) (all_typed d k.start k.body k.name)
    ∙ ap (λ (t : Bool). all (field_ok d k) (places k.name) && t) (later-clear d x k.start k.body k.name)

-- ---- the segments, each in the context of those before it
unfoldable pub orders_from : Delims → Context → List Known → Bool
orders_from d x [] = true
orders_from d x (k ∷ ks) = order_ok d x k && orders_from d (context_after d x (segment_of d k)) ks

shuffle : (a b c a' b' c' : Bool) → ((a && (b && c)) && (a' && (b' && c'))) ≡ ((a && a') && ((b && b') && (c && c')))
shuffle a b c a' b' c' = swap a (b && c) a' (b' && c') ∙ ap (λ (t : Bool). (a && a') && t) (swap b c b' c')

pub segments-taken : (d : Delims) (x : Context) (i : ℕ) (ks : List Known)
    → taken (places_told d x i (map (segment_of d) ks)) ≡ (all (segment_ok d) ks && (all (status_ok d) ks && orders_from d x ks))
unfolding places_told orders_from
segments-taken d x i [] = unfold all in refl
segments-taken d x i (k ∷ ks) =
    let s = segment_of d k in
    let x' = context_after d x s in
    taken-both (parts_told d x i s s.parts) (places_told d x' (suc i) (map (segment_of d) ks))
    ∙ rw (segment-taken d x i k, segments-taken d x' (suc i) ks, all_cons (segment_ok d) k ks, all_cons (status_ok d) k ks)
    (shuffle (segment_ok d k) (status_ok d k) (order_ok d x k) (all (segment_ok d) ks) (all (status_ok d) ks) (orders_from d x' ks))

-- ---- an ORC and the known segment right before it
next_ok : Delims → Known → Known → Bool
next_ok d k l = not (is l.name Orc) || same (part_value d l 2 1) (part_value d k 2 1)

near : Delims → Known → List Known → Bool
near d k [] = true
near d k (l ∷ ls) = next_ok d k l && near d l ls

-- after an OBR the context has its order number
obr-value : (d : Delims) (at : ℕ) (body : List ℕ) (n : Name) → is n Obr ≡ true → value_at d (segment_of d (seg n at body)) 2 1 ≡ part_value d (seg n at body) 2 1
unfolding segment_of places part_of seen_in part_at seen_at
obr-value d at body n h = rw (name-is n Obr h)

context-obr : (d : Delims) (x : Context) (k : Known) → is k.name Obr ≡ true → (context_after d x (segment_of d k)).order ≡ part_value d k 2 1
unfolding context_after
context-obr d x k h = rw (named k, h) (obr-value d k.start k.body k.name h)
  where
    named : (k : Known) → (segment_of d k).name ≡ k.name
    named k = unfold segment_of in refl

abbrev names_of : List Known → List Name
names_of ks = map (λ (k : Known). k.name) ks

orders-near : (d : Delims) (ks : List Known) (k : Known) (x : Context) (i : ℕ) → order_fault (reached k.name) (suc i) (names_of ks) ≡ 0
    → (is k.name Obr ≡ true → x.order ≡ part_value d k 2 1) → orders_from d x ks ≡ near d k ks
unfolding orders_from near next_ok
orders-near d [] k x i h o = refl
orders-near d (l ∷ ls) k x i h o =
    let f = follows k.name l.name i (names_of ls) h in
    let one : order_ok d x l ≡ next_ok d k l =
    cases (is l.name Orc)
    (λ e. let q : any (is Orc) (after k.name) ≡ true = rw (name-is l.name Orc e) at f.0 in rw (o (orc-after k.name q)))
    (λ e. rw e) in
    rw (one, orders-near d ls l (context_after d x (segment_of d l)) (suc i) f.1 (context-obr d x l))

agree-near : (d : Delims) (ks : List Known) (k : Known) → OrdersAgree d (k ∷ ks) → near d k ks ≡ true
unfolding near next_ok
agree-near d [] k f = refl
agree-near d (l ∷ ls) k f =
    let one : next_ok d k l ≡ true =
    cases (is l.name Orc)
    (λ e. rw (e, f 0 k l refl refl (name-is l.name Orc e)) (same_self (part_value d k 2 1)))
    (λ e. rw e) in
    rw (one, agree-near d ls l (λ i. f (suc i)))

near-agree : (d : Delims) (ks : List Known) (k : Known) → near d k ks ≡ true → OrdersAgree d (k ∷ ks)
unfolding near next_ok
near-agree d [] k h i a b ea eb n = nothing-some eb
near-agree d (l ∷ ls) k h zero a b ea eb n =
    let q : k ≡ a = cc in
    let r : l ≡ b = cc in
    let t = (both (next_ok d k l) (near d l ls) h).0 in
    let o : is b.name Orc ≡ true = ap (λ (x : Name). is x Orc) n in
    same-eq (part_value d b 2 1) (part_value d a 2 1) (rw o at (rw (q, r) at t))
near-agree d (l ∷ ls) k h (suc i) a b ea eb n = near-agree d ls l (both (next_ok d k l) (near d l ls) h).1 i a b ea eb n

-- from the first segment, no ORC
orders-first : (d : Delims) (k : Known) (ks : List Known) → order_fault start 1 (names_of (k ∷ ks)) ≡ 0 → orders_from d unsaid (k ∷ ks) ≡ near d k ks
unfolding orders_from any
orders-first d k ks h =
    let f = follows Other k.name 0 (names_of ks) h in
    let one : order_ok d unsaid k ≡ true =
    cases (is k.name Orc) (λ e. never (sym (rw (name-is k.name Orc e) at f.0))) (λ e. rw e) in
    rw (one, orders-near d ks k (context_after d unsaid (segment_of d k)) 1 f.1 (context-obr d unsaid k))

pub orders-agree : (d : Delims) (ks : List Known) → order_fault start 1 (names_of ks) ≡ 0 → orders_from d unsaid ks ≡ true → OrdersAgree d ks
orders-agree d [] h o = λ i a b ea eb n. nothing-some ea
orders-agree d (k ∷ ks) h o = near-agree d ks k (sym (orders-first d k ks h) ∙ o)

pub agree-orders : (d : Delims) (ks : List Known) → order_fault start 1 (names_of ks) ≡ 0 → OrdersAgree d ks → orders_from d unsaid ks ≡ true
agree-orders d [] h f = unfold orders_from in refl
agree-orders d (k ∷ ks) h f = orders-first d k ks h ∙ agree-near d ks k f
