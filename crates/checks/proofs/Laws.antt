-- Laws of the check: one for each way through its code. Assumes nothing.
use mathlib.Core.Path.{◌≡◌, refl, sym, ap, ◌∙◌}
use mathlib.Core.Bool.{Bool, true, false}
use mathlib.Core.List.{List, [], ◌∷◌, map}
use Prim.Native.Nat.{ℕ, suc, ◌+◌, ◌-◌, ◌≤◌, ◌<◌}
use native.Mathlib.Numerals.{add-one}
use native.Mathlib.Omega.{arith}
use lib.ListN.{length}
use Rattle.rules.specs.declared.Delims.{Delims}
use Rattle.rules.specs.declared.Counts.{Counts}
use Rattle.rules.specs.declared.Kind.{Kind}
use Rattle.rules.specs.declared.Refusal.{Refusal}
use Rattle.rules.specs.declared.Name.{Name}
use Rattle.rules.specs.declared.Name.TheVariants.{Other}
use Rattle.std.specs.declared.result.Result.{Result}
use Rattle.std.specs.declared.result.Result.TheVariants.{Ok, Err}
use Rattle.std.specs.Result.{IsErrAnd}
use Rattle.std.proofs.lemmas.Result.{err_from_is_err_and}
use Rattle.rules.specs.Told.{Told, gives, refused, refusal, number, told, ◌>>◌}
use Rattle.rules.specs.Shift.{met}
use Rattle.rules.specs.Frame.{known, segments, segments_ok, name_of, known_from, is}
use Rattle.rules.specs.Places.{places}
use Rattle.rules.specs.View.{field_of, part_of, segment_of, Segment, view}
use Rattle.rules.specs.Check.{Context, fault_told, parts_told, unsaid, context_after, places_told}
use Rattle.rules.specs.Promises.{Checked}
use Rattle.rules.proofs.Names.{in_names}
use Rattle.value.proofs.Laws.{number-some}
use Rattle.fields.specs.declared.FieldFault.{FieldFault}
use Rattle.fields.specs.Fields.{fault_in, field_in}
use Rattle.fields.specs.Segment.{as_known, said, FoundIn}
use Rattle.frame.specs.Frame.{frame_of, Sound}
use Rattle.frame.specs.declared.Opened.{Opened}
use Rattle.frame.proofs.Rules.{check-refused, check-given}
use Rattle.frame.specs.Taken.{Taken, Ended}
use Rattle.frame.proofs.Taken.{taken-length, taken-segments, ended-segments}
use Rattle.checks.specs.Check.{read_told}

-- ---- what is told of the segments of r, the rest of a message from `at` on
unfoldable pub told_from : Delims → Context → ℕ → ℕ → List ℕ → Told (Unit {0})
told_from d x i at r = places_told d x i (map (segment_of d) (known_from at (segments r)))

-- a segment's place in the message says nothing of its fields
known_is : (d : Delims) (n : Name) (at : ℕ) (body : List ℕ) → segment_of d (record { name = n; start = at; body = body }) ≡ segment_of d (as_known n body)
unfolding segment_of places part_of field_of
known_is d n at body =
    in_names (λ n. segment_of d (record { name = n; start = at; body = body }) ≡ segment_of d (as_known n body)) refl refl refl refl refl refl refl refl n

-- ---- one turn, at a segment s that is taken off r
module _ (d : Delims) (x : Context) (i at : ℕ) (r s t : List ℕ) (h : Taken r s t) where
  abbrev segment : Segment
  segment = segment_of d (as_known (name_of s) (met s))

  turn-skip : is (name_of s) Other ≡ true → told_from d x i at r ≡ told_from d x i (at + suc (length s)) t
  unfolding told_from known_from
  turn-skip e = ap (λ l. places_told d x i (map (segment_of d) (known_from at l))) (taken-segments r s t h) ∙ rw e

  turn-known : is (name_of s) Other ≡ false
      → told_from d x i at r ≡ (parts_told d x i segment segment.parts >> told_from d (context_after d x segment) (suc i) (at + suc (length s)) t)
  unfolding told_from known_from places_told
  turn-known e =
      ap (λ l. places_told d x i (map (segment_of d) (known_from at l))) (taken-segments r s t h)
      ∙ rw e (ap (λ k. parts_told d x i k k.parts >> places_told d (context_after d x k) (suc i) (map (segment_of d) (known_from (at + suc (length s)) (segments t)))) (known_is d (name_of s) at (met s)))

  -- what is broken is the answer; where nothing is, the rest is
  turn-found : {A : Type 0} (f : Result A FieldFault) → is (name_of s) Other ≡ false → FoundIn (name_of s) d x (met s) f
      → told_from d x i at r ≡ (fault_told i (field_in f) (fault_in f) >> told_from d (context_after d x segment) (suc i) (at + suc (length s)) t)
  turn-found f e w =
      turn-known e ∙ ap (λ k. k >> told_from d (context_after d x segment) (suc i) (at + suc (length s)) t) (sym (w.told i))

-- ---- the loop over the segments: what is left to be told when the rest r is still to be read, from `at` on
pub record Going (d : Delims) (m order : List ℕ) (i : ℕ) (r : List ℕ) : Type 0 where
  pub at : ℕ
  pub inside : at + length r ≡ length m
  pub ordinal : i ≤ at + 1
  pub told : told_from d unsaid 1 0 m ≡ told_from d (said order) i at r

pub starts : (d : Delims) (m : List ℕ) → Going d m [] 1 m
starts d m = record { at = 0; inside = omega arith; ordinal = omega arith; told = refl }

-- what the loop tells is what is told in the end
read_is : (d : Delims) (m : List ℕ) → Sound m d → told_from d unsaid 1 0 m ≡ read_told d m
unfolding read_told told_from view known
read_is d m s = rw s.delims

-- what is broken ends what is told
stopped : (k : Kind) (i field : ℕ) (t : Told (Unit {0})) → (fault_told i field (number k) >> t) ≡ refused (number k) i field
unfolding fault_told
stopped k i field t = rw (number-some k)

module _ (d : Delims) (m order : List ℕ) (i : ℕ) (r : List ℕ) (g : Going d m order i r) where
  pub ends : (t : List ℕ) → Sound m d → Ended r t → told (Ok tt) ≡ read_told d m
  unfolding told_from known_from places_told
  ends t s h = sym (g.told ∙ ap (λ l. places_told d (said order) i (map (segment_of d) (known_from g.at l))) (ended-segments r h.whole)) ∙ read_is d m s

  module _ (s t : List ℕ) (h : Taken r s t) where
    pub ordinal-fits : (n : ℕ) → length m ≤ n → i + 1 ≤ n + 1
    ordinal-fits n k = omega (arith, g.inside, g.ordinal, taken-length r s t h)

    module _ (x : Name) (ex : x ≡ name_of s) (b : Bool) (eb : b ≡ is x Other) where
      pub skipped : b ≡ true → Going d m order i t
      skipped e =
          record {
            at = g.at + suc (length s);
            inside = omega (arith, g.inside, taken-length r s t h);
            ordinal = omega (arith, g.ordinal);
            told = g.told ∙ turn-skip d (said order) i g.at r s t h (rw (← ex, ← eb) e);
          }

      unfoldable tail : Context → Told (Unit {0})
      tail y = told_from d y (suc i) (g.at + suc (length s)) t

      after : Context
      after = context_after d (said order) (segment_of d (as_known x (met s)))

      module _ {A : Type 0} (hb : b ≡ false) where
        turned : (f : Result A FieldFault) → FoundIn x d (said order) (met s) f → told_from d unsaid 1 0 m ≡ (fault_told i (field_in f) (fault_in f) >> tail after)
        unfolding tail after
        turned f found = g.told ∙ turn-found d (said order) i g.at r s t h f (rw (← ex, ← eb) hb) (rw (← ex) found) ∙ rw (← ex)

        pub refuses : (e : FieldFault) → Sound m d → FoundIn {A = A} x d (said order) (met s) (Err e)
            → told {A = Unit {0}} (Err (record { kind = e.kind; segment = i; field = e.field })) ≡ read_told d m
        refuses e q found = sym (turned (Err e) found ∙ stopped e.kind i e.field (tail after)) ∙ read_is d m q

        pub passes : (a : A) (o : List ℕ) → FoundIn {A = A} x d (said order) (met s) (Ok a)
            → said o ≡ context_after d (said order) (segment_of d (as_known x (met s))) → Going d m o (i + 1) t
        unfolding tail after fault_told
        passes a o found e =
            record {
              at = g.at + suc (length s);
              inside = omega (arith, g.inside, taken-length r s t h);
              ordinal = omega (arith, g.ordinal);
              told = turned (Ok a) found ∙ rw (← e, add-one i);
            }

-- ---- the check
module _ (m : List ℕ) (r : Result Counts Refusal) where
  pub check-not : (e : Refusal) → refusal {A = Opened} e ≡ frame_of m → IsErrAnd r (λ y. y ≡ e) → Checked m r
  check-not e h q = let p = err_from_is_err_and r q in rw (p.1, p.2) (sym (check-refused m (number e.kind) e.segment e.field (sym h)))

  pub check-wrong : (o : Opened) (e : Refusal) → gives o ≡ frame_of m → refusal e ≡ read_told o.delims m → IsErrAnd r (λ y. y ≡ e) → Checked m r
  unfolding read_told
  check-wrong o e h g q = let p = err_from_is_err_and r q in rw (p.1, p.2) (sym (check-given m o (sym h) ∙ ap (λ t. t >> gives o.counts) (sym g)))

pub check-right : (m : List ℕ) (o : Opened) → gives o ≡ frame_of m → gives tt ≡ read_told o.delims m → Checked m (Ok o.counts)
unfolding read_told
check-right m o h g = sym (check-given m o (sym h) ∙ ap (λ t. t >> gives o.counts) (sym g))
