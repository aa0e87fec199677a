-- Messages that differ in unread places alone have equal views; and to differ so is a relation of equals. Assumes nothing.
use mathlib.Core.Path.{◌≡◌, refl, sym, ap, ◌∙◌}
use mathlib.Core.Bool.{Bool, true, not, ◌&&◌}
use mathlib.Core.List.{List, [], ◌∷◌, map}
use Prim.Native.Nat.{ℕ, suc, ◌≤◌}
use native.Mathlib.Omega.{arith}
use borrow.Author.Tests.{lt-ltb}
use lib.Dec.{eqb, ltb}
use lib.ListN.{length}
use Rattle.rules.specs.declared.Delims.{Delims}
use Rattle.rules.specs.declared.Name.{Name}
use Rattle.rules.specs.Lists.{all, any, has, onto, split}
use Rattle.rules.specs.Frame.{delims_of, Known, known}
use Rattle.rules.specs.Places.{Place, Field, reads, closed, places, is_closed, unread_field, components_read, unread_component}
use Rattle.rules.specs.View.{field_of, first_repetition, seen_in, part_of, segment_of, view}
use Rattle.rules.proofs.Logic.{cases, both, not-true}
use Rattle.rules.proofs.Lists.{all_first, has-nil, has_here, has_there}
use Rattle.rules.proofs.Split.{split-nil, split-here, split-there, split-cons}
use Rattle.rules.proofs.Names.{in_names}
use Rattle.unread.specs.Differs.{SegmentDiffers, Paired, none, pair, Differs}

-- ---- a text has a separator where it has more than one piece
onto-length : (b : ℕ) (ps : List (List ℕ)) → 1 ≤ length ps → length (onto b ps) ≡ length ps
unfolding onto
onto-length b [] h = absurd (omega arith)
onto-length b (p ∷ ps) h = refl

some-piece : (x : ℕ) (s : List ℕ) → 1 ≤ length (split x s)
some-piece x s = rw (split-cons x s) (omega arith)

has-many : (x : ℕ) (s : List ℕ) → has x s ≡ ltb 1 (length (split x s))
has-many x [] = rw (split-nil x) (has-nil x)
has-many x (b ∷ s) =
    cases (eqb b x)
    (λ e. has_here x b s e ∙ sym (rw (split-here x b s e) (lt-ltb 1 (suc (length (split x s))) (omega (arith, some-piece x s)))))
    (λ e. has_there x b s e ∙ has-many x s ∙ ap (ltb 1) (sym (ap length (split-there x b s e) ∙ onto-length b (split x s) (some-piece x s))))

-- ---- the table: a field that it reads isn't unread, nor is a component of it; a closed one is closed
unfoldable listed : Name → Field → Bool
listed n (reads f ps) = not (unread_field n f) && all (λ (p : Place). not (unread_component n f p.component)) ps
listed n (closed f form) = is_closed n f

table : (n : Name) → all (listed n) (places n) ≡ true
unfolding listed unread_field unread_component is_closed components_read places all has any
table = in_names (λ n. all (listed n) (places n) ≡ true) refl refl refl refl refl refl refl refl

-- ---- a pair of segments shows the same
module _ (d : Delims) (k l : Known) (s : SegmentDiffers d k l) where
  seen_same : (f : ℕ) (ps : List Place) → all (λ (p : Place). not (unread_component k.name f p.component)) ps ≡ true
      → map (seen_in d (first_repetition d (field_of d k f))) ps ≡ map (seen_in d (first_repetition d (field_of d l f))) ps
  unfolding seen_in
  seen_same f [] h = refl
  seen_same f (p ∷ ps) h =
      let a = all_first (λ (p : Place). not (unread_component k.name f p.component)) p ps h in
      cc (s.components f p.component (not-true (unread_component k.name f p.component) a.0), seen_same f ps a.1)

  part_same : (F : Field) → listed k.name F ≡ true → part_of d k F ≡ part_of d l F
  unfolding part_of listed
  part_same (closed f form) h = cc (s.closed f h)
  part_same (reads f ps) h =
      let a = both (not (unread_field k.name f)) (all (λ (p : Place). not (unread_component k.name f p.component)) ps) h in
      let r : has d.repetition (field_of d k f) ≡ has d.repetition (field_of d l f)
      = has-many d.repetition (field_of d k f) ∙ ap (ltb 1) (s.repeated f (not-true (unread_field k.name f) a.0)) ∙ sym (has-many d.repetition (field_of d l f)) in
      cc (r, seen_same f ps a.1)

  parts_same : (fs : List Field) → all (listed k.name) fs ≡ true → map (part_of d k) fs ≡ map (part_of d l) fs
  parts_same [] h = refl
  parts_same (F ∷ fs) h = let a = all_first (listed k.name) F fs h in cc (part_same F a.0, parts_same fs a.1)

  segment-same : segment_of d k ≡ segment_of d l
  unfolding segment_of
  segment-same = cc (s.name, parts_same (places k.name) (table k.name))

paired_same : (d : Delims) {ks ls : List Known} → Paired d ks ls → map (segment_of d) ks ≡ map (segment_of d) ls
paired_same d none = refl
paired_same d (pair {k = k} {l = l} s r) = cc (segment-same d k l s, paired_same d r)

-- ---- the views are equal
pub differs-view : (m n : List ℕ) → Differs m n → view m ≡ view n
unfolding view
differs-view m n r = cc (r.delimiters, paired_same (delims_of m) r.segments)

-- ---- it is a relation of equals: nothing is older or newer
module _ (d : Delims) where
  pub segment-refl : (k : Known) → SegmentDiffers d k k
  segment-refl k = record { name = refl; closed = λ f h. refl; repeated = λ f h. refl; components = λ f c h. refl }

  segment-sym : (k l : Known) → SegmentDiffers d k l → SegmentDiffers d l k
  segment-sym k l s =
      record {
        name = sym s.name;
        closed = λ f h. sym (s.closed f (rw s.name h));
        repeated = λ f h. sym (s.repeated f (rw s.name h));
        components = λ f c h. sym (s.components f c (rw s.name h));
      }

  segment-trans : (k l j : Known) → SegmentDiffers d k l → SegmentDiffers d l j → SegmentDiffers d k j
  segment-trans k l j s t =
      record {
        name = s.name ∙ t.name;
        closed = λ f h. s.closed f h ∙ t.closed f (rw s.name at h);
        repeated = λ f h. s.repeated f h ∙ t.repeated f (rw s.name at h);
        components = λ f c h. s.components f c h ∙ t.components f c (rw s.name at h);
      }

  paired-refl : (ks : List Known) → Paired d ks ks
  paired-refl [] = none
  paired-refl (k ∷ ks) = pair (segment-refl k) (paired-refl ks)

  paired-sym : {ks ls : List Known} → Paired d ks ls → Paired d ls ks
  paired-sym none = none
  paired-sym (pair {k = k} {l = l} s r) = pair (segment-sym k l s) (paired-sym r)

  paired-trans : {ks ls js : List Known} → Paired d ks ls → Paired d ls js → Paired d ks js
  paired-trans none none = none
  paired-trans (pair {k = k} {l = l} s r) (pair {l = j} t u) = pair (segment-trans k l j s t) (paired-trans r u)

pub differs-same : (m : List ℕ) → Differs m m
differs-same m = record { delimiters = refl; segments = paired-refl (delims_of m) (known m) }

pub differs-sym : (m n : List ℕ) → Differs m n → Differs n m
differs-sym m n r = record { delimiters = sym r.delimiters; segments = rw r.delimiters at (paired-sym (delims_of m) r.segments) }

pub differs-trans : (m n o : List ℕ) → Differs m n → Differs n o → Differs m o
differs-trans m n o r s =
    record { delimiters = r.delimiters ∙ s.delimiters; segments = paired-trans (delims_of m) r.segments (rw r.delimiters s.segments) }
