-- "the same bytes for every part read", the same text, the same refusals and the same names. Assumes nothing.
use mathlib.Core.Path.{◌≡◌, refl, sym, ap, ◌∙◌}
use mathlib.Core.Bool.{Bool, true, false, ◌&&◌, ◌||◌}
use mathlib.Core.List.{List, ◌∷◌, []}
use mathlib.Core.Option as Option
use mathlib.Core.Option.{some}
use Prim.Native.Nat.{ℕ, zero, suc}
use lib.Dec.{eqb}
use lib.ListN.{take, drop, get_elem?}
use Rattle.rules.specs.declared.Delims.{Delims}
use Rattle.rules.specs.declared.Span.{Span}
use Rattle.rules.specs.declared.Name.TheVariants.{Msh}
use Rattle.rules.specs.Told.{Told, gives, refused, refuse◌if◌else◌, ◌>>=◌, ◌>>◌}
use Rattle.rules.specs.Lists.{bytes}
use Rattle.rules.specs.Frame.{delims_of, is, Known, known}
use Rattle.rules.specs.Places.{unread_component}
use Rattle.rules.specs.Check.{check_told}
use Rattle.rules.specs.Fetch.{span_of, ordinal, fetch_told, bytes_at, part_told, text_told}
use Rattle.rules.proofs.Logic.{cases, not-true}
use Rattle.rules.proofs.Modes.{met-unique}
use Rattle.rules.proofs.Header.{Header, header, header-bytes}
use Rattle.rules.proofs.Where.{framed, Stands, stands-known, component-shown}
use Rattle.unread.specs.Differs.{component, SegmentDiffers, Paired, none, pair, Differs}
use Rattle.unread.specs.Same.{Keeps, refusal_of, name_told, part_read}

-- ---- the o-th of known segments that pair up: one of each list, or none of either
by_place : {d : Delims} {ks ls : List Known} {P : Type 0} → Paired d ks ls → (i : ℕ)
    → ((k l : Known) → get_elem? ks i ≡ some k → get_elem? ls i ≡ some l → SegmentDiffers d k l → P)
    → (get_elem? ks i ≡ Option.none → get_elem? ls i ≡ Option.none → P) → P
by_place none i f g = g refl refl
by_place (pair {k = k} {l = l} s r) zero f g = f k l refl refl s
by_place (pair s r) (suc i) f g = by_place r i f g

ordinal-none : (ks : List Known) (i : ℕ) → get_elem? ks i ≡ Option.none → ordinal ks (suc i) ≡ refused 30 0 0
unfolding ordinal
ordinal-none ks i e = rw (e, ordinal)

ordinal-some : (ks : List Known) (i : ℕ) (k : Known) → get_elem? ks i ≡ some k → ordinal ks (suc i) ≡ gives k
unfolding ordinal
ordinal-some ks i k e = rw (e, ordinal)

record Picked (ks : List Known) (o : ℕ) (k : Known) : Type 0 where
  place : ℕ
  there : get_elem? ks place ≡ some k
  told : ordinal ks o ≡ gives k

picked : (ks : List Known) (i : ℕ) (k : Known) → get_elem? ks i ≡ some k → Picked ks (suc i) k
picked ks i k e = record { place = i; there = e; told = ordinal-some ks i k e }

by-ordinal : {d : Delims} {ks ls : List Known} {P : Type 0} → Paired d ks ls → (o : ℕ)
    → ((k l : Known) → Picked ks o k → Picked ls o l → SegmentDiffers d k l → P)
    → (ordinal ks o ≡ refused 30 0 0 → ordinal ls o ≡ refused 30 0 0 → P) → P
by-ordinal r zero f g = unfold ordinal in g refl refl
by-ordinal {ks = ks} {ls = ls} r (suc i) f g =
    by_place r i (λ k l a b s. f k l (picked ks i k a) (picked ls i l b) s) (λ a b. g (ordinal-none ks i a) (ordinal-none ls i b))

-- ---- its stretch
-- MSH-1 and MSH-2
four_bytes : (m : List ℕ) → Header m
    → (take 1 (drop 3 m) ≡ (delims_of m).field ∷ []) × (take 4 (drop 4 m) ≡ (delims_of m).component ∷ (delims_of m).repetition ∷ (delims_of m).escape ∷ (delims_of m).sub ∷ [])
four_bytes m g = (ap (λ (t : List ℕ). take 1 (drop 3 t)) (header-bytes m g) ∙ (unfold bytes in refl), ap (λ (t : List ℕ). take 4 (drop 4 t)) (header-bytes m g) ∙ (unfold bytes in refl))

bytes_same : (m n : List ℕ) → Header m → Header n → delims_of m ≡ delims_of n → (k l : Known) → Stands m k → Stands n l → SegmentDiffers (delims_of m) k l
    → (f c : ℕ) → unread_component k.name f c ≡ false → bytes_at m (span_of (delims_of m) k f c) ≡ bytes_at n (span_of (delims_of n) l f c)
unfolding span_of
bytes_same m n g h d k l x y s f c u =
    cases (is k.name Msh && eqb f 1)
    (λ a. cases (eqb c 1)
    (λ b. rw (← s.name, a, b) (unfold bytes_at in cc ((four_bytes m g).0, (four_bytes n h).0, d)))
    (λ b. rw (← s.name, a, b) (unfold bytes_at in refl)))
    (λ a. cases (is k.name Msh && eqb f 2)
    (λ b. cases (eqb c 1)
    (λ e. rw (← s.name, a, b, e) (unfold bytes_at in cc ((four_bytes m g).1, (four_bytes n h).1, d)))
    (λ e. rw (← s.name, a, b, e) (unfold bytes_at in refl)))
    (λ b.
    let a' : (is l.name Msh && eqb f 1) ≡ false = rw s.name at a in
    let b' : (is l.name Msh && eqb f 2) ≡ false = rw s.name at b in
    rw (a, b, a', b')
    (met-unique _ _ ((component-shown m g k x f c).bytes ∙ s.components f c u ∙ ap (λ (d : Delims). component d l f c) d ∙ sym (component-shown n h l y f c).bytes))))

-- ---- fetch
-- "Fetch gives the check's refusal first, then 31, then 30."
in-turn : {A B C : Type 0} (t : Told A) (b : Bool) (x y : Told B) (X Y : B → C) → (x >>= λ p. gives (X p)) ≡ (y >>= λ p. gives (Y p))
    → ((t >> refuse 31 if b else x) >>= λ p. gives (X p)) ≡ ((t >> refuse 31 if b else y) >>= λ p. gives (Y p))
in-turn (refused n s f) b x y X Y e = refl
in-turn (gives a) true x y X Y e = refl
in-turn (gives a) false x y X Y e = e

read_name : (m : List ℕ) (o f c : ℕ) (k : Known) → ordinal (known m) o ≡ gives k → part_read m o f c ≡ true → unread_component k.name f c ≡ false
unfolding part_read
read_name m o f c k e h = not-true (unread_component k.name f c) (rw (e, part_read) at h)

module _ (m n : List ℕ) (check : check_told m ≡ check_told n) (r : Differs m n) (o f c : ℕ) where
  -- what is told of a stretch is the same, where it is of the stretches of two segments that differ in unread places alone
  fetch-same : {A : Type 0} (X Y : Span → A)
      → ((k l : Known) → Picked (known m) o k → Picked (known n) o l → SegmentDiffers (delims_of m) k l → X (span_of (delims_of m) k f c) ≡ Y (span_of (delims_of n) l f c))
      → (fetch_told m o f c >>= λ p. gives (X p)) ≡ (fetch_told n o f c >>= λ p. gives (Y p))
  unfolding fetch_told
  fetch-same X Y e =
      by-ordinal r.segments o
      (λ k l a b s. rw (check, a.told, b.told) (in-turn (check_told n) (eqb f 0 || eqb c 0) (gives (span_of (delims_of m) k f c)) (gives (span_of (delims_of n) l f c)) X Y (ap gives (e k l a b s))))
      (λ a b. rw (check, a, b) (in-turn (check_told n) (eqb f 0 || eqb c 0) (refused 30 0 0) (refused 30 0 0) X Y refl))

  pub refusal-same : refusal_of (fetch_told m o f c) ≡ refusal_of (fetch_told n o f c)
  refusal-same = fetch-same (λ p. tt) (λ p. tt) (λ k l a b s. refl)

  pub part_same : Keeps m → Keeps n → part_read m o f c ≡ true → part_told m o f c ≡ part_told n o f c
  unfolding part_told
  part_same hm hn h =
      let μ = framed m hm in
      let ν = framed n hn in
      fetch-same (bytes_at m) (bytes_at n)
      (λ k l a b s. bytes_same m n (header m μ.headed) (header n ν.headed) r.delimiters k l (stands-known m μ a.place k a.there) (stands-known n ν b.place l b.there) s f c
      (read_name m o f c k a.told h))

  pub text_same : Keeps m → Keeps n → (room : ℕ) → part_read m o f c ≡ true → text_told m o f c room ≡ text_told n o f c room
  unfolding text_told
  text_same hm hn room h = rw (part_same hm hn h, r.delimiters)

-- ---- known_segment
pub name-same : (m n : List ℕ) → Differs m n → (o : ℕ) → name_told m o ≡ name_told n o
name-same m n r o = by-ordinal r.segments o (λ k l a b s. rw (a.told, b.told) (ap gives s.name)) (λ a b. rw (a, b))
