-- Texts that keep the shift rule by themselves: the rule with an end that is allowed anyway (20) allows no other byte. Assumes nothing.
use mathlib.Core.Path.{◌≡◌, refl, sym, ap, ◌∙◌}
use mathlib.Core.Bool.{true, false, cond, not}
use mathlib.Core.List.{List, [], ◌∷◌, ◌++◌, map, append_assoc}
use Prim.Native.Nat.{ℕ}
use native.Mathlib.Omega.{arith}
use borrow.Author.Tests.{eqb-true, leb-true}
use lib.Dec.{eqb, leb}
use lib.ListN.{get_or-map}
use Rattle.rules.specs.declared.Mode.{Mode}
use Rattle.rules.specs.declared.Mode.TheVariants.{One, Bad}
use Rattle.rules.specs.Lists.{nth, same, all, has, split, all_but_last, last, led, join, ended, since}
use Rattle.rules.specs.Shift.{within, step, is_one, walk, keeps, mark, marks, met}
use Rattle.rules.proofs.Logic.{cases, both, not-true}
use Rattle.rules.proofs.Lists.{all_first, has-nil, has_first, has_there}
use Rattle.rules.specs.Frame.{here}
use Rattle.rules.proofs.Split.{frees, ended-split}
use Rattle.rules.proofs.Modes.{in_modes, one-is, walk-append, walk_step, walk-bad, marks-cons, met-append, still_one}

abbrev pub Clean : List ℕ → Type 0
Clean s = walk 0x20 One s ≡ One

abbrev pub Cleans : List (List ℕ) → Type 0
Cleans [] = Unit
Cleans (p ∷ ps) = Clean p × Cleans ps

pub not-bad : (end : ℕ) (m : Mode) (s : List ℕ) → walk end m s ≡ One → m ≡ Bad → ⊥
not-bad end m s h e = let z : ◌≡◌ {A = ℕ} 0 1 = cc (walk-bad end s) in omega arith

-- ---- with another end
agree-one : (end b : ℕ) → (step 0x20 One b ≡ Bad → ⊥) → step end One b ≡ step 0x20 One b
unfolding step
agree-one end b h =
    cases (eqb b 0x1B) (λ e. cc)
    (λ e. cases (within 0x20 0x7E b)
    (λ w. cases (eqb b end) (λ p. cases (eqb b 0x20) (λ q. cc) (λ q. cc)) (λ p. cases (eqb b 0x20) (λ q. cc) (λ q. cc)))
    (λ w. cases (eqb b 0x20)
    (λ q. let z : within 0x20 0x7E 0x20 ≡ false = rw (eqb-true b 0x20 q) at w in cc)
    (λ q. absurd (h (cc)))))

-- a step that the rule allows is the same with any end
pub agree : (end : ℕ) (m : Mode) (b : ℕ) → (step 0x20 m b ≡ Bad → ⊥) → step end m b ≡ step 0x20 m b
unfolding step
agree end m b =
    in_modes (λ m. (step 0x20 m b ≡ Bad → ⊥) → step end m b ≡ step 0x20 m b)
    (agree-one end b) (λ h. refl) (λ h. refl) (λ h. refl) (λ h. refl) (λ h. refl) (λ h. refl) (λ h. refl) m

walk_any : (end : ℕ) (m : Mode) (s : List ℕ) → walk 0x20 m s ≡ One → walk end m s ≡ One
unfolding walk
walk_any end m [] h = h
walk_any end m (b ∷ s) h = rw (agree end m b (not-bad 0x20 (step 0x20 m b) s h)) (walk_any end (step 0x20 m b) s h)

pub clean-keeps : (end : ℕ) (s : List ℕ) → Clean s → keeps end s ≡ true
unfolding keeps is_one
clean-keeps end s h = rw (walk_any end One s h)

pub clean-append : (a b : List ℕ) → Clean a → Clean b → Clean (a ++ b)
clean-append a b h k = rw (walk-append, h) k

pub clean-rest : (a b : List ℕ) → Clean a → Clean (a ++ b) → Clean b
clean-rest a b h k = cc (walk-append 0x20 One a b)

pub cleans-append : (ps qs : List (List ℕ)) → Cleans ps → Cleans qs → Cleans (ps ++ qs)
cleans-append [] qs h k = k
cleans-append (p ∷ ps) qs h k = (h.0, cleans-append ps qs h.1 k)

pub cleans-parts : (ps qs : List (List ℕ)) → Cleans (ps ++ qs) → Cleans ps × Cleans qs
cleans-parts [] qs h = (tt, h)
cleans-parts (p ∷ ps) qs h = let r = cleans-parts ps qs h.1 in ((h.0, r.0), r.1)

-- ---- an end of lines: it acts in one-byte mode only, and no text that keeps the rule by itself holds it
pub record End (x : ℕ) : Type 0 where
  pub acts : (m : Mode) → step x m x ≡ cond (is_one m) One Bad
  pub never : (m : Mode) → step 0x20 m x ≡ Bad

pub end-0A : End 0x0A
unfolding step is_one
end-0A =
    record {
      acts = in_modes (λ m. step 0x0A m 0x0A ≡ cond (is_one m) One Bad) refl refl refl refl refl refl refl refl;
      never = in_modes (λ m. step 0x20 m 0x0A ≡ Bad) refl refl refl refl refl refl refl refl;
    }

pub end-0D : End 0x0D
unfolding step is_one
end-0D =
    record {
      acts = in_modes (λ m. step 0x0D m 0x0D ≡ cond (is_one m) One Bad) refl refl refl refl refl refl refl refl;
      never = in_modes (λ m. step 0x20 m 0x0D ≡ Bad) refl refl refl refl refl refl refl refl;
    }

pub clean_free : (x : ℕ) → End x → (m : Mode) (s : List ℕ) → walk 0x20 m s ≡ One → has x s ≡ false
unfolding walk
clean_free x n m [] h = has-nil x
clean_free x n m (b ∷ s) h =
    cases (eqb b x)
    (λ e. absurd (not-bad 0x20 (step 0x20 m b) s h (rw (eqb-true b x e) (n.never m))))
    (λ e. has_there x b s e ∙ clean_free x n (step 0x20 m b) s h)

pub cleans-free : (x : ℕ) → End x → (ps : List (List ℕ)) → Cleans ps → frees x ps ≡ true
unfolding frees
cleans-free x n [] h = refl
cleans-free x n (p ∷ ps) h = cc (clean_free x n One p h.0, cleans-free x n ps h.1)

-- ---- lines that are cut at an end: each keeps the rule by itself
other-one : (end b : ℕ) → eqb b end ≡ false → step end One b ≡ step 0x20 One b
unfolding step
other-one end b h = cases (eqb b 0x20) (λ e. cc (eqb-true b 0x20 e)) (λ e. cc)

other : (end : ℕ) (m : Mode) (b : ℕ) → eqb b end ≡ false → step end m b ≡ step 0x20 m b
unfolding step
other end m b h = in_modes (λ m. step end m b ≡ step 0x20 m b) (other-one end b h) refl refl refl refl refl refl refl m

walk-free : (end : ℕ) (m : Mode) (s : List ℕ) → has end s ≡ false → walk end m s ≡ walk 0x20 m s
unfolding walk
walk-free end m [] h = refl
walk-free end m (b ∷ s) h = let g = has_first end b s h in rw (other end m b g.0) (walk-free end (step 0x20 m b) s g.1)

-- what keeps the rule with an end that it does not hold
pub keeps-clean : (end : ℕ) (s : List ℕ) → keeps end s ≡ true → has end s ≡ false → Clean s
unfolding keeps
keeps-clean end s h f = sym (walk-free end One s f) ∙ one-is (walk end One s) h

after-end : (end : ℕ) → End end → (m : Mode) (s : List ℕ) → walk end (step end m end) s ≡ One → (m ≡ One) × (walk end One s ≡ One)
after-end end E m s h =
    cases (is_one m)
    (λ e. (one-is m e, rw (E.acts m, e) at h))
    (λ e. absurd (not-bad end (step end m end) s h (rw (E.acts m, e))))

walk-cleans : (end : ℕ) → End end → (ps : List (List ℕ)) → frees end ps ≡ true → walk end One (ended end ps) ≡ One → Cleans ps
unfolding frees ended walk
walk-cleans end E [] f h = tt
walk-cleans end E (p ∷ ps) f h =
    let q = both (not (has end p)) (frees end ps) f in
    let w : walk end One p ≡ walk 0x20 One p = walk-free end One p (not-true (has end p) q.0) in
    let r = after-end end E (walk 0x20 One p) (ended end ps) (rw (walk-append, w) at h) in
    (r.0, walk-cleans end E ps q.1 r.1)

pub ended-cleans : (end : ℕ) → End end → (ps : List (List ℕ)) → frees end ps ≡ true → keeps end (ended end ps) ≡ true → Cleans ps
unfolding keeps
ended-cleans end E ps f h = walk-cleans end E ps f (one-is (walk end One (ended end ps)) h)

cleans-walk : (end : ℕ) → End end → (ps : List (List ℕ)) → Cleans ps → walk end One (ended end ps) ≡ One
unfolding ended walk is_one
cleans-walk end E [] h = refl
cleans-walk end E (p ∷ ps) h =
    cc (walk-append end One p (end ∷ ended end ps), walk_any end One p h.0, walk_step end One end (ended end ps) (E.acts One), cleans-walk end E ps h.1)

pub cleans-ended : (end : ℕ) → End end → (ps : List (List ℕ)) → Cleans ps → keeps end (ended end ps) ≡ true
unfolding keeps is_one
cleans-ended end E ps h = rw (cleans-walk end E ps h)

-- an end between two texts, a list of ended lines before one
pub keeps-parts : (a b : List ℕ) → keeps 0x0D (a ++ (0x0D ∷ b)) ≡ true → (keeps 0x0D a ≡ true) × (keeps 0x0D b ≡ true)
unfolding keeps walk is_one
keeps-parts a b h =
    let w = one-is (walk 0x0D One (a ++ (0x0D ∷ b))) h in
    let r = after-end 0x0D end-0D (walk 0x0D One a) b (rw (walk-append 0x0D One a (0x0D ∷ b)) at w) in
    (rw r.0, rw r.1)

pub keeps-joined : (a b : List ℕ) → keeps 0x0D a ≡ true → keeps 0x0D b ≡ true → keeps 0x0D (a ++ (0x0D ∷ b)) ≡ true
unfolding keeps walk step
keeps-joined a b h k = rw (walk-append 0x0D One a (0x0D ∷ b), one-is (walk 0x0D One a) h) k

pub ended-keeps : (ss : List (List ℕ)) (z : List ℕ) → keeps 0x0D (ended 0x0D ss ++ z) ≡ true → (keeps 0x0D (ended 0x0D ss) ≡ true) × (keeps 0x0D z ≡ true)
unfolding ended
ended-keeps [] z h = (unfold keeps walk is_one in refl, h)
ended-keeps (s ∷ ss) z h =
    let a = keeps-parts s (ended 0x0D ss ++ z) (rw append_assoc at h) in
    let b = ended-keeps ss z a.1 in
    (keeps-joined s (ended 0x0D ss) a.0 b.0, b.1)

-- what stands after the last end of a segment keeps the rule, where the whole does
pub here-keeps : (p : List ℕ) → keeps 0x0D p ≡ true → keeps 0x0D (here p) ≡ true
unfolding since
here-keeps p h = (ended-keeps (all_but_last (split 0x0D p)) (last (split 0x0D p)) (rw (ended-split 0x0D p) h)).1

-- ---- pieces as they are met
pub nth-met : (ps : List (List ℕ)) (i : ℕ) → nth (map met ps) i ≡ met (nth ps i)
unfolding met marks
nth-met ps i = get_or-map met ps i []

-- those that are joined
module _ (x : ℕ) (t : step 0x20 One x ≡ One) where
  pub stays : step 0x0D One x ≡ One
  stays = agree 0x0D One x (λ e. let z : ◌≡◌ {A = ℕ} 0 1 = cc in omega arith) ∙ t

  -- a byte of one-byte mode is met as itself
  pub met-cons : (s : List ℕ) → met (x ∷ s) ≡ x ∷ met s
  unfolding met mark is_one
  met-cons s = marks-cons 0x0D One x s ∙ rw stays

  pub clean-cons : (s : List ℕ) → Clean s → Clean (x ∷ s)
  clean-cons s h = walk_step 0x20 One x s t ∙ h

  clean-led : (ps : List (List ℕ)) → Cleans ps → Clean (led x ps)
  unfolding led
  clean-led [] h = unfold walk in refl
  clean-led (p ∷ ps) h = clean-cons (p ++ led x ps) (clean-append p (led x ps) h.0 (clean-led ps h.1))

  pub clean-join : (ps : List (List ℕ)) → Cleans ps → Clean (join x ps)
  unfolding join
  clean-join [] h = unfold walk in refl
  clean-join (p ∷ ps) h = clean-append p (led x ps) h.0 (clean-led ps h.1)

  met-led : (ps : List (List ℕ)) → Cleans ps → met (led x ps) ≡ led x (map met ps)
  unfolding led
  met-led [] h = unfold met marks in refl
  met-led (p ∷ ps) h =
      met-cons (p ++ led x ps) ∙ rw (met-append p (led x ps) (clean-keeps 0x0D p h.0), met-led ps h.1)

  pub met-join : (ps : List (List ℕ)) → Cleans ps → met (join x ps) ≡ join x (map met ps)
  unfolding join
  met-join [] h = unfold met marks in refl
  met-join (p ∷ ps) h = met-append p (led x ps) (clean-keeps 0x0D p h.0) ∙ rw (met-led ps h.1)

-- ---- printable bytes keep the rule and are met as they are
plain : (s : List ℕ) → all (within 0x20 0x7E) s ≡ true → Clean s × (met s ≡ s)
plain [] h = (unfold walk in refl, unfold met marks in refl)
plain (b ∷ s) h =
    let a = all_first (within 0x20 0x7E) b s h in
    let c = both (leb 0x20 b) (leb b 0x7E) a.0 in
    let o = still_one 0x20 b (leb-true 0x20 b c.0) (leb-true b 0x7E c.1) in
    let i = plain s a.1 in
    (clean-cons b o s i.0, met-cons b o s ∙ ap (λ (t : List ℕ). b ∷ t) i.1)

pub plain-clean : (s : List ℕ) → all (within 0x20 0x7E) s ≡ true → Clean s
plain-clean s h = (plain s h).0

pub plain-met : (s : List ℕ) → all (within 0x20 0x7E) s ≡ true → met s ≡ s
plain-met s h = (plain s h).1

pub plain-kept : (s : List ℕ) → all (within 0x20 0x7E) s ≡ true → keeps 0x0D s ≡ true
plain-kept s h = clean-keeps 0x0D s (plain-clean s h)

pub same_met : (s w : List ℕ) → all (within 0x20 0x7E) w ≡ true → same (met s) w ≡ same s w
unfolding met marks same mark is_one
same_met [] [] h = refl
same_met [] (b ∷ w) h = refl
same_met (a ∷ s) [] h = refl
same_met (a ∷ s) (b ∷ w) h =
    cases (eqb a b)
    (λ e. let q = all_first (within 0x20 0x7E) b w h in
    let r = both (leb 0x20 b) (leb b 0x7E) q.0 in
    let o : step 0x0D One a ≡ One = rw (eqb-true a b e) (still_one 0x0D b (leb-true 0x20 b r.0) (leb-true b 0x7E r.1)) in
    cc (same_met s w q.1))
    (λ e. cc)
