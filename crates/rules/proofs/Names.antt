-- Laws of the segments' names: a known segment begins with its name, which is three letters or digits, so no delimiter. Assumes nothing.
use mathlib.Core.Path.{◌≡◌, refl, sym, ap, ◌∙◌}
use mathlib.Core.Bool.{Bool, true, false, not, ◌&&◌}
use mathlib.Core.List.{List, [], ◌∷◌, ◌++◌}
use Prim.Native.Nat.{ℕ, ◌≤◌}
use native.Mathlib.Omega.{arith}
use borrow.Author.Tests.{eqb-true}
use lib.Dec.{eqb}
use lib.ListN.{length, get_or, drop, length-append}
use Rattle.rules.specs.declared.Name.{Name}
use Rattle.rules.specs.declared.Name.TheVariants.{Msh, Pid, Pv1, Spm, Obr, Orc, Obx, Other}
use Rattle.rules.specs.Lists.{bytes, starts, all, any, has, split, front, later}
use Rattle.rules.specs.Shift.{within, met}
use Rattle.rules.specs.Frame.{known_names, spelling, name_among, name_of, rank, is, twelve}
use Rattle.rules.specs.Proper.{Delim}
use Rattle.rules.proofs.Logic.{cases, both, never, not-true}
use Rattle.rules.proofs.Lists.{starts-eq, in_all}
use Rattle.rules.proofs.Split.{split-free}
use Rattle.rules.proofs.Modes.{met-append}
use Rattle.rules.proofs.Clean.{plain-met, plain-kept}

-- ---- what holds of each name
pub in_names : (P : Name → Type 0) → P Msh → P Pid → P Pv1 → P Spm → P Obr → P Orc → P Obx → P Other → (n : Name) → P n
in_names P a b c d e f g h Msh = a
in_names P a b c d e f g h Pid = b
in_names P a b c d e f g h Pv1 = c
in_names P a b c d e f g h Spm = d
in_names P a b c d e f g h Obr = e
in_names P a b c d e f g h Orc = f
in_names P a b c d e f g h Obx = g
in_names P a b c d e f g h Other = h

-- a name is known by its rank
named : ℕ → Name
named n = get_or (Other ∷ Msh ∷ Pid ∷ Pv1 ∷ Spm ∷ Obr ∷ Orc ∷ Obx ∷ []) n Other

pub name-is : (a b : Name) → is a b ≡ true → a ≡ b
unfolding named
name-is a b e = sym (back a) ∙ ap named (eqb-true (rank a) (rank b) e) ∙ back b
  where
    back : (n : Name) → named (rank n) ≡ n
    back n = in_names (λ n. named (rank n) ≡ n) refl refl refl refl refl refl refl refl n

-- ---- how it is spelled
among : (ns : List Name) (s : List ℕ) → is (name_among ns s) Other ≡ false → starts (spelling (name_among ns s)) s ≡ true
unfolding name_among
among [] s h = never h
among (n ∷ ns) s h = cases (starts (spelling n) s) (λ e. rw (e, name_among) e) (λ e. rw (e, name_among) (among ns s (rw (e, name_among) at h)))

-- what is so of every known name
letters : Name → Bool
letters n = eqb (length (spelling n)) 3 && (all (within 0x20 0x7E) (spelling n) && all (λ (b : ℕ). not (has b (spelling n))) twelve)

lettered : (n : Name) → is n Other ≡ false → letters n ≡ true
unfolding letters spelling bytes all has any
lettered n =
    in_names (λ n. is n Other ≡ false → letters n ≡ true)
    (λ h. refl) (λ h. refl) (λ h. refl) (λ h. refl) (λ h. refl) (λ h. refl) (λ h. refl) (λ h. never h) n

pub record Spelling (n : Name) : Type 0 where
  pub three : length (spelling n) ≡ 3
  pub plain : all (within 0x20 0x7E) (spelling n) ≡ true
  pub free : (b : ℕ) → Delim b → has b (spelling n) ≡ false

pub spelling-of : (n : Name) → is n Other ≡ false → Spelling n
unfolding letters
spelling-of n h =
    let a = both (eqb (length (spelling n)) 3) _ (lettered n h) in
    let c = both (all (within 0x20 0x7E) (spelling n)) _ a.1 in
    record {
      three = eqb-true (length (spelling n)) 3 a.0;
      plain = c.0;
      free = λ b k. not-true (has b (spelling n)) (in_all (λ (x : ℕ). not (has x (spelling n))) b twelve k c.1);
    }

pub spelled : (s : List ℕ) → is (name_of s) Other ≡ false → s ≡ spelling (name_of s) ++ drop 3 s
unfolding name_of
spelled s h = rw (spelling-of (name_of s) h).three at (starts-eq (spelling (name_of s)) s (among known_names s h))

-- the name stands in the first three bytes
pub name-three : (s x : List ℕ) → 3 ≤ length s → name_of (s ++ x) ≡ name_of s
name-three [] x h = absurd (omega arith)
name-three (a ∷ []) x h = absurd (omega arith)
name-three (a ∷ b ∷ []) x h = absurd (omega arith)
name-three (a ∷ b ∷ c ∷ s) x h = unfold name_of name_among known_names spelling bytes starts in refl

pub name-stays : (s x : List ℕ) → is (name_of s) Other ≡ false → name_of (s ++ x) ≡ name_of s
name-stays s x h =
    name-three s x (omega (arith, ap length (spelled s h) ∙ length-append (spelling (name_of s)) (drop 3 s), (spelling-of (name_of s) h).three))

-- the first piece of a known segment begins with its name
pub name-split : (x : ℕ) → Delim x → (s : List ℕ) → is (name_of s) Other ≡ false
    → split x (met s) ≡ (spelling (name_of s) ++ front x (met (drop 3 s))) ∷ later x (met (drop 3 s))
name-split x i s h =
    let n = spelling (name_of s) in
    let q = spelling-of (name_of s) h in
    ap (λ (t : List ℕ). split x (met t)) (spelled s h)
    ∙ rw (met-append n (drop 3 s) (plain-kept n q.plain), plain-met n q.plain) (split-free x n (met (drop 3 s)) (q.free x i))
