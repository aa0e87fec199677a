-- Reading a group line by line, and the verdict on its lines. Assumes nothing.
use mathlib.Core.Path.{◌≡◌, refl, sym, ◌∙◌}
use mathlib.Core.Bool.{Bool, true, false, cond}
use mathlib.Core.List.{List, [], ◌∷◌, ◌++◌, append_assoc, append-nil}
use Prim.Native.Nat.{ℕ, zero, suc, ◌+◌, ◌≤◌}
use native.Mathlib.Omega.{arith}
use native.Mathlib.Nat.{zero-add}
use borrow.Author.Tests.{ltb-true, ltb-false}
use lib.Dec.{ltb}
use lib.ListN.{length, drop, length-append}
use Rattle.rules.specs.Told.{gives, ◌>>=◌}
use Rattle.rules.specs.Lists.{bytes, nth, starts}
use Rattle.rules.specs.Row.{Line}
use Rattle.rules.specs.Sheet.{key_of, line_ok, line_told, group_told}
use Rattle.rules.proofs.Logic.{cases, told_cases, not-given}
use Rattle.rules.proofs.Lists.{here, over}
use Rattle.std.specs.Prelude.{Ok, Err}
use Rattle.lines.specs.declared.LineFault.{LineFault}
use Rattle.lines.specs.declared.LineFault.TheVariants.{Key, Value}
use Rattle.lines.specs.Lines.{Verdict, and_then, line_as}
use Rattle.groups.specs.Groups.{values_from, told_of, index_of, VerdictOn}

-- ---- lines one after another
group-append : (ls ms : List Line) (vs : List (List ℕ)) (i : ℕ) (ts : List (List ℕ))
    → group_told (ls ++ ms) vs i ts ≡ (group_told ls vs i ts >>= λ ws. group_told ms ws (i + length ls) (drop (length ls) ts))
unfolding group_told
group-append [] ms vs i ts = let z : i + 0 ≡ i = omega arith in rw z
group-append (l ∷ ls) ms vs i [] = refl
group-append (l ∷ ls) ms vs i (t ∷ ts) =
    let z : suc i + length ls ≡ i + suc (length ls) = omega arith in
    told_cases (line_told i l vs t)
    (λ v e. rw e (rw z at (group-append ls ms (vs ++ (v ∷ [])) (suc i) ts)))
    (λ n s f e. rw e)

-- where all are read, all are there
pub group-there : (ls : List Line) (vs : List (List ℕ)) (i : ℕ) (ts ws : List (List ℕ)) → group_told ls vs i ts ≡ gives ws → length ls ≤ length ts
unfolding group_told
group-there [] vs i ts ws h = omega arith
group-there (l ∷ ls) vs i [] ws h = not-given h
group-there (l ∷ ls) vs i (t ∷ ts) ws h =
    told_cases (line_told i l vs t)
    (λ v e. omega (arith, group-there ls (vs ++ (v ∷ [])) (suc i) ts ws (rw e at h)))
    (λ n s f e. not-given (rw e at h))

-- ---- one line
-- an empty line has no key
starts-nil : (k : List ℕ) → starts (k ++ (61 ∷ [])) [] ≡ false
unfolding starts
starts-nil [] = refl
starts-nil (b ∷ k) = refl

no_key : (l : Line) → starts (key_of l) [] ≡ false
unfolding key_of bytes
no_key l = starts-nil (bytes l.key)

nth-over : (ts : List (List ℕ)) (k : ℕ) → length ts ≤ k → nth ts k ≡ []
nth-over [] k h = refl
nth-over (t ∷ ts) zero h = absurd (omega arith)
nth-over (t ∷ ts) (suc k) h = nth-over ts k (omega arith)

module _ (l : Line) (vs : List (List ℕ)) (i k : ℕ) (ts : List (List ℕ)) where
  abbrev v : List ℕ
  v = drop (length (key_of l)) (nth ts k)

  abbrev good : Bool
  good = l.holds (vs ++ (v ∷ [])) v

  one_line : group_told (l ∷ []) vs (i + k) (drop k ts) ≡ told_of (line_as k (key_of l) good (nth ts k)) i (vs ++ (v ∷ []))
  unfolding group_told line_told line_ok line_as
  one_line =
      cases (ltb k (length ts))
      (λ e. rw (here [] ts k (ltb-true k (length ts) e))
      (cases (starts (key_of l) (nth ts k))
      (λ s. cases (line_ok l vs v) (λ o. rw (s, o)) (λ o. rw (s, o)))
      (λ s. rw s)))
      (λ e. let h = ltb-false k (length ts) e in rw (over ts k h, nth-over ts k h, no_key l))

-- ---- the values
values-more : (l : Line) (ls : List Line) (k : ℕ) (ts : List (List ℕ))
    → values_from (ls ++ (l ∷ [])) k ts ≡ values_from ls k ts ++ (drop (length (key_of l)) (nth ts (k + length ls)) ∷ [])
unfolding values_from
values-more l [] k ts = let z : k + 0 ≡ k = omega arith in rw z
values-more l (m ∷ ls) k ts = let z : suc k + length ls ≡ k + suc (length ls) = omega arith in rw (values-more l ls (suc k) ts, z)

-- ---- the verdict
pub on_none : (ts : List (List ℕ)) → VerdictOn [] ts (Ok tt)
unfolding values_from group_told index_of
on_none ts = record { told = λ i. refl; within = omega arith }

module _ (ls : List Line) (l : Line) (ts : List (List ℕ)) where
  abbrev old : List (List ℕ)
  old = values_from ls 0 ts

  abbrev w : List ℕ
  w = drop (length (key_of l)) (nth ts (length ls))

  abbrev this : Verdict
  this = line_as (length ls) (key_of l) (l.holds (old ++ (w ∷ [])) w) (nth ts (length ls))

  goes : (before : Verdict) (i : ℕ) → told_of before i old ≡ group_told ls [] i ts → told_of (and_then before this) i (old ++ (w ∷ [])) ≡ group_told (ls ++ (l ∷ [])) [] i ts
  goes (Ok tt) i e = sym (group-append ls (l ∷ []) [] i ts ∙ rw (← e) (one_line l old i (length ls) ts))
  goes (Err (Key k)) i e = sym (group-append ls (l ∷ []) [] i ts ∙ rw (← e))
  goes (Err (Value k)) i e = sym (group-append ls (l ∷ []) [] i ts ∙ rw (← e))

  this-within : index_of this ≤ length ls
  unfolding index_of line_as line_ok
  this-within = go (starts (key_of l) (nth ts (length ls))) (line_ok l old w)
    where
      go : (a b : Bool) → index_of (cond a (cond b (Ok tt) (Err (Value (length ls)))) (Err (Key (length ls)))) ≤ length ls
      go true true = omega arith
      go true false = omega arith
      go false b = omega arith

  then-within : (before : Verdict) → index_of before ≤ length ls → index_of (and_then before this) ≤ length (ls ++ (l ∷ []))
  unfolding index_of
  then-within (Ok tt) h = omega (arith, this-within, length-append ls (l ∷ []))
  then-within (Err (Key k)) h = omega (arith, length-append ls (l ∷ []))
  then-within (Err (Value k)) h = omega (arith, length-append ls (l ∷ []))

  -- a line more
  pub on-more : (before r : Verdict) → VerdictOn ls ts before → r ≡ and_then before this → VerdictOn (ls ++ (l ∷ [])) ts r
  on-more before r p e =
      rw e (record { told = λ i. rw (values-more l ls 0 ts, zero-add (length ls)) (goes before i (p.told i)); within = then-within before p.within })

-- lines more behind a fault change nothing
pub on-wrong : (ls ms : List Line) (ts : List (List ℕ)) (f : LineFault) → VerdictOn ls ts (Err f) → VerdictOn (ls ++ ms) ts (Err f)
unfolding index_of
on-wrong ls ms ts (Key k) p = record { told = λ i. sym (group-append ls ms [] i ts ∙ rw (← p.told i)); within = omega (arith, p.within, length-append ls ms) }
on-wrong ls ms ts (Value k) p = record { told = λ i. sym (group-append ls ms [] i ts ∙ rw (← p.told i)); within = omega (arith, p.within, length-append ls ms) }

-- ---- lines that are read
line-any : (i j : ℕ) (l : Line) (vs : List (List ℕ)) (t v : List ℕ) → line_told i l vs t ≡ gives v → (v ≡ drop (length (key_of l)) t) × (line_told j l vs t ≡ gives v)
unfolding line_told
line-any i j l vs t v h =
    cases (starts (key_of l) t)
    (λ s. cases (line_ok l vs (drop (length (key_of l)) t))
    (λ o. let e : drop (length (key_of l)) t ≡ v = cc (rw (s, o) at h) in (sym e, rw (s, o, e)))
    (λ o. not-given (rw (s, o) at h)))
    (λ s. not-given (rw s at h))

values-later : (ls : List Line) (k : ℕ) (t : List ℕ) (ts : List (List ℕ)) → values_from ls (suc k) (t ∷ ts) ≡ values_from ls k ts
unfolding values_from
values-later [] k t ts = refl
values-later (l ∷ ls) k t ts = rw (values-later ls (suc k) t ts)

read-any : (ls : List Line) (vs ts ws : List (List ℕ)) (i j : ℕ) → group_told ls vs i ts ≡ gives ws → group_told ls vs j ts ≡ gives (vs ++ values_from ls 0 ts)
unfolding group_told values_from
read-any [] vs ts ws i j h = rw (append-nil vs)
read-any (l ∷ ls) vs [] ws i j h = not-given h
read-any (l ∷ ls) vs (t ∷ ts) ws i j h =
    told_cases (line_told i l vs t)
    (λ v e.
    let p = line-any i j l vs t v e in
    rw (p.1, values-later ls 0 t ts, ← p.0) (read-any ls (vs ++ (v ∷ [])) ts ws (suc i) (suc j) (rw e at h) ∙ rw (append_assoc vs (v ∷ []) (values_from ls 0 ts))))
    (λ n s f e. not-given (rw e at h))

pub on_fine : (ls : List Line) (ts ws : List (List ℕ)) (i : ℕ) → group_told ls [] i ts ≡ gives ws → VerdictOn ls ts (Ok tt)
unfolding index_of
on_fine ls ts ws i h = record { told = λ j. sym (read-any ls [] ts ws i j h); within = omega arith }
