-- The laws of a sheet's lines. Assumes nothing.
use mathlib.Core.Path.{◌≡◌, refl, sym, subst, ap, ◌∙◌}
use mathlib.Core.Bool.{Bool, true, false, not, ◌&&◌, ◌||◌}
use mathlib.Core.List.{List, [], ◌∷◌, ◌++◌, append_assoc}
use Prim.Native.Nat.{ℕ, zero, suc, ◌+◌, ◌-◌, ◌≤◌, ◌<◌}
use native.Mathlib.Numerals.{add-one}
use native.Mathlib.Omega.{arith}
use borrow.Author.Tests.{eq-eqb, ne_eqb, eqb-true}
use lib.Dec.{eqb}
use lib.ListN.{length, take, drop, get_or, set, length-set, length-take, length-drop}
use lib.Seq.{drop-drop, get_or-drop, get_or-set_same, get_or-set_other}
use Rattle.rules.specs.Lists.{bytes, empty, filled, nth, starts, split, all_but_last, last, ended}
use Rattle.rules.specs.Sheet.{lines_of}
use Rattle.std.specs.Prelude.{cond, Result, Ok, Err}
use Rattle.std.specs.Result.{is_ok, IsErrAnd}
use Rattle.std.proofs.lemmas.Result.{err_from_is_err_and}
use Rattle.std.specs.Str.{bytes_eq}
use Rattle.rules.proofs.Logic.{eqb-sym, cases, never, zero_cases}
use Rattle.rules.proofs.Lists.{empty-zero, rest-is, rest-inside, take_own}
use Rattle.rules.proofs.Split.{but_last-split, ended-split}
use Rattle.plain_bytes.specs.Bytes.{until, is_byte}
use Rattle.scan.proofs.Laws.{until-rest}
use Rattle.rules.specs.declared.Kind.{Kind}
use Rattle.value.specs.Rules.{fault_no}
use Rattle.plain_bytes.proofs.Laws.{same_by, split-last, split-more}
use Rattle.value.proofs.Laws.{fine-zero, fault-some}
use Rattle.lines.specs.declared.LineFault.TheVariants.{Key, Value}
use Rattle.lines.specs.Lines.{behind_line, place_behind, Cut, line_as}

-- ---- lines by their 0A
none : (s : List ℕ) → length (until (is_byte 0x0A) s) ≡ length s → lines_of s ≡ []
unfolding lines_of all_but_last
none s h = rw (split-last 0x0A s h)

some : (s : List ℕ) → length (until (is_byte 0x0A) s) < length s
    → lines_of s ≡ take (length (until (is_byte 0x0A) s)) s ∷ lines_of (drop (suc (length (until (is_byte 0x0A) s))) s)
unfolding lines_of
some s h = rw (split-more 0x0A s h) (but_last-split 0x0A (take (length (until (is_byte 0x0A) s)) s) (drop (suc (length (until (is_byte 0x0A) s))) s))

-- the first line stands at the front
line-front : (t l : List ℕ) (ls : List (List ℕ)) → lines_of t ≡ l ∷ ls → take (length l) t ≡ l
unfolding lines_of ended
line-front t l ls e =
    let z : t ≡ l ++ ((0x0A ∷ ended 0x0A ls) ++ last (split 0x0A t))
    = sym (ended-split 0x0A t) ∙ ap (λ (ps : List (List ℕ)). ended 0x0A ps ++ last (split 0x0A t)) e ∙ append_assoc l (0x0A ∷ ended 0x0A ls) (last (split 0x0A t)) in
    ap (take (length l)) z ∙ take_own l ((0x0A ∷ ended 0x0A ls) ++ last (split 0x0A t))

-- as the code finds them: the part from a place on, and how many bytes stand in it before a 0A
module _ (s : List ℕ) (at n : ℕ) (e : n ≡ length (until (is_byte 0x0A) (take (length s - at) (drop at s)))) (w : n ≤ length (take (length s - at) (drop at s))) where
  there : n ≡ length (until (is_byte 0x0A) (drop at s))
  there = until-rest (is_byte 0x0A) s at n e

  size : length (take (length s - at) (drop at s)) ≡ length (drop at s)
  size = ap length (rest-is s at)

  found_none : n ≡ length (take (length s - at) (drop at s)) → lines_of (drop at s) ≡ []
  found_none h = none (drop at s) (sym there ∙ h ∙ size)

  found_some : (n ≡ length (take (length s - at) (drop at s)) → ⊥) → lines_of (drop at s) ≡ take n (drop at s) ∷ lines_of (drop (suc n) (drop at s))
  found_some h =
      let l : length (until (is_byte 0x0A) (drop at s)) < length (drop at s) = rw (there) at (rest-inside s at n w h) in
      rw (there) (some (drop at s) l)

  pub past-none : n ≡ length (take (length s - at) (drop at s)) → lines_of (drop at s) ≡ drop 1 (lines_of (drop at s))
  past-none h = rw (found_none h)

  pub past-some : at ≤ length s → (n ≡ length (take (length s - at) (drop at s)) → ⊥) → lines_of (drop (at + n + 1) s) ≡ drop 1 (lines_of (drop at s))
  past-some g h =
      let q : lines_of (drop (suc n) (drop at s)) ≡ lines_of (drop (at + n + 1) s) = let z : at + suc n ≡ at + n + 1 = omega arith in ap lines_of (drop-drop (suc n) at s ∙ ap (λ (k : ℕ). drop k s) z) in
      sym (rw (found_some h) q)

  pub past-within : at ≤ length s → (n ≡ length (take (length s - at) (drop at s)) → ⊥) → at + n + 1 ≤ length s
  past-within g h = omega (arith, size, length-drop at s)

  pub behind-none : n ≡ length (take (length s - at) (drop at s)) → at ≡ behind_line (lines_of (drop at s)) at
  unfolding behind_line
  behind-none h = rw (found_none h)

  pub behind-some : (n ≡ length (take (length s - at) (drop at s)) → ⊥) → at + n + 1 ≡ behind_line (lines_of (drop at s)) at
  unfolding behind_line
  behind-some h = rw (found_some h) (let z : length (take n (drop at s)) ≡ n = simp (length-take) (omega (arith, size)) in omega (arith, z))

-- ---- the places of a group's lines
-- none found yet
pub cut-start : (s at : List ℕ) → length at ≡ 11 → get_or at 0 0 ≡ 0 → Cut 0 s at
cut-start s at n e =
    record {
      size = n;
      start = e;
      within = λ k w. only k w (λ (m : ℕ). get_or at m 0 ≤ length s) (omega (arith, e));
      from = λ k w. only k w (λ (m : ℕ). lines_of (drop (get_or at m 0) s) ≡ drop m (lines_of s)) (rw e);
      next = λ k w. absurd (omega arith);
    }
  where
    only : (k : ℕ) → k ≤ 0 → (P : ℕ → Type 0) → P 0 → P k
    only k w P p = let z : 0 ≡ k = omega arith in subst P z p

-- a fact of every number up to m, by its last
up_to : (P : ℕ → Type 0) (m k : ℕ) → k < m + 1 → (k < m → P k) → P m → P k
up_to P m k w p q = cases (eqb k m) (λ b. subst P (sym (eqb-true k m b)) q) (λ b. p (less (λ z. never (sym (eq-eqb k m z) ∙ b))))
  where
    less : (k ≡ m → ⊥) → k < m
    less z = omega arith

-- one more: the place r behind the line at the last
module _ (s at : List ℕ) (i r : ℕ) (c : Cut i s at) (h : i < 10)
    (e : r ≡ behind_line (lines_of (drop (get_or at i 0) s)) (get_or at i 0))
    (f : lines_of (drop r s) ≡ drop 1 (lines_of (drop (get_or at i 0) s)))
    (g : r ≤ length s) where
  abbrev more : List ℕ
  more = set at (i + 1) r

  new : get_or more (i + 1) 0 ≡ r
  new = get_or-set_same at (i + 1) r 0 (omega (arith, c.size))

  old : (k : ℕ) → k ≤ i → get_or more k 0 ≡ get_or at k 0
  old k w = get_or-set_other at (i + 1) k r 0 (λ q. absurd (omega arith))

  more_within : (k : ℕ) → k ≤ i + 1 → get_or more k 0 ≤ length s
  more_within k w =
      up_to (λ (m : ℕ). get_or more m 0 ≤ length s) (i + 1) k (omega arith)
      (λ v. rw (old k (omega arith)) (c.within k (omega arith)))
      (rw new g)

  more-from : (k : ℕ) → k ≤ i + 1 → lines_of (drop (get_or more k 0) s) ≡ drop k (lines_of s)
  more-from k w =
      up_to (λ (m : ℕ). lines_of (drop (get_or more m 0) s) ≡ drop m (lines_of s)) (i + 1) k (omega arith)
      (λ v. rw (old k (omega arith)) (c.from k (omega arith)))
      (rw new (f ∙ ap (drop 1) (c.from i (omega arith)) ∙ drop-drop 1 i (lines_of s)))

  more-next : (k : ℕ) → k < i + 1 → get_or more (k + 1) 0 ≡ behind_line (drop k (lines_of s)) (get_or more k 0)
  more-next k w =
      up_to (λ (m : ℕ). get_or more (m + 1) 0 ≡ behind_line (drop m (lines_of s)) (get_or more m 0)) i k w
      (λ v. rw (old k (omega arith), old (k + 1) (omega arith)) (c.next k v))
      (rw (new, old i (omega arith), ← c.from i (omega arith)) e)

  pub cut_on : Cut (i + 1) s (set at (i + 1) r)
  cut_on = record { size = length-set at (i + 1) r ∙ c.size; start = old 0 (omega arith) ∙ c.start; within = more_within; from = more-from; next = more-next }

-- the last place found is one of the text
pub cut-place : (s at : List ℕ) (i : ℕ) → Cut i s at → get_or at i 0 ≤ length s
cut-place s at i c = c.within i (omega arith)

-- the place behind a first line is not the start
behind-zero : (ls : List (List ℕ)) (p : ℕ) → p ≡ behind_line ls 0 → not (eqb p 0) ≡ filled ls
unfolding behind_line empty
behind-zero [] p e = rw (eq-eqb p 0 e)
behind-zero (l ∷ ls) p e = rw (ne_eqb p 0 (λ z. omega arith))

pub places-line : (at s : List ℕ) → Cut 10 s at → not (eqb (get_or at 1 0) 0) ≡ filled (lines_of s)
places-line at s c = behind-zero (lines_of s) (get_or at 1 0) (c.next 0 (omega arith) ∙ ap (behind_line (lines_of s)) c.start)

-- the k-th line, between its place and its 0A
module _ (s at : List ℕ) (k : ℕ) (c : Cut 10 s at) (h : k < 10) where
  nth-first : nth (drop k (lines_of s)) 0 ≡ nth (lines_of s) k
  nth-first = get_or-drop k (lines_of s) 0 [] ∙ (let z : k + 0 ≡ k = omega arith in ap (λ (m : ℕ). nth (lines_of s) m) z)

  pub line-starts : get_or at k 0 ≤ length s
  line-starts = c.within k (omega arith)

  pub line-room : get_or at (k + 1) 0 - 1 ≤ length s
  line-room = omega (arith, c.within (k + 1) (omega arith))

  pub line-missing : get_or at (k + 1) 0 ≡ get_or at k 0 → take (get_or at k 0 - get_or at k 0) (drop (get_or at k 0) s) ≡ nth (lines_of s) k
  unfolding behind_line
  line-missing e = ap (λ (n : ℕ). take n (drop (get_or at k 0) s)) z ∙ gone (drop k (lines_of s)) (c.next k h) ∙ nth-first
    where
      z : get_or at k 0 - get_or at k 0 ≡ 0
      z = omega arith

      gone : (ls : List (List ℕ)) → get_or at (k + 1) 0 ≡ behind_line ls (get_or at k 0) → [] ≡ nth ls 0
      gone [] q = refl
      gone (l ∷ ls) q = absurd (omega (arith, e, q))

  module _ (e : get_or at (k + 1) 0 ≡ get_or at k 0 → ⊥) where
    between : (ls : List (List ℕ)) → lines_of (drop (get_or at k 0) s) ≡ ls → get_or at (k + 1) 0 ≡ behind_line ls (get_or at k 0) → (get_or at k 0 < get_or at (k + 1) 0) × (take (get_or at (k + 1) 0 - 1 - get_or at k 0) (drop (get_or at k 0) s) ≡ nth ls 0)
    unfolding behind_line
    between [] f q = absurd (e q)
    between (l ∷ ls) f q = (omega (arith, q), (let z : get_or at (k + 1) 0 - 1 - get_or at k 0 ≡ length l = omega (arith, q) in rw z (line-front (drop (get_or at k 0) s) l ls f)))

    apart : get_or at k 0 < get_or at (k + 1) 0
    apart = (between (drop k (lines_of s)) (c.from k (omega arith)) (c.next k h)).0

    pub line-ended : 1 ≤ get_or at (k + 1) 0
    line-ended = omega (arith, apart)

    pub line-ends : get_or at k 0 ≤ get_or at (k + 1) 0 - 1
    line-ends = omega (arith, apart)

    pub line-between : take (get_or at (k + 1) 0 - 1 - get_or at k 0) (drop (get_or at k 0) s) ≡ nth (lines_of s) k
    line-between = (between (drop k (lines_of s)) (c.from k (omega arith)) (c.next k h)).1 ∙ nth-first

-- what stands behind some lines begins where they end
place-is : (s at : List ℕ) (n : ℕ) → Cut 10 s at → n ≤ 10 → get_or at n 0 ≡ place_behind n (lines_of s)
unfolding place_behind
place-is s at zero c w = c.start
place-is s at (suc n) c w =
    let e : get_or at (suc n) 0 ≡ behind_line (drop n (lines_of s)) (get_or at n 0) = rw add-one at (c.next n (omega arith)) in
    e ∙ ap (behind_line (drop n (lines_of s))) (place-is s at n c (omega arith))

pub behind-place : (s at : List ℕ) (n : ℕ) → Cut 10 s at → n ≤ 10 → take (length s - get_or at n 0) (drop (get_or at n 0) s) ≡ drop (place_behind n (lines_of s)) s
behind-place s at n c w = rest-is s (get_or at n 0) ∙ ap (λ (k : ℕ). drop k s) (place-is s at n c w)

-- it is shorter, where there are any
pub behind-shorter : (s at : List ℕ) (n : ℕ) → Cut 10 s at → n ≤ 10 → filled (lines_of s) ≡ true → 0 < n → length (take (length s - get_or at n 0) (drop (get_or at n 0) s)) < length s
behind-shorter s at n c w f h =
    zero_cases (get_or at n 0)
    (λ z. absurd (omega (arith, filled-length f, ap length (ap (λ (k : ℕ). lines_of (drop k s)) (sym z) ∙ c.from n w), length-drop n (lines_of s))))
    (λ k e. omega (arith, e, c.within n w, ap length (rest-is s (get_or at n 0)), length-drop (get_or at n 0) s))
  where
    filled-length : filled (lines_of s) ≡ true → 0 < length (lines_of s)
    filled-length f = zero_cases (length (lines_of s)) (λ z. never (sym f ∙ ap not (empty-zero (lines_of s) z))) (λ k e. omega arith)

-- a part is no longer than the whole
pub part-short : (s : List ℕ) (a n : ℕ) → length (take n (drop a s)) ≤ length s
part-short s a n = simp (length-take, length-drop) (omega arith)

-- ---- a key
-- what the library's `strip_prefix` says
prefix-is : (key t : List ℕ) → bytes_eq (take (length key) t) key ≡ starts key t
unfolding starts
prefix-is [] t = refl
prefix-is (a ∷ key) [] = refl
prefix-is (a ∷ key) (b ∷ t) = cases (eqb b a) (λ e. rw (e, starts) (prefix-is key t)) (λ e. rw (e, starts))

-- what the library's `starts_with` says
pub starts_is : (key t : List ℕ) → bytes_eq key (take (length key) t) ≡ starts key t
unfolding starts
starts_is [] t = refl
starts_is (a ∷ key) [] = refl
starts_is (a ∷ key) (b ∷ t) = cases (eqb b a) (λ e. rw (eqb-sym a b, e, starts) (starts_is key t)) (λ e. rw (eqb-sym a b, e, starts))

-- ---- one line
module _ (k : ℕ) (key : List ℕ) (good : Bool) (t : List ℕ) where
  pub line-key : bytes_eq (take (length key) t) key ≡ false → Err (Key k) ≡ line_as k key good t
  unfolding line_as
  line-key h = rw (← prefix-is key t, h)

  module _ (v : List ℕ) (h : bytes_eq (take (length key) t) key ≡ true) (e : v ≡ drop (length key) t) where
    line-found : line_as k key good t ≡ cond (not (bytes_eq v (34 ∷ 34 ∷ [])) && good) (Ok tt) (Err (Value k))
    unfolding line_as bytes
    line-found = rw (← prefix-is key t, h, ← e, same_by v (34 ∷ 34 ∷ []) _ refl)

    pub line-bad : (not good || bytes_eq v (34 ∷ 34 ∷ [])) ≡ true → Err (Value k) ≡ line_as k key good t
    line-bad = bad good (bytes_eq v (34 ∷ 34 ∷ [])) line-found
      where
        bad : (g u : Bool) → line_as k key good t ≡ cond (not u && g) (Ok tt) (Err (Value k)) → (not g || u) ≡ true → Err (Value k) ≡ line_as k key good t
        bad true true f h = rw f
        bad true false f h = never (sym h)
        bad false true f h = rw f
        bad false false f h = rw f

    pub line-good : (not good || bytes_eq v (34 ∷ 34 ∷ [])) ≡ false → Ok tt ≡ line_as k key good t
    line-good = fine good (bytes_eq v (34 ∷ 34 ∷ [])) line-found
      where
        fine : (g u : Bool) → line_as k key good t ≡ cond (not u && g) (Ok tt) (Err (Value k)) → (not g || u) ≡ false → Ok tt ≡ line_as k key good t
        fine true true f h = never h
        fine true false f h = rw f
        fine false u f h = never h

pub keeps-is : (f : Result (Unit {0}) Kind) (x : ℕ) (r : Bool) → r ≡ is_ok f → fault_no f ≡ x → r ≡ eqb x 0
keeps-is f x r e h =
    cases (is_ok f)
    (λ y. e ∙ y ∙ sym (eq-eqb x 0 (sym h ∙ fine-zero f y)))
    (λ y. e ∙ y ∙ sym (ne_eqb x 0 (λ z. absurd (omega (arith, h, z, fault-some f y)))))

-- what the exit of a `?` returns, where the error stays as it is
pub exit-is : {T E : Type 0} {r : Result T E} {f : E} → IsErrAnd r (λ x. x ≡ f) → r ≡ Err f
exit-is {r = r} h = let p = err_from_is_err_and r h in p.1 ∙ ap Err p.2
