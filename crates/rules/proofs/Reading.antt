-- What is read was so written: the rows that a sheet's lines give are valid, and those lines are theirs. And valid rows are read back from
-- their lines. Assumes nothing.
use mathlib.Core.Path.{◌≡◌, refl, sym, ap, ◌∙◌}
use mathlib.Core.Bool.{true, false, not, ◌&&◌}
use mathlib.Core.List.{List, [], ◌∷◌, ◌++◌, append_assoc, append-nil}
use Prim.Native.Nat.{ℕ, zero, suc, ◌+◌, ◌-◌, ◌≤◌, ◌<◌}
use native.Mathlib.Omega.{arith}
use lib.ListN.{length, drop, length-append}
use Rattle.rules.specs.declared.Name.{Name}
use Rattle.rules.specs.declared.Name.TheVariants.{Msh, Pid, Pv1, Spm, Obr, Orc, Obx, Other}
use Rattle.rules.specs.Told.{gives}
use Rattle.rules.specs.Lists.{bytes, empty, nth, same, starts, any, onto, split, is_one_of}
use Rattle.rules.specs.Frame.{is, known_names, after, Reached, may_follow, may_end}
use Rattle.rules.specs.Value.{holds, too_long, fault, fits, words}
use Rattle.rules.specs.Row.{Line, line, lines, Row, header, patient, visit, specimen, order, result, group_of, values, row_of}
use Rattle.rules.specs.Sheet.{key_of, lines_text, row_lines, line_ok, line_told, opens, opened_by, open_told, group_told, past_group, rows_told, good, valid}
use Rattle.rules.proofs.Logic.{cases, told_cases, list_cases, never, both, not-given}
use Rattle.rules.proofs.Lists.{starts-eq, starts-own, drop_own, from, exactly, one_word}
use Rattle.rules.proofs.Names.{in_names}
use Rattle.rules.proofs.Rows.{entered}

-- ---- a line
line_read : (i : ℕ) (l : Line) (vs : List (List ℕ)) (w : List ℕ) → line_ok l vs w ≡ true → line_told i l vs (key_of l ++ w) ≡ gives w
unfolding line_told
line_read i l vs w h = rw (starts-own (key_of l) w, drop_own (key_of l) w, h)

line-back : (i : ℕ) (l : Line) (vs : List (List ℕ)) (t v : List ℕ) → line_told i l vs t ≡ gives v → (t ≡ key_of l ++ v) × (line_ok l vs v ≡ true)
unfolding line_told
line-back i l vs t v h =
    let w = drop (length (key_of l)) t in
    cases (starts (key_of l) t)
    (λ e. cases (line_ok l vs w)
    (λ g. let q : w ≡ v = cc in (rw q at (starts-eq (key_of l) t e), rw q at g))
    (λ g. (cc, cc)))
    (λ e. (cc, cc))

-- ---- a group's lines
good_length : (ls : List Line) (vs ws : List (List ℕ)) → good ls vs ws ≡ true → length ws ≡ length ls
unfolding good
good_length [] vs [] h = refl
good_length [] vs (w ∷ ws) h = never (sym h)
good_length (l ∷ ls) vs [] h = never (sym h)
good_length (l ∷ ls) vs (w ∷ ws) h = ap suc (good_length ls (vs ++ (w ∷ [])) ws (both (line_ok l vs w) (good ls (vs ++ (w ∷ [])) ws) h).1)

text-length : (ls : List Line) (ws : List (List ℕ)) → length ws ≡ length ls → length (lines_text ls ws) ≡ length ls
unfolding lines_text
text-length [] ws h = refl
text-length (l ∷ ls) [] h = absurd (omega arith)
text-length (l ∷ ls) (w ∷ ws) h = ap suc (text-length ls ws (omega arith))

group-read : (ls : List Line) (vs ws ts : List (List ℕ)) → good ls vs ws ≡ true → (i : ℕ) → group_told ls vs i (lines_text ls ws ++ ts) ≡ gives (vs ++ ws)
unfolding good lines_text group_told
group-read [] vs [] ts h i = rw (append-nil vs)
group-read [] vs (w ∷ ws) ts h i = never (sym h)
group-read (l ∷ ls) vs [] ts h i = never (sym h)
group-read (l ∷ ls) vs (w ∷ ws) ts h i =
    let p = both (line_ok l vs w) (good ls (vs ++ (w ∷ [])) ws) h in
    rw (line_read i l vs w p.0) (group-read ls (vs ++ (w ∷ [])) ws ts p.1 (suc i) ∙ rw (append_assoc vs (w ∷ []) ws))

record Group (ls : List Line) (vs us ts : List (List ℕ)) : Type 0 where
  ws : List (List ℕ)
  are : us ≡ vs ++ ws
  cut : ts ≡ lines_text ls ws ++ drop (length ls) ts
  holds : good ls vs ws ≡ true
  there : length ls ≤ length ts

group-back : (ls : List Line) (vs ts us : List (List ℕ)) (i : ℕ) → group_told ls vs i ts ≡ gives us → Group ls vs us ts
unfolding group_told lines_text good
group-back [] vs ts us i h = let q : vs ≡ us = cc in record { ws = []; are = rw (append-nil vs) (sym q); cut = refl; holds = refl; there = omega arith }
group-back (l ∷ ls) vs [] us i h = not-given h
group-back (l ∷ ls) vs (t ∷ ts) us i h =
    told_cases (line_told i l vs t)
    (λ v e.
    let p = line-back i l vs t v e in
    let g = group-back ls (vs ++ (v ∷ [])) ts us (suc i) (rw e at h) in
    record {
      ws = v ∷ g.ws;
      are = g.are ∙ append_assoc vs (v ∷ []) g.ws;
      cut = ap (λ (x : List ℕ). x ∷ ts) p.0 ∙ ap (λ (x : List (List ℕ)). (key_of l ++ v) ∷ x) g.cut;
      holds = rw p.1 g.holds;
      there = omega (arith, g.there);
    })
    (λ n s f e. not-given (rw e at h))

-- ---- the row of a group's values
-- "version is 1"
version-is : (w : List ℕ) → fits true (words "1") w ≡ true → w ≡ bytes "1"
unfolding fault too_long holds is_one_of split bytes onto
version-is w h =
    cases (empty w)
    (λ e. never (sym (rw e at h)))
    (λ e. cases (any (same w) (bytes "1" ∷ [])) (λ f. one_word w (bytes "1") f) (λ f. never (sym (rw (e, f) at h))))

first_holds : (l : Line) (ls : List Line) (w : List ℕ) (ws : List (List ℕ)) → good (l ∷ ls) [] (w ∷ ws) ≡ true → l.holds (w ∷ []) w ≡ true
unfolding good line_ok
first_holds l ls w ws h =
    (both (not (same w (bytes "\"\""))) (l.holds (w ∷ []) w) (both (line_ok l [] w) (good ls (w ∷ []) ws) h).0).1

pub record RowIs (g : Name) (ws : List (List ℕ)) : Type 0 where
  pub row : Row
  pub is : row_of g ws ≡ row ∷ []
  pub group : group_of row ≡ g
  pub vals : values row ≡ ws

version : (ws : List (List ℕ)) → good (lines Msh) [] ws ≡ true → nth ws 0 ≡ bytes "1"
unfolding lines
version [] h = never (sym (unfold good in h))
version (a ∷ ws) h = version-is a (first_holds _ _ a ws h)

module _ (ws : List (List ℕ)) where
  abbrev at : ℕ → List ℕ
  at n = nth ws n

  all_of : (g : Name) → good (lines g) [] ws ≡ true → ws ≡ from ws 0 (length (lines g))
  all_of g h = exactly ws 0 (length (lines g)) (omega (arith, good_length (lines g) [] ws h))

  pub row-of : (g : Name) → 0 < length (lines g) → good (lines g) [] ws ≡ true → RowIs g ws
  unfolding row_of values lines from
  row-of Msh o h = record { row = header (at 1) (at 2) (at 3); is = refl; group = refl; vals = cc (version ws h, all_of Msh h) }
  row-of Pid o h = record { row = patient (at 0) (at 1) (at 2) (at 3) (at 4) (at 5) (at 6); is = refl; group = refl; vals = sym (all_of Pid h) }
  row-of Pv1 o h = record { row = visit (at 0); is = refl; group = refl; vals = sym (all_of Pv1 h) }
  row-of Spm o h = record { row = specimen (at 0) (at 1); is = refl; group = refl; vals = sym (all_of Spm h) }
  row-of Obr o h = record { row = order (at 0) (at 1); is = refl; group = refl; vals = sym (all_of Obr h) }
  row-of Orc o h = absurd (omega arith)
  row-of Obx o h =
      record { row = result (at 0) (at 1) (at 2) (at 3) (at 4) (at 5) (at 6) (at 7) (at 8) (at 9); is = refl; group = refl; vals = sym (all_of Obx h) }
  row-of Other o h = absurd (omega arith)

row_back : (r : Row) → row_of (group_of r) (values r) ≡ r ∷ []
unfolding row_of values
row_back (header a b c) = refl
row_back (patient a b c d e f g) = refl
row_back (visit a) = refl
row_back (specimen a b) = refl
row_back (order a b) = refl
row_back (result a b c d e f g h k l) = refl

-- ---- the first line of a row opens its group
record Head (r : Row) : Type 0 where
  l : Line
  ls : List Line
  w : List ℕ
  ws : List (List ℕ)
  lines_are : lines (group_of r) ≡ l ∷ ls
  values-are : values r ≡ w ∷ ws
  opened : opened_by known_names (key_of l ++ w) ≡ group_of r

head : (r : Row) → Head r
unfolding lines line values opened_by opens known_names key_of bytes starts
head (header a b c) = record { l = _; ls = _; w = _; ws = _; lines_are = refl; values-are = refl; opened = refl }
head (patient a b c d e f g) = record { l = _; ls = _; w = _; ws = _; lines_are = refl; values-are = refl; opened = refl }
head (visit a) = record { l = _; ls = _; w = _; ws = _; lines_are = refl; values-are = refl; opened = refl }
head (specimen a b) = record { l = _; ls = _; w = _; ws = _; lines_are = refl; values-are = refl; opened = refl }
head (order a b) = record { l = _; ls = _; w = _; ws = _; lines_are = refl; values-are = refl; opened = refl }
head (result a b c d e f g h k l) = record { l = _; ls = _; w = _; ws = _; lines_are = refl; values-are = refl; opened = refl }

-- ---- VALID ROWS ARE READ BACK
row_read : (a : Reached) (r : Row) (rs : List Row) (ts : List (List ℕ)) (i : ℕ) → may_follow a (group_of r) ≡ true → good (lines (group_of r)) [] (values r) ≡ true
    → ((j : ℕ) → rows_told (past_group a (group_of r)) 0 j ts ≡ gives rs)
    → rows_told a 0 i (lines_text (lines (group_of r)) (values r) ++ ts) ≡ gives (r ∷ rs)
row_read a r rs ts i m h k =
    let H = head r in
    let g = group_of r in
    let n = length H.ls in
    let e : lines_text (lines g) (values r) ≡ (key_of H.l ++ H.w) ∷ lines_text H.ls H.ws = rw (H.lines_are, H.values-are) (unfold lines_text in refl) in
    let x : length (lines g) ≡ suc n = ap length H.lines_are in
    let y : length (values r) ≡ suc (length H.ws) = ap length H.values-are in
    let z = good_length (lines g) [] (values r) h in
    let t : length (lines_text H.ls H.ws) ≡ n = text-length H.ls H.ws (omega arith) in
    let o : open_told a i (key_of H.l ++ H.w) ≡ gives g = unfold open_told in rw (H.opened, m) in
    let q : group_told (lines g) [] i ((key_of H.l ++ H.w) ∷ (lines_text H.ls H.ws ++ ts)) ≡ gives (values r) = rw e at (group-read (lines g) [] (values r) ts h i) in
    let u : n ≤ length (lines_text H.ls H.ws ++ ts) = rw length-append (omega arith) in
    let s : drop n (lines_text H.ls H.ws ++ ts) ≡ ts = rw t at (drop_own (lines_text H.ls H.ws) ts) in
    rw e (entered a g (values r) i n (key_of H.l ++ H.w) (lines_text H.ls H.ws ++ ts) o q x u ∙ rw (s, k (i + suc n), row_back r))

pub rows-read : (rows : List Row) (a : Reached) → valid a rows ≡ true → (i : ℕ) → rows_told a 0 i (row_lines rows) ≡ gives rows
unfolding row_lines valid
rows-read [] a v i = unfold rows_told in rw v
rows-read (r ∷ rs) a v i =
    let p = both (may_follow a (group_of r)) (good (lines (group_of r)) [] (values r) && valid (past_group a (group_of r)) rs) v in
    let q = both (good (lines (group_of r)) [] (values r)) (valid (past_group a (group_of r)) rs) p.1 in
    row_read a r rs (row_lines rs) i p.0 q.0 (λ j. rows-read rs (past_group a (group_of r)) q.1 j)

-- ---- WHAT IS READ WAS SO WRITTEN
-- a group that may follow is no other, and one that a line opens has lines
follows-some : (a : Reached) → may_follow a Other ≡ false
unfolding may_follow any
follows-some a = rw (none_after a.last)
  where
    none_after : (n : Name) → any (is Other) (after n) ≡ false
    none_after n = unfold any in (in_names (λ n. any (is Other) (after n) ≡ false) refl refl refl refl refl refl refl refl n)

has-lines : (g : Name) (t : List ℕ) → opens g t ≡ true → 0 < length (lines g)
unfolding opens
has-lines g t h = list_cases (lines g) (λ e. never (sym (rw (e, opens) at h))) (λ l ls e. rw e (omega arith))

opened-lines : (gs : List Name) (t : List ℕ) (a : Reached) → may_follow a (opened_by gs t) ≡ true → 0 < length (lines (opened_by gs t))
unfolding opened_by
opened-lines [] t a h = never (sym h ∙ follows-some a)
opened-lines (g ∷ gs) t a h =
    cases (opens g t)
    (λ e. rw (e, opened_by) (has-lines g t e))
    (λ e. rw (e, opened_by) (opened-lines gs t a (rw (e, opened_by) at h)))

open-back : (a : Reached) (i : ℕ) (t : List ℕ) (g : Name) → open_told a i t ≡ gives g → (may_follow a g ≡ true) × (0 < length (lines g))
unfolding open_told
open-back a i t g h =
    cases (may_follow a (opened_by known_names t))
    (λ e. let q : opened_by known_names t ≡ g = cc in (rw q at e, rw q at (opened-lines known_names t a e)))
    (λ e. not-given (rw e at h))

drop-first : (n : ℕ) (t : List ℕ) (ts : List (List ℕ)) → 0 < n → drop n (t ∷ ts) ≡ drop (n - 1) ts
drop-first zero t ts h = absurd (omega arith)
drop-first (suc n) t ts h = let z : suc n - 1 ≡ n = omega arith in rw z

pub record Read (a : Reached) (ts : List (List ℕ)) (rows : List Row) : Type 0 where
  pub lines : ts ≡ row_lines rows
  pub ok : valid a rows ≡ true

-- a group and the rows behind it
joined : (a : Reached) (g : Name) (ws ts us : List (List ℕ)) (rs : List Row) → may_follow a g ≡ true → good (lines g) [] ws ≡ true → (ρ : RowIs g ws)
    → ts ≡ lines_text (lines g) ws ++ us → Read (past_group a g) us rs → Read a ts (ρ.row ∷ rs)
unfolding row_lines valid
joined a g ws ts us rs m h ρ x r = record { lines = rw (ρ.group, ρ.vals) (x ∙ rw r.lines); ok = rw (ρ.group, ρ.vals, m, h) r.ok }

pub rows_back : (ts : List (List ℕ)) (a : Reached) (k i : ℕ) (rows : List Row) → k ≤ length ts → rows_told a k i ts ≡ gives rows → Read a (drop k ts) rows
unfolding rows_told
rows_back [] a zero i rows l h =
    cases (may_end a)
    (λ e. let q : [] ≡ rows = cc in record { lines = rw (← q) (unfold row_lines in refl); ok = rw (← q) (unfold valid in e) })
    (λ e. not-given (rw e at h))
rows_back [] a (suc k) i rows l h = absurd (omega arith)
rows_back (t ∷ ts) a (suc k) i rows l h = rows_back ts a k (suc i) rows (omega arith) h
rows_back (t ∷ ts) a zero i rows l h =
    told_cases (open_told a i t)
    (λ g eg. told_cases (group_told (lines g) [] i (t ∷ ts))
    (λ vs ev. told_cases (rows_told (past_group a g) (length (lines g) - 1) (suc i) ts)
    (λ rs er.
    let o = open-back a i t g eg in
    let γ = group-back (lines g) [] (t ∷ ts) vs i ev in
    let R = rows_back ts (past_group a g) (length (lines g) - 1) (suc i) rs (omega (arith, γ.there, o.1)) er in
    let ρ = row-of γ.ws g o.1 γ.holds in
    let q : gives (row_of g vs ++ rs) ≡ gives rows = rw (eg, ev, er) at h in
    let s : rows ≡ ρ.row ∷ rs = let z : row_of g vs ++ rs ≡ rows = cc in sym z ∙ ap (λ (u : List (List ℕ)). row_of g u ++ rs) γ.are ∙ ap (λ (u : List Row). u ++ rs) ρ.is in
    let x : t ∷ ts ≡ lines_text (lines g) γ.ws ++ drop (length (lines g) - 1) ts
    = γ.cut ∙ ap (λ (u : List (List ℕ)). lines_text (lines g) γ.ws ++ u) (drop-first (length (lines g)) t ts o.1) in
    rw s (joined a g γ.ws (t ∷ ts) (drop (length (lines g) - 1) ts) rs o.0 γ.holds ρ x R))
    (λ n x f e. not-given (rw (eg, ev, e) at h)))
    (λ n x f e. not-given (rw (eg, e) at h)))
    (λ n x f e. not-given (rw e at h))
