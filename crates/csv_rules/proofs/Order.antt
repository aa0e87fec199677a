-- Sheet after sheet from the first row on gives the sheets of the file in order. Assumes nothing.
use mathlib.Core.Path.{◌≡◌, refl, sym, ap, ◌∙◌}
use mathlib.Core.Bool.{Bool, true, false, cond, not}
use mathlib.Core.List.{List, [], ◌∷◌, ◌++◌}
use Prim.Native.Nat.{ℕ, zero, suc, ◌+◌, ◌*◌, ◌≤◌, ◌<◌}
use native.Mathlib.Omega.{arith}
use borrow.Author.Tests.{not-false}
use lib.Dec.{eqb}
use lib.ListN.{length, take, drop, take-append-drop, drop_of_length-le, length-drop}
use lib.Seq.{drop-drop}
use Rattle.rules.specs.Told.{gives, refused, ◌>>=◌}
use Rattle.rules.specs.Lists.{all, any, onto}
use Rattle.rules.specs.Fetch.{ordinal}
use Rattle.rules.proofs.Logic.{cases, list_cases, guard, neither}
use Rattle.rules.proofs.Lists.{take_own, drop_own, all_first, any-first}
use Rattle.csv_rules.specs.Quote.{Stand, Begins, Comma, Inside, Quote, Cr, Items, Lines, end, broken, line, more, lines_at, cut, is_broken, FileLine, lines_in}
use Rattle.csv_rules.specs.Count.{well_counted}
use Rattle.csv_rules.specs.Sheets.{same_number, clash, differ, Run, run_lines, join_run, runs, returns, row_converts, csv_told, Given, run_told, csv_sheet, bytes_in, first_row, first_told, runs_from, csv_next, behind_run, place_after}
use Rattle.csv_rules.specs.Claims.{Follows, SheetsInOrder, place_of, SheetByPlace}

-- ---- behind a line begin the lines after it
unfoldable Rest : List ℕ → Lines → Type 0
Rest s end = Unit {0}
Rest s broken = Unit {0}
Rest s (line is n ls) = lines_at Begins (drop n s) ≡ ls

rest_more : (f : Items → Items) (b : ℕ) (s : List ℕ) (ls : Lines) → Rest s ls → Rest (b ∷ s) (more f ls)
unfolding Rest more
rest_more f b s end h = tt
rest_more f b s broken h = tt
rest_more f b s (line is n ls) h = h

rest_of : (a : Stand) (s : List ℕ) → Rest s (lines_at a s)
unfolding Rest lines_at
rest_of Begins [] = tt
rest_of Comma [] = tt
rest_of Inside [] = tt
rest_of Quote [] = refl
rest_of Cr [] = tt
rest_of Begins (b ∷ s) = cases (eqb b 0x22) (λ e. rw (e, lines_at) (rest_more (λ is. is) b s (lines_at Inside s) (rest_of Inside s))) (λ e. rw (e, lines_at) tt)
rest_of Comma (b ∷ s) = cases (eqb b 0x22) (λ e. rw (e, lines_at) (rest_more (λ is. is) b s (lines_at Inside s) (rest_of Inside s))) (λ e. rw (e, lines_at) tt)
rest_of Inside (b ∷ s) =
    cases (eqb b 0x22)
    (λ e. rw (e, lines_at) (rest_more (λ is. is) b s (lines_at Quote s) (rest_of Quote s)))
    (λ e. rw (e, lines_at) (rest_more (onto b) b s (lines_at Inside s) (rest_of Inside s)))
rest_of Quote (b ∷ s) =
    cases (eqb b 0x22) (λ e. rw (e, lines_at) (rest_more (onto b) b s (lines_at Inside s) (rest_of Inside s)))
    (λ e.
    cases (eqb b 0x2C) (λ f. rw (e, f, lines_at) (rest_more (λ is. [] ∷ is) b s (lines_at Comma s) (rest_of Comma s)))
    (λ f.
    cases (eqb b 0x0D) (λ g. rw (e, f, g, lines_at) (rest_more (λ is. is) b s (lines_at Cr s) (rest_of Cr s))) (λ g. rw (e, f, g, lines_at) tt)))
rest_of Cr (b ∷ s) = cases (eqb b 0x0A) (λ e. rw (e, lines_at) refl) (λ e. rw (e, lines_at) tt)

rest-cut : (s : List ℕ) (is : Items) (n : ℕ) (ls : Lines) → cut s ≡ line is n ls → cut (drop n s) ≡ ls
unfolding Rest cut
rest-cut s is n ls e = let r : Rest s (line is n ls) = rw e at (rest_of Begins s) in r

-- behind the first k lines begin the others
pub record Behind (c : Lines) (k : ℕ) (rest : Lines) : Type 0 where
  pub rows : lines_in rest ≡ drop k (lines_in c)
  pub good : is_broken rest ≡ is_broken c

pub skip : (k : ℕ) (s : List ℕ) (c : Lines) → cut s ≡ c → Behind c k (cut (drop (bytes_in (take k (lines_in c))) s))
unfolding bytes_in lines_in is_broken
skip zero s c e = record { rows = ap lines_in e; good = ap is_broken e }
skip (suc k) s end e = record { rows = ap lines_in e; good = ap is_broken e }
skip (suc k) s broken e = record { rows = ap lines_in e; good = ap is_broken e }
skip (suc k) s (line is n ls) e =
    let h = skip k (drop n s) ls (rest-cut s is n ls e) in
    let d = drop-drop (bytes_in (take k (lines_in ls))) n s in
    record { rows = rw d at h.rows; good = rw d at h.good }

-- ---- the first run of some rows, and the runs of the others
pub record First (rows : List FileLine) (u : Run) (us : List Run) : Type 0 where
  pub rest : List FileLine
  pub is : rows ≡ run_lines u ++ rest
  pub later : runs rest ≡ us

abbrev alone : FileLine → Run
alone r = record { row = r; others = [] }

abbrev with-run : FileLine → Run → Run
with-run r w = record { row = r; others = run_lines w }

no_run : {A P : Type 0} {x : A} {s : List A} → [] ≡ x ∷ s → P
no_run h = let z : ◌≡◌ {A = ℕ} 0 1 = cc in absurd (omega arith)

first-joined : (r : FileLine) (rs : List FileLine) (us : List Run) → runs rs ≡ us → ((w : Run) (ws : List Run) → runs rs ≡ w ∷ ws → First rs w ws)
    → (u : Run) (later : List Run) → join_run r us ≡ u ∷ later → First (r ∷ rs) u later
unfolding join_run
first-joined r rs [] e f u later h =
    let q : alone r ≡ u = cc in
    let l : ◌≡◌ {A = List Run} [] later = cc in
    record { rest = rs; is = rw (← q); later = e ∙ l }
first-joined r rs (w ∷ ws) e f u later h =
    cases (same_number r.items w.row.items)
    (λ s.
    let k : with-run r w ∷ ws ≡ u ∷ later = rw (s, join_run) at h in
    let q : with-run r w ≡ u = cc in
    let l : ws ≡ later = cc in
    let F = f w ws e in
    record { rest = F.rest; is = rw (← q) (ap (λ (x : List FileLine). r ∷ x) F.is); later = F.later ∙ l })
    (λ s.
    let k : alone r ∷ (w ∷ ws) ≡ u ∷ later = rw (s, join_run) at h in
    let q : alone r ≡ u = cc in
    let l : w ∷ ws ≡ later = cc in
    record { rest = rs; is = rw (← q); later = e ∙ l })

pub first_run : (rows : List FileLine) (u : Run) (us : List Run) → runs rows ≡ u ∷ us → First rows u us
unfolding runs
first_run [] u us h = no_run h
first_run (r ∷ rs) u us h = first-joined r rs (runs rs) refl (λ w ws e. first_run rs w ws e) u us h

-- ---- what holds of all rows holds of each part
pub all-parts : {A : Type 0} (p : A → Bool) (a b : List A) → all p (a ++ b) ≡ true → (all p a ≡ true) × (all p b ≡ true)
unfolding all
all-parts p [] b h = (refl, h)
all-parts p (x ∷ a) b h =
    let q = all_first p x (a ++ b) h in
    let r = all-parts p a b q.1 in
    (rw (q.0, all) r.0, r.1)

pub any-parts : {A : Type 0} (p : A → Bool) (a b : List A) → any p (a ++ b) ≡ false → (any p a ≡ false) × (any p b ≡ false)
unfolding any
any-parts p [] b h = (refl, h)
any-parts p (x ∷ a) b h =
    let q = any-first p x (a ++ b) h in
    let r = any-parts p a b q.1 in
    (rw (q.0, any) r.0, r.1)

pub differ-parts : (a b : List FileLine) → differ (a ++ b) ≡ false → (differ a ≡ false) × (differ b ≡ false)
unfolding differ
differ-parts [] b h = (refl, h)
differ-parts (r ∷ a) b h =
    let q = neither (any (clash r.items) (a ++ b)) (differ (a ++ b)) h in
    let s = differ-parts a b q.1 in
    (rw ((any-parts (clash r.items) a b q.0).0, s.0), s.1)

-- ---- the claim
-- what stands from a place on, of a file that 50 to 54 don't refuse: these rows, and these runs
record From (file : List ℕ) (at : ℕ) (rows : List FileLine) (us : List Run) : Type 0 where
  lines : lines_in (cut (drop at file)) ≡ rows
  good : is_broken (cut (drop at file)) ≡ false
  convert : all row_converts rows ≡ true
  agree : differ rows ≡ false
  runs-are : runs rows ≡ us

from-runs : (file : List ℕ) (at : ℕ) (rows : List FileLine) (us : List Run) → From file at rows us → runs_from file at ≡ us
unfolding runs_from
from-runs file at rows us F = ap runs F.lines ∙ F.runs-are

from_next : (file : List ℕ) (at : ℕ) (rows : List FileLine) (u : Run) (us : List Run) → From file at rows (u ∷ us)
    → (X : First rows u us) → From file (place_after file at) X.rest us
unfolding place_after behind_run
from_next file at rows u us F X =
    let c = cut (drop at file) in
    let n = length (run_lines u) in
    let t : take n (lines_in c) ≡ run_lines u = ap (take n) (F.lines ∙ X.is) ∙ take_own (run_lines u) X.rest in
    let d : drop n (lines_in c) ≡ X.rest = ap (drop n) (F.lines ∙ X.is) ∙ drop_own (run_lines u) X.rest in
    let B : Behind c n (cut (drop (at + bytes_in (run_lines u)) file)) = rw (t, drop-drop (bytes_in (run_lines u)) at file) at (skip n (drop at file) c refl) in
    rw (from-runs file at rows (u ∷ us) F) (record {
      lines = B.rows ∙ d;
      good = B.good ∙ F.good;
      convert = (all-parts row_converts (run_lines u) X.rest (rw X.is at F.convert)).1;
      agree = (differ-parts (run_lines u) X.rest (rw X.is at F.agree)).1;
      runs-are = X.later;
    })

follows : (file : List ℕ) (us : List Run) (at : ℕ) (rows : List FileLine) → From file at rows us → Follows file at us
unfolding Follows csv_next first_told
follows file [] at rows F = λ g room. rw (from-runs file at rows [] F, F.good)
follows file (u ∷ us) at rows F =
    let X = first_run rows u us F.runs-are in
    let c = (all-parts row_converts (run_lines u) X.rest (rw X.is at F.convert)).0 in
    let d = (differ-parts (run_lines u) X.rest (rw X.is at F.agree)).0 in
    (λ g room. rw (from-runs file at rows (u ∷ us) F, c, d), follows file us (place_after file at) X.rest (from_next file at rows u us F X))

-- a file that gives runs breaks none of 50 to 54
record Fine (file : List ℕ) (us : List Run) : Type 0 where
  good : is_broken (cut file) ≡ false
  convert : all row_converts (lines_in (cut file)) ≡ true
  agree : differ (drop 2 (lines_in (cut file))) ≡ false
  is : runs (drop 2 (lines_in (cut file))) ≡ us

fine : (file : List ℕ) (us : List Run) → csv_told file ≡ gives us → Fine file us
unfolding csv_told
fine file us h =
    let ls = lines_in (cut file) in
    let rows = drop 2 ls in
    let e = cond (returns (runs rows)) (refused 54 0 0) (gives (runs rows)) in
    let d = cond (differ rows) (refused 53 0 0) e in
    let c = cond (not (all row_converts ls)) (refused 52 0 0) d in
    let g50 = guard 50 0 0 (is_broken (cut file)) (cond (not (well_counted ls)) (refused 51 0 0) c) us h in
    let g51 = guard 51 0 0 (not (well_counted ls)) c us g50.1 in
    let g52 = guard 52 0 0 (not (all row_converts ls)) d us g51.1 in
    let g53 = guard 53 0 0 (differ rows) e us g52.1 in
    let g54 = guard 54 0 0 (returns (runs rows)) (gives (runs rows)) us g53.1 in
    record { good = g50.0; convert = not-false (all row_converts ls) g52.0; agree = g53.0; is = cc g54.1 }

from_first : (file : List ℕ) (us : List Run) → csv_told file ≡ gives us → From file (first_row file) (drop 2 (lines_in (cut file))) us
unfolding first_row
from_first file us h =
    let F = fine file us h in
    let ls = lines_in (cut file) in
    let B = skip 2 file (cut file) refl in
    record {
      lines = B.rows;
      good = B.good ∙ F.good;
      convert = (all-parts row_converts (take 2 ls) (drop 2 ls) (rw (take-append-drop 2 ls) F.convert)).1;
      agree = F.agree;
      runs-are = F.is;
    }

pub in_order : SheetsInOrder
in_order file us h = follows file us (first_row file) (drop 2 (lines_in (cut file))) (from_first file us h)

-- ---- the which-th sheet by its place
-- at the end of the file nothing begins
from_end : (file : List ℕ) → From file (length file) [] []
unfolding cut lines_at lines_in is_broken all differ runs
from_end file = let e = drop_of_length-le file {i = length file} (omega arith) in record { lines = rw e; good = rw e; convert = refl; agree = refl; runs-are = refl }

none-next : (file : List ℕ) (at : ℕ) (rows : List FileLine) → From file at rows [] → place_after file at ≡ length file
unfolding place_after behind_run
none-next file at rows F = rw (from-runs file at rows [] F)

by_place : (n : ℕ) (file : List ℕ) (us : List Run) (at : ℕ) (rows : List FileLine) → From file at rows us → (g : Given) (room : ℕ)
    → csv_next file (place_of file at n) g room ≡ (ordinal us (suc n) >>= λ u. run_told g u room)
unfolding place_of ordinal Follows
by_place zero file [] at rows F g room = follows file [] at rows F g room
by_place zero file (u ∷ us) at rows F g room = (follows file (u ∷ us) at rows F).0 g room
by_place (suc n) file [] at rows F g room = rw (none-next file at rows F) (by_place n file [] (length file) [] (from_end file) g room)
by_place (suc n) file (u ∷ us) at rows F g room =
    let X = first_run rows u us F.runs-are in
    by_place n file us (place_after file at) X.rest (from_next file at rows u us F X) g room

pub sheet-by-place : SheetByPlace
unfolding csv_sheet
sheet-by-place file us h n g room = rw h (sym (by_place n file us (first_row file) (drop 2 (lines_in (cut file))) (from_first file us h) g room))

-- ---- a place lies in the file, and behind the one before
grown : (f : Items → Items) (c : Lines) (n : ℕ) → bytes_in (lines_in c) ≤ n → bytes_in (lines_in (more f c)) ≤ suc n
unfolding more lines_in bytes_in
grown f end n h = omega arith
grown f broken n h = omega arith
grown f (line is k ls) n h = omega arith

pub sizes-at : (a : Stand) (s : List ℕ) → bytes_in (lines_in (lines_at a s)) ≤ length s
unfolding lines_at lines_in bytes_in
sizes-at Begins [] = omega arith
sizes-at Comma [] = omega arith
sizes-at Inside [] = omega arith
sizes-at Quote [] = omega arith
sizes-at Cr [] = omega arith
sizes-at Begins (b ∷ s) = cases (eqb b 0x22) (λ e. rw (e, lines_at) (grown (λ is. is) (lines_at Inside s) (length s) (sizes-at Inside s))) (λ e. rw (e, lines_at) (omega arith))
sizes-at Comma (b ∷ s) = cases (eqb b 0x22) (λ e. rw (e, lines_at) (grown (λ is. is) (lines_at Inside s) (length s) (sizes-at Inside s))) (λ e. rw (e, lines_at) (omega arith))
sizes-at Inside (b ∷ s) =
    cases (eqb b 0x22)
    (λ e. rw (e, lines_at) (grown (λ is. is) (lines_at Quote s) (length s) (sizes-at Quote s)))
    (λ e. rw (e, lines_at) (grown (onto b) (lines_at Inside s) (length s) (sizes-at Inside s)))
sizes-at Quote (b ∷ s) =
    cases (eqb b 0x22) (λ e. rw (e, lines_at) (grown (onto b) (lines_at Inside s) (length s) (sizes-at Inside s)))
    (λ e.
    cases (eqb b 0x2C) (λ f. rw (e, f, lines_at) (grown (λ is. [] ∷ is) (lines_at Comma s) (length s) (sizes-at Comma s)))
    (λ f.
    cases (eqb b 0x0D) (λ g. rw (e, f, g, lines_at) (grown (λ is. is) (lines_at Cr s) (length s) (sizes-at Cr s))) (λ g. rw (e, f, g, lines_at) (omega arith))))
sizes-at Cr (b ∷ s) = cases (eqb b 0x0A) (λ e. rw (e, lines_at) (omega (arith, sizes-at Begins s))) (λ e. rw (e, lines_at) (omega arith))

pub sizes-append : (a b : List FileLine) → bytes_in (a ++ b) ≡ bytes_in a + bytes_in b
unfolding bytes_in
sizes-append [] b = omega arith
sizes-append (l ∷ a) b = omega (arith, sizes-append a b)

-- a line that is there has bytes
more_bytes : (f : Items → Items) (c : Lines) (l : FileLine) (ls : List FileLine) → lines_in (more f c) ≡ l ∷ ls → 1 ≤ l.size
unfolding more lines_in
more_bytes f end l ls h = no_run h
more_bytes f broken l ls h = no_run h
more_bytes f (line is n ms) l ls h = let e : (record { items = f is; size = suc n }) ≡ l = cc in let z : suc n ≡ l.size = ap (λ (x : FileLine). x.size) e in omega arith

pub some_bytes : (s : List ℕ) (l : FileLine) (ls : List FileLine) → lines_in (cut s) ≡ l ∷ ls → 1 ≤ l.size
unfolding cut lines_at lines_in
some_bytes [] l ls h = no_run h
some_bytes (b ∷ s) l ls h =
    cases (eqb b 0x22) (λ e. more_bytes (λ is. is) (lines_at Inside s) l ls (rw (e, lines_at) at h)) (λ e. no_run (rw (e, lines_at) at h))

-- the place behind a run
run-place : (file : List ℕ) (at : ℕ) (u : Run) (us : List Run) → runs_from file at ≡ u ∷ us → (at < place_after file at) × (place_after file at ≤ length file)
unfolding runs_from place_after behind_run bytes_in cut
run-place file at u us h =
    let X = first_run (lines_in (cut (drop at file))) u us h in
    let one = some_bytes (drop at file) u.row (u.others ++ X.rest) X.is in
    let all = sizes-at Begins (drop at file) in
    let sum = ap bytes_in X.is ∙ sizes-append (run_lines u) X.rest in
    let len = length-drop at file in
    rw h (omega (arith, one, all, sum, len), omega (arith, one, all, sum, len))

pub place-within : (file : List ℕ) (at : ℕ) → place_after file at ≤ length file
unfolding place_after behind_run
place-within file at =
    list_cases (runs_from file at) (λ e. rw e (omega arith)) (λ u us e. (run-place file at u us e).1)

pub place-moves : (file : List ℕ) (at : ℕ) (u : Run) (us : List Run) → runs_from file at ≡ u ∷ us → at < place_after file at
place-moves file at u us h = (run-place file at u us h).0

-- ---- a line has two bytes at least
abbrev credit : Stand → ℕ
credit Begins = 0
credit Comma = 0
credit Inside = 1
credit Quote = 2
credit Cr = 1

count-more : (g : Items → Items) (c : Lines) → length (lines_in (more g c)) ≤ length (lines_in c)
unfolding more lines_in
count-more g end = omega arith
count-more g broken = omega arith
count-more g (line is n ls) = omega arith

few-at : (a : Stand) (s : List ℕ) → 2 * length (lines_in (lines_at a s)) ≤ length s + credit a
unfolding lines_at lines_in
few-at Begins [] = omega arith
few-at Comma [] = omega arith
few-at Inside [] = omega arith
few-at Quote [] = omega arith
few-at Cr [] = omega arith
few-at Begins (b ∷ s) =
    cases (eqb b 0x22) (λ e. rw (e, lines_at) (omega (arith, count-more (λ is. is) (lines_at Inside s), few-at Inside s))) (λ e. rw (e, lines_at) (omega arith))
few-at Comma (b ∷ s) =
    cases (eqb b 0x22) (λ e. rw (e, lines_at) (omega (arith, count-more (λ is. is) (lines_at Inside s), few-at Inside s))) (λ e. rw (e, lines_at) (omega arith))
few-at Inside (b ∷ s) =
    cases (eqb b 0x22) (λ e. rw (e, lines_at) (omega (arith, count-more (λ is. is) (lines_at Quote s), few-at Quote s)))
    (λ e. rw (e, lines_at) (omega (arith, count-more (onto b) (lines_at Inside s), few-at Inside s)))
few-at Quote (b ∷ s) =
    cases (eqb b 0x22) (λ e. rw (e, lines_at) (omega (arith, count-more (onto b) (lines_at Inside s), few-at Inside s)))
    (λ e.
    cases (eqb b 0x2C) (λ k. rw (e, k, lines_at) (omega (arith, count-more (λ is. [] ∷ is) (lines_at Comma s), few-at Comma s)))
    (λ k.
    cases (eqb b 0x0D) (λ q. rw (e, k, q, lines_at) (omega (arith, count-more (λ is. is) (lines_at Cr s), few-at Cr s)))
    (λ q. rw (e, k, q, lines_at) (omega arith))))
few-at Cr (b ∷ s) = cases (eqb b 0x0A) (λ e. rw (e, lines_at) (omega (arith, few-at Begins s))) (λ e. rw (e, lines_at) (omega arith))

pub few-lines : (f : List ℕ) (n : ℕ) → n ≡ length (lines_in (cut f)) → 2 * n ≤ length f
unfolding cut
few-lines f n e = omega (arith, few-at Begins f)
