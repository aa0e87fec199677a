-- The laws of the sheet of a run, written while its rows are walked. Assumes nothing.
use mathlib.Core.Path.{◌≡◌, refl, sym, ap, ◌∙◌}
use mathlib.Core.Bool.{Bool, true, false, cond, ◌&&◌, ◌||◌}
use mathlib.Core.List.{List, [], ◌∷◌, ◌++◌, append-nil, append_assoc}
use Prim.Native.Nat.{ℕ, ◌+◌}
use Rattle.rules.specs.Lists.{all, ended}
use Rattle.rules.specs.Sheet.{row_lines, sheet_of}
use Rattle.rules.proofs.Logic.{both}
use Rattle.rules.proofs.Lists.{all_first}
use Rattle.csv_rules.specs.Quote.{Items, FileLine}
use Rattle.csv_rules.specs.Kanji.{convertible}
use Rattle.csv_rules.specs.Sheets.{Run, row_converts, Given, below, sheet_rows}
use Rattle.reach.proofs.Laws.{adds_none}
use Rattle.csv_rows.specs.declared.RowItems.{RowItems}
use Rattle.csv_rows.specs.Rows.{lines_from, items_of, Firsts, RowIs}
use Rattle.csv_rows.proofs.Tied.{tied-keys, tied-converts}
use Rattle.csv_lines.specs.declared.Lines.{Lines}
use Rattle.csv_lines.specs.Lines.{header_lines, first_lines, next_lines}
use Rattle.csv_lines.specs.Written.{Writes}
use Rattle.csv_lines.proofs.Groups.{lines_then}
use Rattle.csv_lines.proofs.Rows.{rows_are, next-are, first-same, next-same}
use Rattle.csv_runs.specs.Next.{goes_on, Joins}
use Rattle.csv_runs.specs.Sheet.{RowReady, sheet_at, PutIs}
use Rattle.csv_runs.proofs.Laws.{Read, one-read, run_is, run-found, one_more}

-- ---- lines where they are asked for
pub ready-converts : (row : RowItems) (asked : Bool) → RowReady row asked → asked ≡ true → all convertible (items_of row) ≡ true
ready-converts row asked p h = p.converts h

module _ (asked : Bool) (l m : Lines) (ls : List (List ℕ)) where
  pub put-asked : asked ≡ true → Writes l m ls → Writes l m (cond asked ls [])
  put-asked h p = rw h p

  pub put-none : asked ≡ false → Writes l l (cond asked ls [])
  unfolding ended
  put-none h = rw h (record { same = refl; adds = adds_none l.at l.out.now l.inside })

  pub then-asked : (n : Lines) (ms : List (List ℕ)) → asked ≡ true → Writes l m ms → Writes m n ls → Writes l n (ms ++ cond asked ls [])
  then-asked n ms h p q = rw h (lines_then p q)

  pub then-none : (ms : List (List ℕ)) → asked ≡ false → Writes l m ms → Writes l m (ms ++ cond asked ls [])
  then-none ms h p = rw (h, append-nil ms) p

-- ---- the last of some rows, and the lines of one more
unfoldable pub last_of : FileLine → List FileLine → FileLine
last_of q [] = q
last_of q (r ∷ rs) = last_of r rs

last_snoc : (q r : FileLine) (rs : List FileLine) → last_of q (rs ++ (r ∷ [])) ≡ r
unfolding last_of
last_snoc q r [] = refl
last_snoc q r (p ∷ rs) = last_snoc p r rs

last-converts : (q : FileLine) (rs : List FileLine) → all row_converts (q ∷ rs) ≡ true → row_converts (last_of q rs) ≡ true
unfolding last_of
last-converts q [] h = (all_first row_converts q [] h).0
last-converts q (r ∷ rs) h = last-converts r rs (all_first row_converts q (r ∷ rs) h).1

one_below : (q r : FileLine) (rs : List FileLine)
    → row_lines (below q.items (rs ++ (r ∷ []))) ≡ row_lines (below q.items rs) ++ next_lines (last_of q rs).items r.items
unfolding row_lines below last_of
one_below q r [] = next-are q.items r [] ∙ append-nil (next_lines q.items r.items)
one_below q r (p ∷ rs) =
    next-are q.items p (rs ++ (r ∷ []))
    ∙ ap (λ (ls : List (List ℕ)). next_lines q.items p.items ++ ls) (one_below p r rs)
    ∙ sym (append_assoc (next_lines q.items p.items) (row_lines (below p.items rs)) (next_lines (last_of p rs).items r.items))
    ∙ ap (λ (ls : List (List ℕ)). ls ++ next_lines (last_of p rs).items r.items) (sym (next-are q.items p rs))

-- ---- the rows so far, and the lines of those behind the first, behind l₀, as far as all convert; before: the last row
pub record Putting (f : List ℕ) (at : ℕ) (row : RowItems) (good₀ : Bool) (l₀ l : Lines) (size : ℕ) (good differs : Bool) (before : RowItems) : Type 0 where
  pub first : FileLine
  pub others : List FileLine
  pub read : Read f at row size good differs first others
  pub last : Firsts before (last_of first others).items
  pub done : List (List ℕ)
  pub adds : Writes l₀ l done
  pub text : good ≡ true → done ≡ row_lines (below first.items others)
  pub kept : good ≡ true → good₀ ≡ true

module _ (f : List ℕ) (at : ℕ) (row : RowItems) (size count : ℕ) (good : Bool) (t : RowIs f at false row size count good) where
  pub first-ready : RowReady row good
  first-ready = record { converts = λ h. tied-converts row t.items t.lies (sym t.converts ∙ h) }

  pub put-begins : (l : Lines) → Putting f at row good l l size good false row
  unfolding ended row_lines below last_of
  put-begins l = record {
    first = record { items = t.items; size = size };
    others = [];
    read = one-read f at row size count good t;
    last = t.lies;
    done = [];
    adds = record { same = refl; adds = adds_none l.at l.out.now l.inside };
    text = λ o. refl;
    kept = λ o. o;
  }

pub next-ready : (f : List ℕ) (q : Items) (at : ℕ) (next : RowItems) (m : ℕ) (good g d : Bool) → Joins f q at next m g d → RowReady next (good && g)
next-ready f q at next m good g d J = record { converts = λ o. tied-converts next J.items J.lies (sym J.converts ∙ (both good g o).1) }

module _ (f : List ℕ) (at : ℕ) (row : RowItems) (good₀ : Bool) (l₀ l : Lines) (size : ℕ) (good differs : Bool) (before : RowItems)
    (P : Putting f at row good₀ l₀ l size good differs before) where
  abbrev run : Run
  run = record { row = P.first; others = P.others }

  pub before-ready : (g : Bool) → RowReady before (good && g)
  before-ready g = record {
    converts = λ o.
        let w = both good g o in
        tied-converts before (last_of P.first P.others).items P.last (last-converts P.first P.others (sym P.read.converts ∙ w.0));
  }

  -- one turn
  module _ (next : RowItems) (m : ℕ) (g d : Bool) (J : Joins f (items_of row) (at + size) next m g d)
      (m₁ : Lines) (a : Writes l m₁ (cond (good && g) (next_lines (items_of before) (items_of next)) [])) where
    abbrev more : List (List ℕ)
    more = next_lines (items_of before) (items_of next)

    pub put_on : Putting f at row good₀ l₀ m₁ (size + m) (good && g) (differs || d) next
    put_on =
        let joined : FileLine = record { items = J.items; size = m } in
        let q = (last_of P.first P.others).items in
        record {
          first = P.first;
          others = P.others ++ (joined ∷ []);
          read = one_more f at row size good differs P.first P.others P.read next m g d J;
          last = rw (last_snoc P.first joined P.others) J.lies;
          done = P.done ++ cond (good && g) more [];
          adds = lines_then P.adds a;
          text = λ o.
              ap (λ (b : Bool). P.done ++ cond b more []) o
              ∙ ap (λ (ls : List (List ℕ)). ls ++ more) (P.text (both good g o).0)
              ∙ ap (λ (ls : List (List ℕ)). row_lines (below P.first.items P.others) ++ ls)
              (next-same (items_of before) q (items_of next) J.items (tied-keys before q P.last) (tied-keys next J.items J.lies))
              ∙ sym (one_below P.first joined P.others);
          kept = λ o. P.kept (both good g o).0;
        }

  -- the whole sheet
  module _ (mode sent control : List ℕ) (w : Lines) (a : Writes w l₀ (header_lines mode sent control ++ cond good₀ (first_lines (items_of row)) [])) where
    abbrev given : Given
    given = record { mode = mode; sent = sent; control = control }

    sheet-lines : good ≡ true → row_lines (sheet_rows given run) ≡ (header_lines mode sent control ++ cond good₀ (first_lines (items_of row)) []) ++ P.done
    sheet-lines o =
        let T = tied-keys row P.first.items P.read.lies in
        let H = header_lines mode sent control in
        rows_are given run
        ∙ ap (λ (ls : List (List ℕ)). H ++ (ls ++ row_lines (below P.first.items P.others))) (sym (first-same (items_of row) P.first.items T))
        ∙ ap (λ (ls : List (List ℕ)). H ++ (first_lines (items_of row) ++ ls)) (sym (P.text o))
        ∙ sym (append_assoc H (first_lines (items_of row)) P.done)
        ∙ ap (λ (c : Bool). (H ++ cond c (first_lines (items_of row)) []) ++ P.done) (sym (P.kept o))

    pub put-over : goes_on (items_of row) (lines_from f (at + size)) ≡ false → (x y : List ℕ) → w.at ≡ 0 → w.out.now ≡ x → y ≡ l.out.now → PutIs f at given x size l.at good differs y
    unfolding sheet_at sheet_of
    put-over z x y e o b =
        let whole = lines_then a P.adds in
        let A = rw (e, o) at whole.adds in
        rw b
        (record {
          run = run-found f at row size good differs P.first P.others P.read z;
          sheet = λ g. rw (run_is f at row size good differs P.first P.others P.read z, sheet_at, sheet-lines g) A;
          same = A.same;
          inside = A.inside;
        })
