-- The laws of the next row, and of the loops over the rows of a run. Assumes nothing.
use mathlib.Core.Path.{◌≡◌, refl, sym, ap, ◌∙◌}
use mathlib.Core.Bool.{Bool, true, false, not, ◌&&◌, ◌||◌}
use mathlib.Core.List.{List, [], ◌∷◌, ◌++◌, append_assoc}
use Prim.Native.Nat.{ℕ, ◌+◌, ◌≤◌}
use native.Mathlib.Omega.{arith}
use lib.ListN.{length, drop}
use Rattle.rules.specs.declared.Name.TheVariants.{Pid, Pv1}
use Rattle.rules.specs.Lists.{same, all, any}
use Rattle.rules.proofs.Logic.{both, and-true, and_assoc}
use Rattle.rules.proofs.Lists.{all_cons, all_first}
use Rattle.csv_rules.specs.Quote.{Items, broken, cut, FileLine}
use Rattle.csv_rules.specs.Kanji.{convertible}
use Rattle.csv_rules.specs.Columns.{number_of}
use Rattle.csv_rules.specs.Sheets.{same_texts, same_number, clash, runs, row_converts, bytes_in, runs_from}
use Rattle.csv_rules.specs.Raw.{raw_keys, raw_agree}
use Rattle.csv_rules.proofs.Order.{sizes-append}
use Rattle.csv_rows.specs.declared.RowItems.{RowItems}
use Rattle.csv_rows.specs.Rows.{lines_from, items_of, Firsts, RowIs}
use Rattle.csv_rows.proofs.Laws.{row-lines, row-broken, rows_end}
use Rattle.csv_rows.proofs.Tied.{tied-raw, tied-number}
use Rattle.csv_runs.specs.Next.{goes_on, Joins}
use Rattle.csv_runs.specs.Runs.{Broken, RunIs}
use Rattle.csv_runs.proofs.Runs.{numbered, all_snoc, any_snoc, first_run, run-differs, clash-raw}

-- ---- the next row
pub ends_there : (f : List ℕ) (q : Items) (at : ℕ) → length f ≤ at → goes_on q (lines_from f at) ≡ false
unfolding goes_on
ends_there f q at h = rw (rows_end f at h).0

pub broken-there : (f : List ℕ) (q : Items) (at : ℕ) → cut (drop at f) ≡ broken → goes_on q (lines_from f at) ≡ false
unfolding goes_on
broken-there f q at h = rw (row-broken f at h).0

module _ (f : List ℕ) (first : RowItems) (at : ℕ) (row : RowItems) (size count : ℕ) (good : Bool) (t : RowIs f at false row size count good) where
  -- the number as it lies in the file is the row's
  number_is_lem : (n : Bool) → n ≡ same (number_of (items_of first)) (number_of (items_of row)) → n ≡ same_number (items_of first) t.items
  number_is_lem n e = e ∙ ap (same (number_of (items_of first))) (tied-number row t.items t.lies)

  pub other-there : (n : Bool) → n ≡ same (number_of (items_of first)) (number_of (items_of row)) → n ≡ false
      → goes_on (items_of first) (lines_from f at) ≡ false
  unfolding goes_on
  other-there n e k = rw (row-lines f at false row size count good t) (sym (number_is_lem n e) ∙ k)

  pub joins-on : (n a : Bool) → n ≡ same (number_of (items_of first)) (number_of (items_of row)) → n ≡ true
      → a ≡ (raw_agree Pid (items_of first) (items_of row) && raw_agree Pv1 (items_of first) (items_of row))
      → Joins f (items_of first) at row size good (not a)
  joins-on n a e k d =
      let own = tied-raw row t.items t.lies in
      let q = items_of first in
      record {
        items = t.items;
        lines = row-lines f at false row size count good t;
        lies = t.lies;
        number = sym (number_is_lem n e) ∙ k;
        converts = t.converts;
        header =
            ap not
            (d
            ∙ ap (λ (x : List (List ℕ)). same_texts (raw_keys Pid q) x && raw_agree Pv1 q (items_of row)) (own Pid)
            ∙ ap (λ (x : List (List ℕ)). raw_agree Pid q t.items && same_texts (raw_keys Pv1 q) x) (own Pv1));
        moves = t.moves;
        place = t.place;
      }

-- ---- no run
pub none-there : (f : List ℕ) (at : ℕ) → cut (drop at f) ≡ broken → Broken f at
unfolding runs_from runs
none-there f at h = record { none = rw (row-broken f at h).0; broken = (row-broken f at h).1 }

-- ---- the rows of a run so far: the first, and the others
pub record Read (f : List ℕ) (at : ℕ) (row : RowItems) (size : ℕ) (good differs : Bool) (first : FileLine) (others : List FileLine) : Type 0 where
  pub lies : Firsts row first.items
  pub lines : lines_from f at ≡ first ∷ (others ++ lines_from f (at + size))
  pub bytes : size ≡ bytes_in (first ∷ others)
  pub number : all (numbered (number_of first.items)) others ≡ true
  pub converts : good ≡ all row_converts (first ∷ others)
  pub header : good ≡ true → differs ≡ any (clash first.items) others
  pub place : at + size ≤ length f

pub one-read : (f : List ℕ) (at : ℕ) (row : RowItems) (size count : ℕ) (good : Bool) (t : RowIs f at false row size count good)
    → Read f at row size good false (record { items = t.items; size = size }) []
unfolding bytes_in all any
one-read f at row size count good t = record {
  lies = t.lies;
  lines = row-lines f at false row size count good t;
  bytes = omega arith;
  number = refl;
  converts = t.converts ∙ sym (all_cons row_converts (record { items = t.items; size = size }) [] ∙ and-true (all convertible t.items));
  header = λ o. refl;
  place = t.place;
}

-- a run goes on with the rows of its number, whichever row the number is taken from
goes_same : (q p : Items) (ls : List FileLine) → number_of q ≡ number_of p → goes_on q ls ≡ goes_on p ls
unfolding goes_on
goes_same q p [] e = refl
goes_same q p (r ∷ rs) e = rw e

module _ (f : List ℕ) (at : ℕ) (row : RowItems) (size : ℕ) (good differs : Bool) (first : FileLine) (others : List FileLine)
    (p : Read f at row size good differs first others) where
  number_same : number_of (items_of row) ≡ number_of first.items
  number_same = tied-number row first.items p.lies

  module _ (s : goes_on (items_of row) (lines_from f (at + size)) ≡ false) where
    pub run_is : runs_from f at ≡ record { row = first; others = others } ∷ runs (lines_from f (at + size))
    unfolding runs_from
    run_is =
        ap runs p.lines
        ∙ first_run first others (lines_from f (at + size)) p.number (sym (goes_same (items_of row) first.items (lines_from f (at + size)) number_same) ∙ s)

    pub run-found : RunIs f at size good differs
    run-found = record {
      found = record {
        run = record { row = first; others = others };
        others = runs (lines_from f (at + size));
        begins = run_is;
        bytes = p.bytes;
        converts = p.converts;
        header = λ g. p.header g ∙ sym (run-differs first others p.number);
      };
      inside = p.place;
    }

  module _ (next : RowItems) (m : ℕ) (g d : Bool) (J : Joins f (items_of row) (at + size) next m g d) where
    abbrev joined : FileLine
    joined = record { items = J.items; size = m }

    lines_more : lines_from f at ≡ first ∷ ((others ++ (joined ∷ [])) ++ lines_from f (at + (size + m)))
    lines_more =
        let e : (at + size) + m ≡ at + (size + m) = omega arith in
        p.lines ∙ ap (λ (l : List FileLine). first ∷ (others ++ l)) (J.lines ∙ ap (λ (n : ℕ). joined ∷ lines_from f n) e)
        ∙ ap (λ (l : List FileLine). first ∷ l) (sym (append_assoc others (joined ∷ []) (lines_from f (at + (size + m)))))

    number-first : same_number first.items joined.items ≡ true
    number-first = ap (λ (n : List ℕ). same n (number_of J.items)) (sym number_same) ∙ J.number

    -- the raw keys of the first row as they lie in the file are its raw keys
    header-raw : d ≡ not (raw_agree Pid first.items joined.items && raw_agree Pv1 first.items joined.items)
    header-raw =
        let own = tied-raw row first.items p.lies in
        J.header
        ∙ ap (λ (x : List (List ℕ)). not (same_texts x (raw_keys Pid J.items) && raw_agree Pv1 (items_of row) J.items)) (own Pid)
        ∙ ap (λ (x : List (List ℕ)). not (raw_agree Pid first.items J.items && same_texts x (raw_keys Pv1 J.items))) (own Pv1)

    header-more : (good && g) ≡ true → (differs || d) ≡ any (clash first.items) (others ++ (joined ∷ []))
    header-more o =
        let w = both good g o in
        let a = all_first row_converts first others (sym p.converts ∙ w.0) in
        let c = clash-raw first joined number-first a.0 (sym J.converts ∙ w.1) in
        rw (any_snoc (clash first.items) others joined, c, ← header-raw, p.header w.0)

    pub one_more : Read f at row (size + m) (good && g) (differs || d) first (others ++ (joined ∷ []))
    unfolding bytes_in
    one_more = record {
      lies = p.lies;
      lines = lines_more;
      bytes = omega (arith, p.bytes, sizes-append others (joined ∷ []));
      number = rw (all_snoc (numbered (number_of first.items)) others joined, p.number) number-first;
      converts =
          rw (p.converts, J.converts, all_cons row_converts first others, all_cons row_converts first (others ++ (joined ∷ [])), all_snoc row_converts others joined)
          (sym (and_assoc (row_converts first) (all row_converts others) (row_converts joined)));
      header = header-more;
      place = omega (arith, J.place);
    }

-- ---- the loops
pub record Going (f : List ℕ) (at : ℕ) (row : RowItems) (size : ℕ) (good differs : Bool) : Type 0 where
  pub first : FileLine
  pub others : List FileLine
  pub read : Read f at row size good differs first others

pub run-begins : (f : List ℕ) (at : ℕ) (row : RowItems) (size count : ℕ) (good : Bool) → RowIs f at false row size count good → Going f at row size good false
run-begins f at row size count good t = record { first = record { items = t.items; size = size }; others = []; read = one-read f at row size count good t }

module _ (f : List ℕ) (at : ℕ) (row : RowItems) (size : ℕ) (good differs : Bool) (G : Going f at row size good differs) where
  pub run-over : goes_on (items_of row) (lines_from f (at + size)) ≡ false → RunIs f at size good differs
  run-over = run-found f at row size good differs G.first G.others G.read

  module _ (next : RowItems) (m : ℕ) (g d : Bool) (J : Joins f (items_of row) (at + size) next m g d) where
    pub run_on : Going f at row (size + m) (good && g) (differs || d)
    run_on = record {
      first = G.first;
      others = G.others ++ (record { items = J.items; size = m } ∷ []);
      read = one_more f at row size good differs G.first G.others G.read next m g d J;
    }
