-- How a row stands to the rows before it says 53, 54 and whether a run begins. The rows before are those that are kept, and behind them the late ones,
-- which aren't; the nearest first. Assumes nothing.
use mathlib.Core.Path.{◌≡◌, refl, sym, ap, ◌∙◌}
use mathlib.Core.Bool.{Bool, true, false, cond, not}
use mathlib.Core.List.{List, [], ◌∷◌, ◌++◌}
use Rattle.rules.specs.declared.Name.TheVariants.{Pid, Pv1}
use Rattle.rules.specs.Lists.{any, all}
use Rattle.rules.proofs.Logic.{cases, never, or-false, or-true}
use Rattle.rules.proofs.Lists.{any-cons, any-nil, any-first, all_first}
use Rattle.csv_rules.specs.Quote.{Items, FileLine}
use Rattle.csv_rules.specs.Columns.{number_of}
use Rattle.csv_rules.specs.Raw.{raw_keys}
use Rattle.csv_rules.specs.Sheets.{same_number, clash, differ, row_converts}
use Rattle.csv_rules.specs.Spot.{comes_back}
use Rattle.csv_rules.proofs.Behind.{number-sym, among, one-for-all, new-agrees, none_over}
use Rattle.csv_rules.proofs.Raw.{agree-raw}
use Rattle.csv_rules.proofs.Order.{all-parts}
use Rattle.csv_repeats.specs.declared.Standing.{Standing}
use Rattle.csv_repeats.specs.declared.Standing.TheVariants.{Same, New, Back, Differs}
use Rattle.csv_repeats.specs.Looks.{same_header, is_differs, is_back, begun}
use Rattle.csv_repeats.proofs.Seen.{In, in-here, in-there, in-any, any_append, same_run}

-- ---- a row as it lies in the file stands as its items do
pub record Alike (r q : Items) : Type 0 where
  pub number : number_of r ≡ number_of q
  pub pid : raw_keys Pid r ≡ raw_keys Pid q
  pub pv1 : raw_keys Pv1 r ≡ raw_keys Pv1 q

-- ---- what a standing tells
pub record Says (kept late : List FileLine) (l : FileLine) (s : Standing) : Type 0 where
  pub differs : is_differs s ≡ true → any (clash l.items) (late ++ kept) ≡ true
  pub agrees : is_differs s ≡ false → any (clash l.items) kept ≡ false
  pub begins : is_differs s ≡ false → begun s ≡ cond (same_run (late ++ kept) l) 0 1
  pub returns : is_back s ≡ true → comes_back (late ++ kept) l ≡ true
  pub stays : is_differs s ≡ false → is_back s ≡ false → comes_back (late ++ kept) l ≡ comes_back late l

-- a row that differs from none that is kept
abbrev pub away : List FileLine → FileLine → Bool
away kept l = not (any (clash l.items) kept)

header-clash : (l q : FileLine) → row_converts l ≡ true → row_converts q ≡ true → same_number l.items q.items ≡ true
    → clash l.items q ≡ not (same_header l.items q.items)
header-clash l q h k n = rw (n, agree-raw Pid l.items q.items h k, agree-raw Pv1 l.items q.items h k)

on-differs : (kept late : List FileLine) (l : FileLine) → any (clash l.items) (late ++ kept) ≡ true → Says kept late l Differs
on-differs kept late l a = record {
  differs = λ h. a;
  agrees = λ h. never h;
  begins = λ h. never h;
  returns = λ h. never (sym h);
  stays = λ h. never h;
}

-- ---- none that is kept has its number
pub none-back : (kept : List FileLine) (l : FileLine) → among kept l ≡ false → comes_back kept l ≡ false
unfolding comes_back
none-back [] l a = refl
none-back (q ∷ kept) l a =
    let w = any-first (λ (y : FileLine). same_number l.items y.items) q kept a in
    rw w.1 (cases (same_number q.items l.items) (λ e. rw e) (λ e. rw e))

late-back : (kept late : List FileLine) (l : FileLine) → among kept l ≡ false → comes_back (late ++ kept) l ≡ comes_back late l
unfolding comes_back
late-back kept [] l a = none-back kept l a
late-back kept (q ∷ late) l a =
    let p : FileLine → Bool = λ (y : FileLine). same_number l.items y.items in
    rw (any_append p late kept, a, or-false (any p late))

pub says-new : (kept late : List FileLine) (l : FileLine) → among kept l ≡ false → same_run (late ++ kept) l ≡ false → Says kept late l New
says-new kept late l a g = record {
  differs = λ h. never (sym h);
  agrees = λ h. new-agrees l kept a;
  begins = λ h. rw g;
  returns = λ h. never (sym h);
  stays = λ h b. late-back kept late l a;
}

-- ---- some has it, and not the row before
back-there : (seen : List FileLine) (l : FileLine) → same_run seen l ≡ false → among seen l ≡ true → comes_back seen l ≡ true
unfolding same_run comes_back
back-there [] l n a = never (sym a ∙ any-nil (λ (y : FileLine). same_number l.items y.items))
back-there (q ∷ seen) l n a =
    let e : among seen l ≡ true = rw (any-cons (λ (y : FileLine). same_number l.items y.items) q seen, ← number-sym q l, n) at a in
    rw (n, e)

on-back : (kept late : List FileLine) (l : FileLine) → same_run (late ++ kept) l ≡ false → among kept l ≡ true → any (clash l.items) kept ≡ false → Says kept late l Back
on-back kept late l g a c =
    let p : FileLine → Bool = λ (y : FileLine). same_number l.items y.items in
    let m : among (late ++ kept) l ≡ true = rw (any_append p late kept, a) (or-true (any p late)) in
    record {
      differs = λ h. never (sym h);
      agrees = λ h. c;
      begins = λ h. rw g;
      returns = λ h. back-there (late ++ kept) l g m;
      stays = λ h b. never b;
    }

module _ (kept : List FileLine) (l : FileLine) (lc : row_converts l ≡ true) (sc : all row_converts kept ≡ true) (d : differ kept ≡ false) where
  -- compared with one row of its number
  clash-one : (w : FileLine) → In w kept → same_number l.items w.items ≡ true → any (clash l.items) kept ≡ not (same_header l.items w.items)
  clash-one w i n =
      let wc = (all_first row_converts w i.right (all-parts row_converts i.left (w ∷ i.right) (rw i.is at sc)).1).0 in
      ap (any (clash l.items)) i.is ∙ one-for-all i.left i.right w l (rw i.is at d) n ∙ header-clash l w lc wc n

  pub says_back : (late : List FileLine) (w : FileLine) → In w kept → same_number l.items w.items ≡ true → same_run (late ++ kept) l ≡ false
      → Says kept late l (cond (same_header l.items w.items) Back Differs)
  says_back late w i n g =
      let c = clash-one w i n in
      let p : FileLine → Bool = λ (y : FileLine). same_number l.items y.items in
      let a : among kept l ≡ true = ap (any p) i.is ∙ in-any p w i.left i.right n in
      cases (same_header l.items w.items)
      (λ h. rw h (on-back kept late l g a (c ∙ ap not h)))
      (λ h.
      let t : any (clash l.items) (late ++ kept) ≡ true = rw (any_append (clash l.items) late kept, c, h) (or-true (any (clash l.items) late)) in
      rw h (on-differs kept late l t))

-- ---- the row before has its number
on_same : (q : FileLine) (seen : List FileLine) (l : FileLine) → same_number q.items l.items ≡ true → comes_back (q ∷ seen) l ≡ false
unfolding comes_back
on_same q seen l n = rw n

same_back : (kept late : List FileLine) (l q : FileLine) (seen : List FileLine) → late ++ kept ≡ q ∷ seen → same_number q.items l.items ≡ true
    → comes_back (late ++ kept) l ≡ comes_back late l
unfolding comes_back
same_back kept [] l q seen e n = ap (λ (s : List FileLine). comes_back s l) e ∙ on_same q seen l n
same_back kept (x ∷ late) l q seen e n =
    let o : x ≡ q = cc in
    let m : same_number x.items l.items ≡ true = rw o n in
    rw m

pub says_same : (kept late : List FileLine) (q l : FileLine) (seen : List FileLine) → late ++ kept ≡ q ∷ seen → row_converts l ≡ true → row_converts q ≡ true
    → any (clash q.items) kept ≡ false → same_number q.items l.items ≡ true
    → Says kept late l (cond (same_header l.items q.items) Same Differs)
unfolding same_run
says_same kept late q l seen e lc qc a n =
    let m = number-sym l q ∙ n in
    let c = header-clash l q lc qc m in
    cases (same_header l.items q.items)
    (λ h. rw h (record {
      differs = λ y. never (sym y);
      agrees = λ y. none_over l q kept m (c ∙ ap not h) a;
      begins = λ y. rw (e, n);
      returns = λ y. never (sym y);
      stays = λ y z. same_back kept late l q seen e n;
    }))
    (λ h.
    let t : any (clash l.items) (late ++ kept) ≡ true = rw (e, any-cons (clash l.items) q seen, c, h) in
    rw h (on-differs kept late l t))

-- ---- a row that none of those before has the number of
pub none-among : (seen : List FileLine) (l : FileLine) → ((w : FileLine) → In w seen → same_number l.items w.items ≡ true → ⊥) → among seen l ≡ false
none-among [] l h = any-nil (λ (y : FileLine). same_number l.items y.items)
none-among (q ∷ seen) l h =
    cases (same_number l.items q.items)
    (λ e. absurd (h q (in-here q seen) e))
    (λ e. rw (any-cons (λ (y : FileLine). same_number l.items y.items) q seen, e) (none-among seen l (λ w i. h w (in-there w q seen i))))
