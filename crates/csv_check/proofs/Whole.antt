-- 50 to 54 over the whole file, in order, each with the line where it is met. Assumes nothing.
use mathlib.Core.Path.{◌≡◌, refl, sym, ap, ◌∙◌}
use mathlib.Core.Bool.{Bool, true, false, not}
use mathlib.Core.List.{List, [], ◌∷◌, ◌++◌}
use Prim.Native.Nat.{ℕ, suc, ◌+◌, ◌≤◌}
use native.Mathlib.Numerals.{add-one}
use native.Mathlib.Omega.{arith}
use borrow.Author.Tests.{ne_eqb}
use lib.Dec.{eqb}
use lib.ListN.{length, take, drop, take-append-drop}
use Rattle.std.specs.Prelude.{Result, Ok, Err}
use Rattle.rules.specs.Told.{gives}
use Rattle.rules.specs.Lists.{nth, all}
use Rattle.rules.proofs.Logic.{cases}
use Rattle.csv_rules.specs.declared.FileFault.{FileFault}
use Rattle.csv_rules.specs.declared.FileFault.TheVariants.{Quoting, Columns, Unconverted, HeaderDiffers, Returns}
use Rattle.csv_rules.specs.declared.CsvSheets.{CsvSheets}
use Rattle.csv_rules.specs.Quote.{cut, is_broken, FileLine, lines_in}
use Rattle.csv_rules.specs.Count.{numeral, counts, well_counted}
use Rattle.csv_rules.specs.Sheets.{row_converts, differ, runs, returns, csv_told, first_row, csv_count}
use Rattle.csv_rules.specs.Spot.{first_not, first_after, count_line, clashes, comes_back, csv_spot}
use Rattle.csv_rules.proofs.Order.{skip, all-parts}
use Rattle.csv_repeats.specs.Rounds.{left}
use Rattle.csv_repeats.proofs.Firsts.{least_zero}
use Rattle.csv_rounds.specs.Settled.{Unsettled, Settled}
use Rattle.csv_check.specs.Looked.{LookedIs}
use Rattle.csv_check.specs.Repeats.{WalkedRows, RepeatsAre}
use Rattle.csv_check.proofs.Tells.{clash-told, back-told}
use Rattle.csv_check.specs.declared.Blame.{Blame}
use Rattle.csv_check.specs.Verdicts.{told_verdict, line_of}

-- ---- a test of all lines, by the first that it refuses
all-tells : (p : FileLine → Bool) (k : ℕ) (ls : List FileLine) → all p ls ≡ eqb (first_not p (suc k) ls) 0
unfolding all first_not
all-tells p k [] = refl
all-tells p k (l ∷ ls) = cases (p l) (λ e. rw (e, all, first_not) (all-tells p (suc k) ls)) (λ e. rw (e, all, first_not) (sym (ne_eqb (suc k) 0 (λ z. absurd (omega (arith, z))))))

count-tells : (ls : List FileLine) → well_counted ls ≡ eqb (count_line ls) 0
unfolding well_counted count_line
count-tells [] = refl
count-tells (version ∷ []) = refl
count-tells (version ∷ (heading ∷ rows)) =
    let n = nth version.items 1 in
    cases (counts n) (λ e. rw e (all-tells (λ (r : FileLine). eqb (length r.items) (numeral 0 n)) 2 rows)) (λ e. rw e)

two-lines : (ls : List FileLine) → count_line ls ≡ 0 → 2 ≤ length ls
unfolding count_line
two-lines [] h = absurd (omega arith)
two-lines (version ∷ []) h = absurd (omega arith)
two-lines (version ∷ (heading ∷ rows)) h = omega arith

-- ---- each refusal in its turn
abbrev wrong : FileFault → ℕ → Result CsvSheets Blame
wrong f k = Err (record { fault = f; line = k })

-- the line of a fault is some line
some-line : (k : ℕ) → (k ≡ 0 → ⊥) → eqb k 0 ≡ false
some-line k h = ne_eqb k 0 h

module _ {f : List ℕ} {broken : Bool} {lines miscounted unconverted first : ℕ} (L : LookedIs f broken lines miscounted unconverted first) where
  abbrev ls : List FileLine
  ls = lines_in (cut f)

  pub quoting-told : (v : Result CsvSheets Blame) → broken ≡ true → v ≡ wrong Quoting (lines + 1) → told_verdict v ≡ csv_count f
  unfolding csv_count csv_told
  quoting-told v h e = rw (e, sym L.quoting ∙ h)

  pub quoting-line : (v : Result CsvSheets Blame) → broken ≡ true → v ≡ wrong Quoting (lines + 1) → line_of v ≡ csv_spot f
  unfolding csv_spot
  quoting-line v h e = rw (e, sym L.quoting ∙ h, ← L.counts) (add-one lines)

  module _ (h : broken ≡ false) where
    quoted : is_broken (cut f) ≡ false
    quoted = sym L.quoting ∙ h

    pub columns-told : (v : Result CsvSheets Blame) → (miscounted ≡ 0 → ⊥) → v ≡ wrong Columns miscounted → told_verdict v ≡ csv_count f
    unfolding csv_count csv_told
    columns-told v k e = rw (e, quoted, count-tells ls, ← L.counted, some-line miscounted k)

    pub columns-line : (v : Result CsvSheets Blame) → (miscounted ≡ 0 → ⊥) → v ≡ wrong Columns miscounted → line_of v ≡ csv_spot f
    unfolding csv_spot
    columns-line v k e = rw (e, quoted, ← L.counted, some-line miscounted k)

    module _ (m : miscounted ≡ 0) where
      zero-count : count_line ls ≡ 0
      zero-count = sym L.counted ∙ m

      pub unconverted-told : (v : Result CsvSheets Blame) → (unconverted ≡ 0 → ⊥) → v ≡ wrong Unconverted unconverted → told_verdict v ≡ csv_count f
      unfolding csv_count csv_told
      unconverted-told v k e = rw (e, quoted, count-tells ls, zero-count, all-tells row_converts 0 ls, ← L.converted, some-line unconverted k)

      pub unconverted-line : (v : Result CsvSheets Blame) → (unconverted ≡ 0 → ⊥) → v ≡ wrong Unconverted unconverted → line_of v ≡ csv_spot f
      unfolding csv_spot
      unconverted-line v k e = rw (e, quoted, zero-count, ← L.converted, some-line unconverted k)

      -- 53 and 54, where none of these is met
      module _ (u : unconverted ≡ 0) {d₀ r₀ count unkept line : ℕ} (A : RepeatsAre f broken lines unconverted first d₀ r₀ count unkept line) where
        W : WalkedRows f first d₀ r₀ count unkept line
        W = A.rows h (rw L.counts (two-lines ls zero-count)) u

        zero-unconverted : first_not row_converts 1 ls ≡ 0
        zero-unconverted = sym L.converted ∙ u

        good-lines : all row_converts ls ≡ true
        good-lines = all-tells row_converts 0 ls ∙ ap (λ (n : ℕ). eqb n 0) zero-unconverted

        good-count : well_counted ls ≡ true
        good-count = count-tells ls ∙ ap (λ (n : ℕ). eqb n 0) zero-count

        rows-from : lines_in (cut (drop first f)) ≡ drop 2 ls
        unfolding first_row
        rows-from = rw L.rows (skip 2 f (cut f) refl).rows

        pub unsettled : Unsettled f unkept line
        unsettled = record {
          converts =
              let k : all row_converts (drop 2 ls) ≡ true = (all-parts row_converts (take 2 ls) (drop 2 ls) (rw (take-append-drop 2 ls) good-lines)).1 in
              let m : all row_converts (W.partly.kept ++ left f unkept) ≡ true = ap (all row_converts) (sym W.partly.parts ∙ rows-from) ∙ k in
              (all-parts row_converts W.partly.kept (left f unkept) m).1;
          place = λ z. (W.partly.place z).1;
          few = λ z. let q = W.partly.few z in (omega (arith, q.0), omega (arith, q.1, W.heads));
        }

        module _ {differs returned : ℕ} (Z : Settled f d₀ r₀ unkept line differs returned) where
          first-clash : first_after clashes 3 [] (drop 2 ls) ≡ differs
          first-clash = ap (first_after clashes 3 []) (sym rows-from) ∙ W.partly.clash ∙ sym Z.clash

          differs-told : differ (drop 2 ls) ≡ not (eqb differs 0)
          differs-told = clash-told (drop 2 ls) ∙ ap (λ (n : ℕ). not (eqb n 0)) first-clash

          pub header-told : (v : Result CsvSheets Blame) → (differs ≡ 0 → ⊥) → v ≡ wrong HeaderDiffers differs → told_verdict v ≡ csv_count f
          unfolding csv_count csv_told
          header-told v k e = rw (e, quoted, good-count, good-lines, differs-told, some-line differs k)

          pub header-line : (v : Result CsvSheets Blame) → (differs ≡ 0 → ⊥) → v ≡ wrong HeaderDiffers differs → line_of v ≡ csv_spot f
          unfolding csv_spot
          header-line v k e = rw (e, quoted, zero-count, zero-unconverted, first-clash, some-line differs k)

          module _ (d : differs ≡ 0) where
            none-walked : d₀ ≡ 0
            none-walked = (least_zero d₀ (first_after clashes line [] (left f unkept)) (sym Z.clash ∙ d)).0

            no-clash : differ (drop 2 ls) ≡ false
            no-clash = differs-told ∙ ap (λ (n : ℕ). not (eqb n 0)) d

            first_back : first_after comes_back 3 [] (drop 2 ls) ≡ returned
            first_back = ap (first_after comes_back 3 []) (sym rows-from) ∙ W.partly.back none-walked ∙ sym (Z.back d)

            back_is : returns (runs (drop 2 ls)) ≡ not (eqb returned 0)
            back_is = back-told (drop 2 ls) ∙ ap (λ (n : ℕ). not (eqb n 0)) first_back

            pub returns-told : (v : Result CsvSheets Blame) → (returned ≡ 0 → ⊥) → v ≡ wrong Returns returned → told_verdict v ≡ csv_count f
            unfolding csv_count csv_told
            returns-told v k e = rw (e, quoted, good-count, good-lines, no-clash, back_is, some-line returned k)

            pub returns-line : (v : Result CsvSheets Blame) → (returned ≡ 0 → ⊥) → v ≡ wrong Returns returned → line_of v ≡ csv_spot f
            unfolding csv_spot
            returns-line v k e = rw (e, quoted, zero-count, zero-unconverted, first-clash, d, first_back)

            module _ (b : returned ≡ 0) where
              pub right-told : (c : CsvSheets) → c ≡ record { count = count; first = first } → told_verdict (Ok c) ≡ csv_count f
              unfolding csv_count csv_told
              right-told c e =
                  rw (e, quoted, good-count, good-lines, no-clash, back_is, b)
                  (ap (λ (k : CsvSheets). gives k) (ap (λ (n : ℕ). sheets n first) (W.runs none-walked ∙ ap (λ (x : List FileLine). length (runs x)) rows-from) ∙ ap (sheets (length (runs (drop 2 ls)))) L.rows))
                where
                  sheets : ℕ → ℕ → CsvSheets
                  sheets n k = record { count = n; first = k }

              pub right-line : 0 ≡ csv_spot f
              unfolding csv_spot
              right-line = rw (quoted, zero-count, zero-unconverted, first-clash, d, first_back, b)
