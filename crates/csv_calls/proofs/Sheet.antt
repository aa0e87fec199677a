-- One sheet of a file: made, judged and handed over; the one that begins at a place; the which-th. Assumes nothing.
use mathlib.Core.Path.{◌≡◌, refl, sym, ap, ◌∙◌}
use mathlib.Core.Bool.{Bool, true, false, not, ◌||◌}
use mathlib.Core.List.{List, [], ◌∷◌}
use mathlib.Core.Option.{Option as Maybe, none, some}
use Prim.Native.Nat.{ℕ, zero, suc, ◌+◌, ◌-◌, ◌≤◌, ◌<◌}
use native.Mathlib.Omega.{arith}
use borrow.Author.Tests.{lt-ltb, le-ltb, ltb-true, ltb-false, eqb-true, eqb-false}
use lib.Dec.{eqb, ltb}
use lib.ListN.{length, take, drop, get_elem?, drop_of_length-le}
use lib.Seq.{length-take-le}
use Rattle.std.specs.Prelude.{Result, Ok, Err, Option, None, Some, MatchOption, IsSome}
use Rattle.rules.specs.declared.Kind.TheVariants.{NoOrdinal, Room}
use Rattle.rules.specs.declared.Refusal.{Refusal}
use Rattle.rules.specs.Told.{Told, gives, refused, refusal}
use Rattle.rules.specs.Lists.{all}
use Rattle.rules.specs.Fetch.{ordinal}
use Rattle.rules.specs.Sheet.{sheet_of, read_sheet}
use Rattle.rules.proofs.Logic.{cases, neither, told_cases, not-given, not-true, not-false}
use Rattle.writer.specs.Over.{Wrote}
use Rattle.writer.specs.Over as Over
use Rattle.sheets.specs.Sheet.{judged_told}
use Rattle.csv_rules.specs.declared.FileFault.{FileFault}
use Rattle.csv_rules.specs.declared.FileFault.TheVariants.{Quoting, Unconverted, HeaderDiffers}
use Rattle.csv_rules.specs.declared.CsvSheets.{CsvSheets}
use Rattle.csv_rules.specs.declared.NotMade.{NotMade}
use Rattle.csv_rules.specs.declared.NotMade.TheVariants.{Unfit, Faulty}
use Rattle.csv_rules.specs.declared.Next.{Next}
use Rattle.csv_rules.specs.Quote.{cut, lines_at, lines_in, is_broken}
use Rattle.csv_rules.specs.Sheets.{Run, run_lines, row_converts, differ, runs, Given, sheet_rows, run_told, csv_told, csv_count, csv_sheet, first_row, first_told, runs_from, csv_next, behind_run, place_after}
use Rattle.csv_rules.specs.Answers.{told_fault, SheetCall, NextCall}
use Rattle.csv_rules.specs.Claims.{place_of}
use Rattle.csv_rules.proofs.Order.{sheet-by-place}
use Rattle.reach.specs.Reach.{Adds}
use Rattle.reach.proofs.Laws.{front_cut, front-is}
use Rattle.csv_runs.specs.Runs.{Broken, RunIs}
use Rattle.csv_runs.specs.Sheet.{sheet_at, PutIs}
use Rattle.csv_calls.specs.Calls.{Convertible, copied_told, made_told}

-- ---- an answer that refuses leaves the buffer
pub told-as : {t u : Told (List ℕ)} {x : List ℕ} {r : Result ℕ NotMade} {y : List ℕ} → t ≡ u → SheetCall u x r y → SheetCall t x r y
told-as e p = rw e p

unfit : (x : List ℕ) (k : Refusal) → SheetCall (refusal k) x (Err (Unfit k)) x
unfit x k = record { told = refl; buffer = refl; within = λ n e. let z : ◌≡◌ {A = ℕ} 0 1 = cc in absurd (omega arith) }

faulty : (x : List ℕ) (f : FileFault) → SheetCall (told_fault f) x (Err (Faulty f)) x
faulty x f = record { told = refl; buffer = refl; within = λ n e. let z : ◌≡◌ {A = ℕ} 0 1 = cc in absurd (omega arith) }

-- ---- 45, or the sheet
module _ (s x : List ℕ) where
  pub copied-45 : (r : Result ℕ NotMade) → length x < length s → r ≡ Err (Unfit (record { kind = Room; segment = 0; field = 0 })) → SheetCall (copied_told s (length x)) x r x
  unfolding copied_told
  copied-45 r h e = rw (e, lt-ltb (length x) (length s) h) (unfit x (record { kind = Room; segment = 0; field = 0 }))

  pub copied_all : (r : ℕ) (y : List ℕ) → length s ≤ length x → Wrote r y s x → SheetCall (copied_told s (length x)) x (Ok r) y
  unfolding copied_told Over.over_front
  copied_all r y h w = rw (le-ltb (length x) (length s) h) (record { told = ap gives w.ends; buffer = w.is; within = λ n e. let z : n ≡ r = cc in omega (arith, w.ends) })

  -- 40 to 43 before that, by what judging tells
  pub handed-not : (k : Refusal) → refusal k ≡ judged_told s → SheetCall (made_told s (length x)) x (Err (Unfit k)) x
  unfolding made_told judged_told
  handed-not k t =
      told_cases (read_sheet s) (λ rows e. not-given (rw e at t)) (λ n a b e. told-as (rw e (same n a b (rw e at t))) (unfit x k))
    where
      same : (n a b : ℕ) → ◌≡◌ {A = Told (Unit {0})} (refusal k) (refused n a b) → ◌≡◌ {A = Told (List ℕ)} (refused n a b) (refusal k)
      same n a b h = cc

  pub handed-all : (u : Unit {0}) (r : Result ℕ NotMade) (y : List ℕ) → gives u ≡ judged_told s → SheetCall (copied_told s (length x)) x r y → SheetCall (made_told s (length x)) x r y
  unfolding made_told judged_told
  handed-all u r y t c = told_cases (read_sheet s) (λ rows e. told-as (rw e) c) (λ n a b e. not-given (sym (rw e at t)))

-- a sheet that is cut one byte past its limit is too long, and so is the whole
short-40 : (s : List ℕ) (room : ℕ) → 65536 < length s → made_told s room ≡ refused 40 0 0
unfolding made_told read_sheet
short-40 s room h = rw (lt-ltb 65536 (length s) h)

-- the sheet w that was made is in the buffer, or is too long there and by itself
made_as : (w x y : List ℕ) (n room : ℕ) → Adds 0 x w n y → length x ≡ 65537 → made_told w room ≡ made_told (take n y) room
made_as w x y n room A e =
    cases (ltb 65537 (length w))
    (λ h.
    let l = ltb-true 65537 (length w) h in
    let z : length (take n y) ≡ n = length-take-le n y A.inside in
    let k : n ≡ 65537 =
    cases (ltb n 65537)
    (λ t. absurd (omega (arith, front_cut A (omega (arith, ltb-true n 65537 t, e)), ltb-true n 65537 t)))
    (λ t. omega (arith, ltb-false n 65537 t, A.inside, A.same, e)) in
    short-40 w room (omega arith) ∙ sym (short-40 (take n y) room (omega arith)))
    (λ h. ap (λ (s : List ℕ). made_told s room) (sym (front-is A (omega (arith, ltb-false 65537 (length w) h, e)))))

-- the part of the buffer that is written
pub part-long : (f : List ℕ) (at : ℕ) (g : Given) (x : List ℕ) (size end : ℕ) (good differs : Bool) (y : List ℕ) → PutIs f at g x size end good differs y → end ≡ length (take end y)
part-long f at g x size end good differs y P = sym (length-take-le end y P.inside)

-- a run whose rows convert is found to be so
module _ (f : List ℕ) (at : ℕ) (C : Convertible f at) where
  pub found-some : {A : Type 0} (o : Option A) (P : Type 0) (Q : A → Type 0) → MatchOption o (Broken f at × P) Q → IsSome o
  found-some None P Q z = absurd (omega (arith, ap length (sym z.0.none ∙ C.begins)))
  found-some (Some x) P Q z = refl

  found-good : {size : ℕ} {good differs : Bool} → RunIs f at size good differs → good ≡ true
  found-good R =
      let F = R.found in
      let e : F.run ∷ F.others ≡ C.run ∷ C.others = sym F.begins ∙ C.begins in
      let u : F.run ≡ C.run = cc in
      F.converts ∙ ap (λ (v : Run). all row_converts (run_lines v)) u ∙ C.good

pub made_told_lem : (f : List ℕ) (at : ℕ) → Convertible f at → (g : Given) (x : List ℕ) (size end : ℕ) (good differs : Bool) (y : List ℕ) → PutIs f at g x size end good differs y
    → length x ≡ 65537 → (old after : List ℕ) (r : Result ℕ NotMade) → SheetCall (made_told (take end y) (length old)) old r after → SheetCall (made_told (sheet_at f at g) (length old)) old r after
made_told_lem f at C g x size end good differs y P e old after r c =
    told-as (made_as (sheet_at f at g) x y end (length old) (P.sheet (found-good f at C P.run)) e) c

-- a sheet that ends before the buffer does is whole
small-told : (w x y old after : List ℕ) (n : ℕ) (r : Result ℕ NotMade) → Adds 0 x w n y → n < length y → SheetCall (made_told (take n y) (length old)) old r after → SheetCall (made_told w (length old)) old r after
small-told w x y old after n r A h c =
    let l : length w ≡ n = front_cut A (omega (arith, A.same)) in
    told-as (ap (λ (s : List ℕ). made_told s (length old)) (sym (front-is A (omega (arith, A.inside, A.same))))) c

-- ---- the place behind what begins at a place
module _ (f : List ℕ) (at : ℕ) where
  none-there : length f ≤ at → (runs_from f at ≡ []) × (is_broken (cut (drop at f)) ≡ false)
  unfolding runs_from cut lines_at lines_in is_broken runs
  none-there h = let e = drop_of_length-le f {i = at} h in (rw e, rw e)

  pub behind-none : length f ≤ at → length f ≡ place_after f at
  unfolding place_after behind_run
  behind-none h = rw (none-there h).0

  pub behind-broken : Broken f at → length f ≡ place_after f at
  unfolding place_after behind_run
  behind-broken B = rw B.none

  pub behind-run : {size : ℕ} {good differs : Bool} → RunIs f at size good differs → at + size ≡ place_after f at
  unfolding place_after behind_run
  behind-run R = let F = R.found in sym (ap (behind_run (length f) at) F.begins ∙ ap (λ (n : ℕ). at + n) (sym F.bytes))

  pub convertible : {size : ℕ} {good differs : Bool} → RunIs f at size good differs → not good ≡ false → Convertible f at
  convertible {good = good} R h =
      let F = R.found in
      record { run = F.run; others = F.others; begins = F.begins; good = sym F.converts ∙ not-false good h }

-- ---- what begins at a place
module _ (f : List ℕ) (at : ℕ) (g : Given) (x : List ℕ) where
  module _ (u : Run) (us : List Run) (e : runs_from f at ≡ u ∷ us) where
    found-52 : all row_converts (run_lines u) ≡ false → csv_next f at g (length x) ≡ refused 52 0 0
    unfolding csv_next first_told
    found-52 c = rw (e, c)

    module _ (c : all row_converts (run_lines u) ≡ true) where
      found-53 : differ (run_lines u) ≡ true → csv_next f at g (length x) ≡ refused 53 0 0
      unfolding csv_next first_told
      found-53 d = rw (e, c, d)

      found-made : differ (run_lines u) ≡ false → csv_next f at g (length x) ≡ made_told (sheet_at f at g) (length x)
      unfolding csv_next first_told run_told made_told copied_told sheet_at
      found-made d = rw (e, c, d) (ap (λ (us : List Run). made_told (first_sheet us) (length x)) (sym e))
        where
          first_sheet : List Run → List ℕ
          first_sheet [] = []
          first_sheet (v ∷ vs) = sheet_of (sheet_rows g v)

  pub next-none : length f ≤ at → (r : Result ℕ NotMade) → r ≡ Err (Unfit (record { kind = NoOrdinal; segment = 0; field = 0 })) → NextCall (csv_next f at g (length x)) (place_after f at) x (record { made = r; place = length f }) x
  unfolding csv_next first_told
  next-none h r e =
      let q = none-there f at h in
      record {
        call = rw (e, q.0, q.1) (unfit x (record { kind = NoOrdinal; segment = 0; field = 0 }));
        place = behind-none f at h;
      }

  pub next-broken : Broken f at → NextCall (csv_next f at g (length x)) (place_after f at) x (record { made = Err (Faulty Quoting); place = length f }) x
  unfolding csv_next first_told
  next-broken B = record { call = rw (B.none, B.broken) (faulty x Quoting); place = behind-broken f at B }

  module _ {size : ℕ} {good differs : Bool} (R : RunIs f at size good differs) where
    pub next-52 : not good ≡ true → NextCall (csv_next f at g (length x)) (place_after f at) x (record { made = Err (Faulty Unconverted); place = at + size }) x
    next-52 h =
        let F = R.found in
        record { call = told-as (found-52 F.run F.others F.begins (sym F.converts ∙ not-true good h)) (faulty x Unconverted); place = behind-run f at R }

    module _ (h : not good ≡ false) where
      pub next-53 : differs ≡ true → NextCall (csv_next f at g (length x)) (place_after f at) x (record { made = Err (Faulty HeaderDiffers); place = at + size }) x
      next-53 d =
          let F = R.found in
          let k = not-false good h in
          record { call = told-as (found-53 F.run F.others F.begins (sym F.converts ∙ k) (sym (F.header k) ∙ d)) (faulty x HeaderDiffers); place = behind-run f at R }

      pub next-made : differs ≡ false → (r : Result ℕ NotMade) (y : List ℕ) → SheetCall (made_told (sheet_at f at g) (length x)) x r y
          → NextCall (csv_next f at g (length x)) (place_after f at) x (record { made = r; place = at + size }) y
      next-made d r y c =
          let F = R.found in
          let k = not-false good h in
          record { call = told-as (found-made F.run F.others F.begins (sym F.converts ∙ k) (sym (F.header k) ∙ d)) c; place = behind-run f at R }

  pub next_small : (w y : List ℕ) (size end : ℕ) (good differs : Bool) → PutIs f at g w size end good differs y → not good ≡ false → differs ≡ false
      → end < length y → (r : Result ℕ NotMade) (z : List ℕ) → SheetCall (made_told (take end y) (length x)) x r z
      → NextCall (csv_next f at g (length x)) (place_after f at) x (record { made = r; place = at + size }) z
  next_small w y size end good differs P h d l r z c =
      next-made P.run h d r z (small-told (sheet_at f at g) w y x z end r (P.sheet (not-false good h)) l c)

-- ---- the place behind some sheets
placed : (f : List ℕ) (at m : ℕ) → 0 < m → place_of f at m ≡ place_of f (place_after f at) (m - 1)
unfolding place_of
placed f at zero h = absurd (omega arith)
placed f at (suc m) h = let z : suc m - 1 ≡ m = omega arith in ap (place_of f (place_after f at)) (sym z)

module _ (f : List ℕ) (first n at past : ℕ) (e : place_of f first n ≡ place_of f at (n - past)) where
  pub place-on : (r : ℕ) → past < n → r ≡ place_after f at → place_of f first n ≡ place_of f r (n - (past + 1))
  place-on r h k =
      let z : (n - past) - 1 ≡ n - (past + 1) = omega arith in
      e ∙ placed f at (n - past) (omega arith) ∙ ap (λ (i : ℕ). place_of f i ((n - past) - 1)) (sym k) ∙ ap (place_of f r) z

  pub place-ends : n ≤ past → at ≡ place_of f first n
  unfolding place_of
  place-ends h = let z : n - past ≡ 0 = omega arith in sym (e ∙ ap (place_of f at) z)

-- ---- the which-th sheet
pub sheet-faulty : (f : List ℕ) (which : ℕ) (g : Given) (x : List ℕ) (k : FileFault) → told_fault k ≡ csv_count f → SheetCall (csv_sheet f which g (length x)) x (Err (Faulty k)) x
unfolding csv_count csv_sheet
sheet-faulty f which g x k h =
    told_cases (csv_told f)
    (λ us q. not-given (rw q at h))
    (λ n i j q. told-as (rw q (same n i j (rw q at h))) (faulty x k))
  where
    same : (n i j : ℕ) → ◌≡◌ {A = Told CsvSheets} (told_fault k) (refused n i j) → ◌≡◌ {A = Told (List ℕ)} (refused n i j) (told_fault k)
    same n i j h = cc

none_first : (f : List ℕ) (c : CsvSheets) (which : ℕ) (g : Given) (x : List ℕ) (r : Result ℕ NotMade) → csv_count f ≡ gives c → which ≡ 0 → r ≡ Err (Unfit (record { kind = NoOrdinal; segment = 0; field = 0 }))
    → SheetCall (csv_sheet f which g (length x)) x r x
unfolding csv_count csv_sheet ordinal
none_first f c which g x r h z e =
    told_cases (csv_told f) (λ us k. rw (z, k, e) (unfit x (record { kind = NoOrdinal; segment = 0; field = 0 }))) (λ n a b k. not-given (rw k at h))

given-not : {P : Type 0} (f : List ℕ) {c : CsvSheets} {m a b : ℕ} → csv_count f ≡ gives c → csv_told f ≡ refused m a b → P
unfolding csv_count
given-not f h k = not-given (rw k at h)

no_such : (us : List Run) (n : ℕ) → length us ≤ n → get_elem? us n ≡ none
no_such [] n h = refl
no_such (u ∷ us) zero h = absurd (omega arith)
no_such (u ∷ us) (suc n) h = no_such us n (omega arith)

counts-runs : (f : List ℕ) (c : CsvSheets) (us : List Run) → csv_count f ≡ gives c → csv_told f ≡ gives us → (c.count ≡ length us) × (c.first ≡ first_row f)
unfolding csv_count
counts-runs f c us h k = let e : gives (record { count = length us; first = first_row f }) ≡ gives c = rw k at h in (cc, cc)

ordinal-none : (us : List Run) (n : ℕ) → length us ≤ n → ordinal us (suc n) ≡ refused 30 0 0
unfolding ordinal
ordinal-none us n h = ap (λ (o : Maybe Run). found o) (no_such us n h)
  where
    found : Maybe Run → Told Run
    found none = refused 30 0 0
    found (some u) = gives u

none-such : (f : List ℕ) (c : CsvSheets) (which : ℕ) (g : Given) (x : List ℕ) (r : Result ℕ NotMade) → csv_count f ≡ gives c → c.count < which → r ≡ Err (Unfit (record { kind = NoOrdinal; segment = 0; field = 0 }))
    → SheetCall (csv_sheet f which g (length x)) x r x
unfolding csv_sheet
none-such f c zero g x r h l e = absurd (omega arith)
none-such f c (suc n) g x r h l e =
    told_cases (csv_told f)
    (λ us k. let q = counts-runs f c us h k in rw (k, ordinal-none us n (omega (arith, q.0)), e) (unfit x (record { kind = NoOrdinal; segment = 0; field = 0 })))
    (λ m a b k. given-not f h k)

there : (f : List ℕ) (c : CsvSheets) (which at n : ℕ) (g : Given) (x y : List ℕ) (r : Next) → csv_count f ≡ gives c → (which ≡ 0 → ⊥) → n ≡ which - 1 → at ≡ place_of f c.first n
    → NextCall (csv_next f at g (length x)) (place_after f at) x r y → SheetCall (csv_sheet f which g (length x)) x r.made y
there f c zero at n g x y r h z e p q = absurd (z refl)
there f c (suc k) at n g x y r h z e p q =
    told_cases (csv_told f)
    (λ us t.
    let w = counts-runs f c us h t in
    let m : n ≡ k = omega arith in
    let a : at ≡ place_of f (first_row f) k = p ∙ ap (λ (i : ℕ). place_of f i n) w.1 ∙ ap (place_of f (first_row f)) m in
    told-as (sheet-by-place f us t k g (length x) ∙ ap (λ (i : ℕ). csv_next f i g (length x)) (sym a)) q.call)
    (λ m a b t. given-not f h t)

-- the file has sheets c, and which is 0 or more than there are, or is neither
module _ (f : List ℕ) (c : CsvSheets) (h : gives c ≡ csv_count f) (which : ℕ) (g : Given) (x : List ℕ) where
  pub sheet-none : (eqb which 0 || ltb c.count which) ≡ true → (r : Result ℕ NotMade) → r ≡ Err (Unfit (record { kind = NoOrdinal; segment = 0; field = 0 }))
      → SheetCall (csv_sheet f which g (length x)) x r x
  sheet-none k r e =
      cases (eqb which 0)
      (λ z. none_first f c which g x r (sym h) (eqb-true which 0 z) e)
      (λ z. none-such f c which g x r (sym h) (ltb-true c.count which (rw z at k)) e)

  pub sheet-there : (eqb which 0 || ltb c.count which) ≡ false → (at : ℕ) (y : List ℕ) (r : Next) → at ≡ place_of f c.first (which - 1)
      → NextCall (csv_next f at g (length x)) (place_after f at) x r y → SheetCall (csv_sheet f which g (length x)) x r.made y
  sheet-there k at y r p q =
      there f c which at (which - 1) g x y r (sym h) (eqb-false which 0 (neither (eqb which 0) (ltb c.count which) k).0) refl p q
