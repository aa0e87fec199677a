-- What judging a sheet keeps from group to group, and what it tells at its end. Assumes nothing.
use mathlib.Core.Path.{◌≡◌, refl, sym, ap, ◌∙◌}
use mathlib.Core.Bool.{Bool, true, false, cond, not}
use mathlib.Core.List.{List, [], ◌++◌, append_assoc, append-nil}
use Prim.Native.Nat.{ℕ, ◌+◌, ◌*◌, ◌≤◌, ◌<◌}
use native.Mathlib.Omega.{arith}
use lib.ListN.{length, drop}
use Rattle.rules.specs.declared.Kind.TheVariants.{Key}
use Rattle.rules.specs.declared.Refusal.{Refusal}
use Rattle.rules.specs.declared.Name.{Name}
use Rattle.rules.specs.declared.Name.TheVariants.{Obr}
use Rattle.rules.specs.Told.{Told, told, gives, refused, refusal, ◌>>=◌}
use Rattle.rules.specs.Lists.{empty, filled, nth}
use Rattle.rules.specs.Frame as Frame
use Rattle.rules.specs.Frame.{is, start, may_end}
use Rattle.rules.specs.Row.{lines, Row, row_of}
use Rattle.rules.specs.Sheet.{lines_of, group_told, past_group, rows_told}
use Rattle.rules.proofs.Logic.{never, not-true, not-false, not-given, told_cases, zero_cases}
use Rattle.rules.proofs.Lists.{empty-is, empty-zero}
use Rattle.order.specs.declared.Reached.{Reached}
use Rattle.order.specs.Order.{reached_of}
use Rattle.std.specs.Prelude.{Ok, Err}
use Rattle.lines.specs.declared.LineFault.{LineFault}
use Rattle.lines.specs.declared.LineFault.TheVariants.{Key as WrongKey, Value}
use Rattle.lines.specs.Lines.{longest_sheet, Verdict}
use Rattle.groups.specs.Groups.{group_values, line_of, index_of, told_of, VerdictOn}
use Rattle.openings.specs.Openings.{Between, Next}
use Rattle.groups.proofs.Reading.{on_fine}
use Rattle.openings.proofs.Opening.{between-past, rows_on}
use Rattle.groups.proofs.Laws.{lines-few}
use Rattle.sheets.specs.Sheet.{kind_of, refusal_at, rows_in, groups_told}

-- behind the groups that gave these rows and have led to a: the lines that are left, of which the first has the number line, and what is still to be told
pub record Reading (s : List ℕ) (rows : List Row) (a : Reached) (rest : List ℕ) (line : ℕ) : Type 0 where
  pub small : length s ≤ longest_sheet
  pub within : length rest ≤ length s
  pub lines-low : line + 10 * length rest ≤ 10 * length s + 1
  pub between : Between (reached_of a)
  pub told : rows_in s ≡ (rows_told (reached_of a) 0 line (lines_of rest) >>= λ rs. gives (rows ++ rs))

-- the same, of some rows
pub record Judging (s : List ℕ) (a : Reached) (rest : List ℕ) (line : ℕ) : Type 0 where
  pub rows : List Row
  pub kept : Reading s rows a rest line

-- ---- a fault
pub line-low : (h : Name) (ts : List (List ℕ)) (f : LineFault) → VerdictOn (lines h) ts (Err f) → line_of f ≤ 10
unfolding index_of
line-low h ts f p = omega (arith, p.within, lines-few h)

wrong-told : (f : LineFault) (line : ℕ) (vs : List (List ℕ)) → told_of (Err f) line vs ≡ refusal (refusal_at (kind_of f) (line + line_of f))
wrong-told (WrongKey k) line vs = refl
wrong-told (Value k) line vs = refl

-- ---- rows before rows
bind-none : (x : Told (List Row)) → x ≡ (x >>= λ rs. gives ([] ++ rs))
bind-none (gives a) = refl
bind-none (refused n s f) = refl

bind-twice : (x : Told (List Row)) (p q : List Row) → ((x >>= λ rs. gives (p ++ rs)) >>= λ rs. gives (q ++ rs)) ≡ (x >>= λ rs. gives ((q ++ p) ++ rs))
bind-twice (gives a) p q = ap gives (sym (append_assoc q p a))
bind-twice (refused n s f) p q = refl

-- ---- the start
pub reads : (s : List ℕ) (a : Reached) → length s ≤ longest_sheet → reached_of a ≡ start → Reading s [] a s 1
reads s a h e = record {
  small = h;
  within = omega arith;
  lines-low = omega arith;
  between = ap (λ (x : Frame.Reached). is x.last Obr) e;
  told = rw e (bind-none (rows_in s));
}

pub begins : (s : List ℕ) (a : Reached) → length s ≤ longest_sheet → reached_of a ≡ start → Judging s a s 1
begins s a h e = record { rows = []; kept = reads s a h e }

module _ {s : List ℕ} {rows : List Row} {a : Reached} {rest : List ℕ} {line : ℕ} (inv : Reading s rows a rest line) where
  abbrev ts : List (List ℕ)
  ts = lines_of rest

  pub rest-low : length rest ≤ longest_sheet
  rest-low = omega (arith, inv.small, inv.within)

  -- ---- a line more, and the group that it begins
  module _ {q : Bool} (there : q ≡ filled ts) (yes : q ≡ true) {h : Name} (next : Next (reached_of a) (nth ts 0) h) where
    some : 0 < length ts
    some = zero_cases (length ts) (λ z. never (sym yes ∙ there ∙ ap not (empty-zero ts z))) (λ k e. omega arith)

    -- what is left behind it is shorter
    pub nearer : {n m : ℕ} → (n ≡ length (lines h)) × (n ≤ 10) → (filled ts ≡ true → 0 < n → m < length rest) → m < length rest
    nearer count less = less (sym there ∙ yes) (omega (arith, next.lined, count.0))

    -- ---- the verdict on its lines
    abbrev after : Told (List Row)
    after = rows_told (past_group (reached_of a) h) 0 (line + length (lines h)) (drop (length (lines h)) ts)

    abbrev behind : List (List ℕ) → Told (List Row)
    behind vs = (after >>= λ rs. gives (row_of h vs ++ rs)) >>= λ rs. gives (rows ++ rs)

    told-on : rows_in s ≡ (group_told (lines h) [] line ts >>= behind)
    told-on =
        inv.told ∙ ap (λ (x : Told (List Row)). x >>= λ rs. gives (rows ++ rs)) (rows_on (reached_of a) h line ts some next)
        ∙ told_cases (group_told (lines h) [] line ts) (λ vs e. rw e) (λ m x f e. rw e)

    module _ {v : Verdict} (says : VerdictOn (lines h) ts v) where
      told-by : rows_in s ≡ (told_of v line (group_values h ts) >>= behind)
      told-by = told-on ∙ ap (λ (x : Told (List (List ℕ))). x >>= behind) (sym (says.told line))

    -- ---- its lines are wrong
    pub unread-told : {f : LineFault} → VerdictOn (lines h) ts (Err f) → {r : Refusal} → r ≡ refusal_at (kind_of f) (line + line_of f) → rows_in s ≡ refusal r
    unread-told {f} says {r} t = told-by says ∙ ap (λ (x : Told (List (List ℕ))). x >>= behind) (wrong-told f line (group_values h ts)) ∙ ap refusal (sym t)

    -- ---- its lines are right: rs is what is left behind it
    pub read-on : VerdictOn (lines h) ts (Ok tt) → {n : ℕ} → (n ≡ length (lines h)) × (n ≤ 10) → {b : Reached} → reached_of b ≡ past_group (reached_of a) h
        → {rs : List ℕ} → lines_of rs ≡ drop n ts → length rs < length rest
        → Reading s (rows ++ row_of h (group_values h ts)) b rs (line + n)
    read-on says {n} count {b} g {rs} on less = record {
      small = inv.small;
      within = omega (arith, inv.within);
      lines-low = omega (arith, inv.lines-low, count.1);
      between = ap (λ (x : Frame.Reached). is x.last Obr) g ∙ between-past (reached_of a) h;
      told = told-by says ∙ bind-twice after (row_of h (group_values h ts)) rows ∙ rw (g, on, count.0);
    }

    -- ---- a sheet that is known to be right has only right lines
    pub known-fine : {all : List Row} → rows_in s ≡ gives all → VerdictOn (lines h) ts (Ok tt)
    known-fine {all} k =
        told_cases (group_told (lines h) [] line ts)
        (λ vs e. on_fine (lines h) ts vs line e)
        (λ n x f e. not-given (sym (rw e at told-on) ∙ k))

  -- ---- no line more
  module _ {q : Bool} (there : q ≡ filled ts) (last : q ≡ false) where
    over-all : ts ≡ []
    over-all = empty-is ts (not-false (empty ts) (sym there ∙ last))

    told-last : rows_in s ≡ (cond (may_end (reached_of a)) (gives []) (refused 42 line 0) >>= λ rs. gives (rows ++ rs))
    unfolding rows_told
    told-last = inv.told ∙ ap (λ (l : List (List ℕ)). rows_told (reached_of a) 0 line l >>= λ rs. gives (rows ++ rs)) over-all

    module _ {p : Bool} (e : p ≡ may_end (reached_of a)) where
      pub ends-early : {r : Refusal} → not p ≡ true → r ≡ refusal_at Key line → rows_in s ≡ refusal r
      ends-early {r} h f = rw (← e, not-true p h) at told-last ∙ ap refusal (sym f)

      pub ends-well : not p ≡ false → rows_in s ≡ gives rows
      ends-well h = rw (← e, not-false p h) at told-last ∙ rw (append-nil rows)

-- ---- what is told of the groups
pub groups-wrong : (s : List ℕ) (r : Refusal) → rows_in s ≡ refusal r → told {A = Unit {0}} (Err r) ≡ groups_told s
unfolding groups_told
groups-wrong s r e = rw e

pub groups-right : (s : List ℕ) {rows : List Row} → rows_in s ≡ gives rows → told (Ok tt) ≡ groups_told s
unfolding groups_told
groups-right s e = rw e
