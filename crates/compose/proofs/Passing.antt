-- What a pass over a sheet keeps from group to group, and what it tells at its end. Assumes nothing.
use mathlib.Core.Path.{◌≡◌, refl, sym, ap, ◌∙◌}
use mathlib.Core.Bool.{Bool, true, false, not}
use mathlib.Core.List.{List, [], ◌++◌}
use Prim.Native.Nat.{ℕ, ◌+◌, ◌*◌, ◌≤◌, ◌<◌}
use native.Mathlib.Omega.{arith}
use lib.ListN.{length, drop, length-append}
use Rattle.rules.specs.declared.Delims.{Delims}
use Rattle.rules.specs.declared.Kind.TheVariants.{Key}
use Rattle.rules.specs.declared.Refusal.{Refusal}
use Rattle.rules.specs.declared.Name.{Name}
use Rattle.rules.specs.declared.Name.TheVariants.{Obr}
use Rattle.rules.specs.Told.{gives, refusal, ◌when◌}
use Rattle.rules.specs.Lists.{filled, nth}
use Rattle.rules.specs.Frame.{is, start, may_end}
use Rattle.rules.specs.Proper.{Proper}
use Rattle.rules.specs.Row.{lines, Row, row_of}
use Rattle.rules.specs.Sheet.{lines_of, past_group}
use Rattle.rules.specs.Message.{zeros, counted, written, message_of}
use Rattle.order.specs.declared.Reached.{Reached}
use Rattle.order.specs.Order.{reached_of}
use Rattle.writer.specs.Over.{over_front, Wrote, Put}
use Rattle.writer.proofs.Laws.{then}
use Rattle.std.specs.Prelude.{Ok, Err}
use Rattle.lines.specs.declared.LineFault.{LineFault}
use Rattle.lines.specs.Lines.{longest_sheet}
use Rattle.groups.specs.Groups.{group_values, line_of, VerdictOn}
use Rattle.openings.specs.Openings.{Next}
use Rattle.sheets.specs.Sheet.{kind_of, refusal_at, rows_in}
use Rattle.sheets.proofs.Judging as Judging
use Rattle.sheets.proofs.Judging.{Reading}
use Rattle.numbered.specs.declared.Numbers.{Numbers}
use Rattle.numbered.specs.Numbered.{numbers_of}
use Rattle.compose.specs.Compose.{group_text, FitAt, longest_group, FaultFree, Pass}
use Rattle.compose.proofs.Messages.{numbers_in, message-more, segments-more, numbers_more, message-none, segments-none}

-- behind the groups that have led to a: what is read and still to be told, as in judging; what is written and counted
pub record Passing (d : Delims) (s : List ℕ) (known : Bool) (out₀ : List ℕ) (a : Reached) (rest : List ℕ) (line bytes segments : ℕ) (numbers : Numbers) (out : List ℕ) : Type 0 where
  pub rows : List Row
  pub read : Reading s rows a rest line
  pub right : known ≡ true → FaultFree s
  pub proper : Proper d
  pub bytes-few : bytes + longest_group * length rest ≤ longest_group * length s
  pub segments-few : segments + 2 * length rest ≤ 2 * length s
  pub specimens-few : numbers.specimen + length rest ≤ length s
  pub results-few : numbers.result + length rest ≤ length s
  pub bytes-are : bytes ≡ length (message_of d rows)
  pub segments-are : segments ≡ length (written d rows)
  pub numbers-are : numbers_of numbers ≡ numbers_in zeros rows
  pub same : length out ≡ length out₀
  pub wrote : length (message_of d rows) ≤ length out₀ → out ≡ over_front (message_of d rows) out₀

-- ---- a refusal
refuses : (d : Delims) (s x y : List ℕ) (r : Refusal) → rows_in s ≡ refusal r → Pass d s x (Err r) y
refuses d s x y r e = record { told = rw e; wrote = λ rows g m. cc }

pub begins : (d : Delims) (s : List ℕ) (known : Bool) (out : List ℕ) (a : Reached) → (length s ≤ longest_sheet) × (known ≡ true → FaultFree s) × Proper d → reached_of a ≡ start
    → Passing d s known out a s 1 0 0 (record { specimen = 0; result = 0 }) out
unfolding numbers_in over_front
begins d s known out a h e = record {
  rows = [];
  read = Judging.reads s a h.0 e;
  right = h.1;
  proper = h.2;
  bytes-few = omega arith;
  segments-few = omega arith;
  specimens-few = omega arith;
  results-few = omega arith;
  bytes-are = sym (ap length (message-none d));
  segments-are = sym (segments-none d);
  numbers-are = refl;
  same = refl;
  wrote = λ room. rw (message-none d) refl;
}

module _ {d : Delims} {s : List ℕ} {known : Bool} {out₀ : List ℕ} {a : Reached} {rest : List ℕ} {line bytes segments : ℕ} {numbers : Numbers} {out : List ℕ}
    (inv : Passing d s known out₀ a rest line bytes segments numbers out) where
  abbrev ts : List (List ℕ)
  ts = lines_of rest

  -- ---- a line more, and the group that it begins
  module _ {q : Bool} (there : q ≡ filled ts) (yes : q ≡ true) {h : Name} (next : Next (reached_of a) (nth ts 0) h) where
    -- ---- its lines are wrong
    pub unread-told : {f : LineFault} → VerdictOn (lines h) ts (Err f) → {r : Refusal} → r ≡ refusal_at (kind_of f) (line + line_of f) → {y : List ℕ} → Pass d s out₀ (Err r) y
    unread-told says {r} t {y} = refuses d s out₀ y r (Judging.unread-told inv.read there yes next says t)

    -- ---- its lines are right: b, m, r and y are where it leads, its numbers, the end of its text and the buffer then; rs is what is left behind it
    module _ (says : VerdictOn (lines h) ts (Ok tt)) {n : ℕ} (count : (n ≡ length (lines h)) × (n ≤ 10)) {m : Numbers} (ms : (numbers_of m ≡ counted (numbers_of numbers) h) × ((m.specimen ≤ numbers.specimen + 1) × (m.result ≤ numbers.result + 1))) where
      abbrev done : List Row
      done = inv.rows

      abbrev text : List ℕ
      text = group_text d (numbers_of m) h ts

      counts : numbers_of m ≡ counted (numbers_in zeros done) h
      counts = ms.0 ∙ rw inv.numbers-are

      pub goes : {b : Reached} → reached_of b ≡ past_group (reached_of a) h
          → {r u : ℕ} {y : List ℕ} → FitAt bytes out text r y × (r ≤ bytes + longest_group) → (u ≡ (1 when is h Obr)) × (u ≤ 1)
          → {rs : List ℕ} → lines_of rs ≡ drop n ts → length rs < length rest
          → Passing d s known out₀ b rs (line + n) r (segments + (1 + u)) m y
      goes {b} g {r} {u} {y} w us {rs} on less =
          let grown : message_of d (done ++ row_of h (group_values h ts)) ≡ message_of d done ++ text = message-more d done (numbers_of m) h ts counts in
          let ends : r ≡ length (message_of d (done ++ row_of h (group_values h ts)))
          = w.0.ends ∙ ap (λ (k : ℕ). k + length text) inv.bytes-are ∙ sym (ap length grown ∙ length-append (message_of d done) text) in
          record {
            rows = done ++ row_of h (group_values h ts);
            read = Judging.read-on inv.read there yes next says count g on less;
            right = inv.right;
            proper = inv.proper;
            bytes-few = omega (arith, inv.bytes-few, w.1);
            segments-few = omega (arith, inv.segments-few, us.1);
            specimens-few = omega (arith, inv.specimens-few, ms.1.0);
            results-few = omega (arith, inv.results-few, ms.1.1);
            bytes-are = ends;
            segments-are = ap (λ (k : ℕ). k + (1 + u)) inv.segments-are ∙ ap (λ (k : ℕ). length (written d done) + (1 + k)) us.0 ∙ sym (segments-more d done (numbers_of m) h ts counts next.lined);
            numbers-are = numbers_more d done (numbers_of m) h ts counts;
            same = w.0.same ∙ inv.same;
            wrote = λ room.
                let old : Wrote bytes out (message_of d done) out₀ = record { ends = inv.bytes-are; is = inv.wrote (omega (arith, ap length grown, length-append (message_of d done) text)) } in
                let put : Put bytes out text r y = record { ends = w.0.ends; is = w.0.is (omega (arith, inv.same)) } in
                rw grown (then old put).is;
          }

    -- ---- a sheet that is known to be right has only right lines
    pub known-fine : known ≡ true → VerdictOn (lines h) ts (Ok tt)
    known-fine k = Judging.known-fine inv.read there yes next (inv.right k).told

  -- ---- no line more
  module _ {q : Bool} (there : q ≡ filled ts) (last : q ≡ false) {p : Bool} (e : p ≡ may_end (reached_of a)) where
    pub ends-refused : {r : Refusal} → not p ≡ true → r ≡ refusal_at Key line → Pass d s out₀ (Err r) out
    ends-refused {r} h f = refuses d s out₀ out r (Judging.ends-early inv.read there last e h f)

    pub ends-all : not p ≡ false → Pass d s out₀ (Ok (record { bytes = bytes; segments = segments })) out
    ends-all h =
        let w : rows_in s ≡ gives inv.rows = Judging.ends-well inv.read there last e h in
        record {
          told = rw (w, inv.bytes-are, inv.segments-are);
          wrote = λ rows x y. let z : inv.rows ≡ rows = cc in rw (← z) (inv.wrote (rw z y));
        }
