-- Laws of a segment's lines, by its name. Assumes nothing.
use mathlib.Core.Path.{◌≡◌, refl, sym, ap, ◌∙◌}
use mathlib.Core.List.{List, [], ◌++◌}
use Prim.Native.Nat.{ℕ, ◌+◌, ◌-◌, min}
use native.Mathlib.Omega.{arith}
use lib.ListN.{length, take, drop}
use Rattle.std.proofs.lemmas.List.{take-append-drop}
use Rattle.rules.specs.declared.Name.{Name}
use Rattle.rules.specs.declared.Name.TheVariants.{Orc, Other}
use Rattle.rules.specs.Lists.{ended}
use Rattle.rules.specs.Row.{lines}
use Rattle.rules.specs.Sheet.{lines_text}
use Rattle.unescape.specs.Unescaped.{fill}
use Rattle.fill.specs.declared.Lines.{Lines}
use Rattle.fill.specs.Fill.{Filled, fill_at, Lined}
use Rattle.fill.specs.Lines.{Continued}
use Rattle.sources.specs.Sources.{lines_of_body}
use Rattle.fill.proofs.Laws.{back, length-fill}

-- ---- a segment with no lines
module _ (l : Lines) (body : List ℕ) where
  none : (n : Name) → lines_of_body l.delims n body ≡ [] → Continued 10 l l (λ d. lines_of_body d n body)
  unfolding ended fill_at fill
  none n e = record {
    same = record { out = refl; delims = refl };
    lined = rw e (record { filled = record { ends = omega arith; is = sym (take-append-drop l.at l.out.now) } });
    within = omega arith;
  }

  pub put_orc : (n : Name) → n ≡ Orc → Continued 10 l l (λ d. lines_of_body d n body)
  unfolding lines_of_body lines lines_text
  put_orc n e = none n (rw e)

  pub put_other : (n : Name) → n ≡ Other → Continued 10 l l (λ d. lines_of_body d n body)
  unfolding lines_of_body lines lines_text
  put_other n e = none n (rw e)

-- ---- from the start of a buffer, and back from what was lent of it
pub fills : (x y : List ℕ) (ls : List (List ℕ)) (r : ℕ) → Lined 0 x ls r y → Filled r y (ended 0x0A ls) x
unfolding fill_at
fills x y ls r h = record { ends = omega (arith, h.filled.ends); is = h.filled.is }

pub same_length : (x y : List ℕ) (ls : List (List ℕ)) (r : ℕ) → Lined 0 x ls r y → length y ≡ length x
same_length x y ls r h = ap length (fills x y ls r h).is ∙ length-fill (ended 0x0A ls) x

pub put_back : (x y : List ℕ) (ls : List (List ℕ)) (at f r : ℕ) → f ≡ min at (length x) → Lined 0 (take (length x - f) (drop f x)) ls r y
    → Lined at x ls (at + r) (take f x ++ (y ++ drop (length x - f) (drop f x)))
put_back x y ls at f r e h = record { filled = back x y (ended 0x0A ls) at f r e (fills (take (length x - f) (drop f x)) y ls r h) }
