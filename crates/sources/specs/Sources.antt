-- The lines of a segment, and where a walk through it finds their values.
use Rattle.std.specs.Prelude.{◌≡◌, List, map, ℕ, ◌≤◌, length, drop}
use Rattle.rules.specs.declared.Delims.{Delims}
use Rattle.rules.specs.declared.Name.{Name}
use Rattle.rules.specs.Shift.{met}
use Rattle.rules.specs.Frame.{Known}
use Rattle.rules.specs.View.{segment_of}
use Rattle.rules.specs.Row.{Line, lines}
use Rattle.rules.specs.Sheet.{lines_text}
use Rattle.plain_bytes.specs.Bytes.{until}
use Rattle.scan.specs.Scan.{ends, after_sep, onward}

-- the lines of a segment of a name, by its bytes as they are met
unfoldable pub lines_of_body : Delims → Name → List ℕ → List (List ℕ)
lines_of_body d n body =
    let k : Known = record { name = n; start = 0; body = body } in
    lines_text (lines n) (map (λ (l : Line). l.source d (segment_of d k)) (lines n))

-- the n bytes that begin t hold no field separator: from behind them on, the next field is the same
pub record Leads (d : Delims) (n : ℕ) (t : List ℕ) : Type 0 where
  pub inside : n ≤ length t
  pub on : after_sep d.field (met (drop n t)) ≡ after_sep d.field (met t)

-- the component after n field separators
abbrev pub field_from : Delims → ℕ → List ℕ → List ℕ
field_from d n m = until (ends d) (onward d.field n m)
