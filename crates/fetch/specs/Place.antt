-- What fetch tells after the check, and what its routines find.
use Rattle.std.specs.Prelude.{◌≡◌, not, ◌||◌, List, ℕ, ◌+◌, ◌-◌, ◌≤◌, eqb, length, Result, Ok}
use Rattle.rules.specs.declared.Refusal.{Refusal}
use Rattle.rules.specs.declared.Delims.{Delims}
use Rattle.rules.specs.declared.Span.{Span}
use Rattle.rules.specs.Told.{Told, gives, refuse◌if◌else◌, ◌>>=◌, told}
use Rattle.rules.specs.Lists.{nth, split}
use Rattle.rules.specs.Frame.{known, header_ok, delims_of}
use Rattle.rules.specs.View.{component_of, first_repetition}
use Rattle.rules.specs.Fetch.{start_of, stretch, span_of, ordinal}

-- ---- after the check: 31, then 30. Of a message that the check accepts this is what fetch tells; what has no header has no segment here,
-- so that every stretch lies in the message, between delimiters.
unfoldable pub place_told : List ℕ → ℕ → ℕ → ℕ → Told Span
place_told m o f c =
    refuse 31 if eqb f 0 || eqb c 0 else
    refuse 30 if not (header_ok m) else
    (ordinal (known m) o >>= λ k. gives (span_of (delims_of m) k f c))

-- the same of the call, as `Located` says it of fetch
pub record PlaceFound (m : List ℕ) (o f c : ℕ) (r : Result Span Refusal) : Type 0 where
  pub told : told r ≡ place_told m o f c
  pub within : (p : Span) → r ≡ Ok p → p.start + p.len ≤ length m

-- ---- the component c of the first repetition of a field, by its place there; of the n-th piece of a segment that starts at `at`
unfoldable pub part_in : Delims → List ℕ → ℕ → Span
part_in d f c = let r = first_repetition d f in stretch (start_of d.component (c - 1) r) (length (component_of d r c))

unfoldable pub stretch_of : Delims → ℕ → List ℕ → ℕ → ℕ → Span
stretch_of d at body n c =
    let p = part_in d (nth (split d.field body) n) c in
    stretch (at + start_of d.field n body + p.start) p.len
