-- DEMAND 2, THE FIRST SENTENCE: "A message is accepted exactly if it keeps the rules of document 01; counts, parts and sheet are those that
-- the rules give." What is claimed; proofs/Given.antt proves each claim, and nothing is assumed but what stands here.
use Rattle.std.specs.Prelude.{◌≡◌, cond, ◌&&◌, List, [], ◌∷◌, ◌++◌, ℕ, suc, ◌+◌, ◌≤◌, eqb, length, drop, Result, Ok}
use Rattle.std.proofs.Math.Option.{some}
use Rattle.std.proofs.Math.ListN.{get_elem?}
use Rattle.rules.specs.declared.Refusal.{Refusal}
use Rattle.rules.specs.declared.Delims.{Delims}
use Rattle.rules.specs.declared.Counts.{Counts}
use Rattle.rules.specs.declared.Span.{Span}
use Rattle.rules.specs.declared.Name.{Name}
use Rattle.rules.specs.declared.Name.TheVariants.{Msh, Spm, Obr, Obx}
use Rattle.rules.specs.Told.{gives}
use Rattle.rules.specs.Lists.{count}
use Rattle.rules.specs.Shift.{met}
use Rattle.rules.specs.Frame.{delims_of, is, Known, known}
use Rattle.rules.specs.View.{view}
use Rattle.rules.specs.Check.{check_told}
use Rattle.rules.specs.Fetch.{fetch_told, bytes_at}
use Rattle.rules.specs.Row.{rows_of}
use Rattle.rules.specs.Sheet.{sheet_of, to_sheet}
use Rattle.rules.specs.Promises.{Checked, PartGiven, SheetWritten}
use Rattle.kept.specs.Kept.{segment_names, raw_part, Kept}

-- ---- "The check gives the counts of SPM, OBR and OBX."
unfoldable pub how_many : Name → List ℕ → ℕ
how_many n m = count (is n) (segment_names m)

unfoldable pub counts_given : List ℕ → Counts
counts_given m = record { spm = how_many Spm m; obr = how_many Obr m; obx = how_many Obx m }

-- A message that is accepted keeps the rules, and has their counts; one that keeps them is accepted.
abbrev pub Accepted : Type 0
Accepted = (m : List ℕ)
    → ((c : Counts) → check_told m ≡ gives c → Kept m × (c ≡ counts_given m))
    × (Kept m → check_told m ≡ gives (counts_given m))

-- ---- "For a known ordinal, a field and a component the caller gets back the very stretch of his message, still escaped, from the first
-- repetition; an absent one is empty. MSH-1 is the separator byte, MSH-2 the four bytes undivided; further components of both are empty."
unfoldable pub part_shown : Delims → Known → ℕ → ℕ → List ℕ
part_shown d k f c =
    cond (is k.name Msh && eqb f 1) (cond (eqb c 1) (d.field ∷ []) [])
    (cond (is k.name Msh && eqb f 2) (cond (eqb c 1) (d.component ∷ d.repetition ∷ d.escape ∷ d.sub ∷ []) [])
    (raw_part d k f c))

-- a stretch of the message is given, and its bytes, as they are met, are the part
pub record Fetches (m : List ℕ) (o f c : ℕ) (part : List ℕ) : Type 0 where
  pub stretch : Span
  pub given : fetch_told m o f c ≡ gives stretch
  pub within : stretch.start + stretch.len ≤ length m
  pub bytes : met (bytes_at m stretch) ≡ part

abbrev pub PartsGiven : Type 0
PartsGiven = (m : List ℕ) → Kept m → (i f c : ℕ) (k : Known) → get_elem? (known m) i ≡ some k → 1 ≤ f → 1 ≤ c
    → Fetches m (suc i) f c (part_shown (delims_of m) k f c)

-- ---- the sheet, where there is room for it
abbrev pub SheetGiven : Type 0
SheetGiven = (m : List ℕ) (room : ℕ) → Kept m → let s = sheet_of (rows_of (view m)) in length s ≤ room → to_sheet m room ≡ gives s

-- ---- the same of the calls `check`, `fetch` and `to_sheet`, by their promises alone
abbrev pub CheckCalls : Type 0
CheckCalls = (m : List ℕ) (r : Result Counts Refusal) → Checked m r
    → ((c : Counts) → r ≡ Ok c → Kept m × (c ≡ counts_given m)) × (Kept m → r ≡ Ok (counts_given m))

-- where m lies at `m-lies`, and what is given back, x, at `x-lies`
abbrev pub FetchCalls : Type 0
FetchCalls = (m : List ℕ) (m-lies : ℕ × ℕ) (i f c : ℕ) (k : Known) (x : List ℕ) (x-lies : ℕ × ℕ) → PartGiven m m-lies (suc i) f c x x-lies
    → Kept m → get_elem? (known m) i ≡ some k → 1 ≤ f → 1 ≤ c → met x ≡ part_shown (delims_of m) k f c

abbrev pub TurnCalls : Type 0
TurnCalls = (m before after : List ℕ) (r : Result ℕ Refusal) → SheetWritten m before r after
    → Kept m → let s = sheet_of (rows_of (view m)) in length s ≤ length before → (r ≡ Ok (length s)) × (after ≡ s ++ drop (length s) before)
