-- Laws of the face for C: an answer as numbers, for each call its ways. Assumes nothing.
use mathlib.Core.Path.{◌≡◌, refl, ap, sym, ◌∙◌}
use mathlib.Core.List.{List, [], ◌∷◌}
use Prim.Native.Nat.{ℕ, ◌+◌, ◌≤◌}
use native.Mathlib.Omega.{arith}
use lib.ListN.{length, take, drop, set, length-drop}
use lib.Seq.{length-take-le}
use Rattle.std.specs.declared.option.Option.{Option}
use Rattle.std.specs.declared.option.Option.TheVariants.{Some, None}
use Rattle.std.specs.declared.result.Result.{Result}
use Rattle.std.specs.declared.result.Result.TheVariants.{Ok, Err}
use Rattle.rules.specs.declared.Kind.TheVariants.{NoOrdinal}
use Rattle.rules.specs.declared.Counts.{Counts}
use Rattle.rules.specs.declared.Refusal.{Refusal}
use Rattle.rules.specs.declared.Span.{Span}
use Rattle.rules.specs.declared.KnownSegment.{KnownSegment}
use Rattle.rules.specs.Told.{Told, gives, number, told, length_of, Call}
use Rattle.rules.specs.Shift.{met}
use Rattle.rules.specs.Frame.{Known}
use Rattle.rules.specs.Fetch.{found_told}
use Rattle.rules.proofs.Modes.{length-met}
use Rattle.csv_rules.specs.declared.FileFault.{FileFault}
use Rattle.csv_rules.specs.declared.CsvSheets.{CsvSheets}
use Rattle.csv_rules.specs.declared.NotMade.{NotMade}
use Rattle.csv_rules.specs.declared.NotMade.TheVariants.{Unfit, Faulty}
use Rattle.csv_rules.specs.declared.Next.{Next}
use Rattle.csv_rules.specs.Answers.{fault_number, told_count, told_made, SheetCall, NextCall}
use Rattle.spot.specs.declared.Spot.{Spot}
use Rattle.oul_c.specs.Numbers.{beside_of, count_numbers, span_numbers, segment_numbers, spot_numbers, sheet_numbers, one_number, Tells, TellsWritten, TellsNext}

-- ---- the check
module _ (t : Told Counts) (a : Result Counts Refusal) (e : told a ≡ t) where
  pub accepted-tells : (c : Counts) → a ≡ Ok c → Tells count_numbers t 0 (c.spm ∷ c.obr ∷ c.obx ∷ [])
  accepted-tells c h = rw (← e, h) (record { answers = refl; fills = refl })

  pub refused-tells : (r : Refusal) (n : ℕ) (x : List ℕ) → a ≡ Err r → n ≡ number r.kind → x ≡ r.segment ∷ r.field ∷ 0 ∷ [] → Tells count_numbers t n x
  refused-tells r n x h k p = rw (← e, h) (record { answers = k; fills = p })

-- ---- the place of a part
module _ (t : Told Span) (a : Result Span Refusal) (e : told a ≡ t) where
  pub at-tells : (p : Span) → a ≡ Ok p → Tells span_numbers t 0 (p.start ∷ p.len ∷ 0 ∷ [])
  at-tells p h = rw (← e, h) (record { answers = refl; fills = refl })

  pub unfetched-tells : (r : Refusal) (n : ℕ) (x : List ℕ) → a ≡ Err r → n ≡ number r.kind → x ≡ r.segment ∷ r.field ∷ 0 ∷ [] → Tells span_numbers t n x
  unfetched-tells r n x h k p = rw (← e, h) (record { answers = k; fills = p })

-- ---- a known segment: it lies in the message, so that its bytes are as many as are met
part-met : (m : List ℕ) (a n : ℕ) → a + n ≤ length m → length (met (take n (drop a m))) ≡ n
part-met m a n h = length-met (take n (drop a m)) ∙ length-take-le n (drop a m) (omega (arith, length-drop a m))

module _ (m : List ℕ) (t : Told Known) (a : Option KnownSegment) (e : found_told m a ≡ t) where
  pub found-tells : (s : KnownSegment) → a ≡ Some s → s.start + s.len ≤ length m → Tells segment_numbers t 0 (s.start ∷ s.len ∷ 0 ∷ [])
  found-tells s h w = rw (← e, h) (record { answers = refl; fills = ap (λ n. s.start ∷ n ∷ 0 ∷ []) (sym (part-met m s.start s.len w)) })

  pub absent-tells : (r : Refusal) (n : ℕ) (x : List ℕ) → a ≡ None → r ≡ record { kind = NoOrdinal; segment = 0; field = 0 } → n ≡ number r.kind → x ≡ r.segment ∷ r.field ∷ 0 ∷ []
      → Tells segment_numbers t n x
  absent-tells r n x h q k p = rw (← e, h) (record { answers = k ∙ ap (λ (z : Refusal). number z.kind) q; fills = p ∙ ap (λ (z : Refusal). z.segment ∷ z.field ∷ 0 ∷ []) q })

-- ---- a place in a text; a line of a file
pub spot-tells : (p q : Spot) → p ≡ q → Tells spot_numbers (gives q) 0 (p.line ∷ p.byte ∷ 0 ∷ [])
spot-tells p q e = record { answers = refl; fills = ap spot_numbers e }

pub line-tells : (n k : ℕ) → n ≡ k → Tells one_number (gives k) 0 (n ∷ 0 ∷ 0 ∷ [])
line-tells n k e = record { answers = refl; fills = ap one_number e }

-- ---- how many bytes were written
pub wrote-tells : (a : Result ℕ Refusal) (n : ℕ) → a ≡ Ok n → Tells one_number (told a) 0 (n ∷ 0 ∷ 0 ∷ [])
wrote-tells a n h = rw h (record { answers = refl; fills = refl })

pub unwritten-tells : (a : Result ℕ Refusal) (r : Refusal) (n : ℕ) (x : List ℕ) → a ≡ Err r → n ≡ number r.kind → x ≡ r.segment ∷ r.field ∷ 0 ∷ [] → Tells one_number (told a) n x
unwritten-tells a r n x h k p = rw h (record { answers = k; fills = p })

-- what is told of the answer is what the definitions tell
module _ (t : Told (List ℕ)) (before after : List ℕ) (n : ℕ) (x : List ℕ) where
  pub written-tells : (a : Result ℕ Refusal) → Call t before a after → Tells one_number (told a) n x → TellsWritten t before n x after
  written-tells a c s = record { tells = rw c.told at s; buffer = c.buffer }

  pub made_tells : (a : Result ℕ NotMade) → SheetCall t before a after → Tells one_number (told_made a) n x → TellsWritten t before n x after
  made_tells a c s = record { tells = rw c.told at s; buffer = c.buffer }

  pub next-tells : (place : ℕ) (a : Next) → NextCall t place before a after → Tells one_number (told_made a.made) n x → TellsNext t place before n (set x 2 a.place) after
  next-tells place a c s =
      let told : Tells one_number (length_of t) n x = (made_tells a.made c.call s).tells in
      record { answers = told.answers; fills = ap (λ (l : List ℕ). set l 2 a.place) told.fills ∙ ap (set (beside_of one_number (length_of t)) 2) c.place; buffer = c.call.buffer }

-- ---- the commercial centre's file
module _ (t : Told CsvSheets) (a : Result CsvSheets FileFault) (e : told_count a ≡ t) where
  pub sheets-tells : (c : CsvSheets) → a ≡ Ok c → Tells sheet_numbers t 0 (c.count ∷ c.first ∷ 0 ∷ [])
  sheets-tells c h = rw (← e, h) (record { answers = refl; fills = refl })

  pub uncounted-tells : (f : FileFault) (n : ℕ) (x : List ℕ) → a ≡ Err f → n ≡ fault_number f → x ≡ 0 ∷ 0 ∷ 0 ∷ [] → Tells sheet_numbers t n x
  uncounted-tells f n x h k p = rw (← e, h) (record { answers = k; fills = p })

pub sheet-tells : (a : Result ℕ NotMade) (n : ℕ) → a ≡ Ok n → Tells one_number (told_made a) 0 (n ∷ 0 ∷ 0 ∷ [])
sheet-tells a n h = rw h (record { answers = refl; fills = refl })

pub unfit-tells : (a : Result ℕ NotMade) (why : NotMade) (r : Refusal) (n : ℕ) (x : List ℕ) → a ≡ Err why → why ≡ Unfit r → n ≡ number r.kind → x ≡ r.segment ∷ r.field ∷ 0 ∷ [] → Tells one_number (told_made a) n x
unfit-tells a why r n x h q k p = rw (h, q) (record { answers = k; fills = p })

pub faulty-tells : (a : Result ℕ NotMade) (why : NotMade) (f : FileFault) (n : ℕ) (x : List ℕ) → a ≡ Err why → why ≡ Faulty f → n ≡ fault_number f → x ≡ 0 ∷ 0 ∷ 0 ∷ [] → Tells one_number (told_made a) n x
faulty-tells a why f n x h q k p = rw (h, q) (record { answers = k; fills = p })
