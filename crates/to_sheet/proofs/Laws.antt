-- Laws of the conversion to a sheet: one for each way through its code. Assumes nothing.
use mathlib.Core.Path.{◌≡◌, refl, sym, ap, ◌∙◌}
use mathlib.Core.Bool.{true}
use mathlib.Core.List.{List, [], ◌∷◌, ◌++◌, append_assoc, append-nil}
use Prim.Native.Nat.{ℕ, ◌+◌, ◌-◌, ◌*◌, ◌≤◌, ◌<◌}
use native.Mathlib.Omega.{arith}
use borrow.Author.Tests.{leb-true, lt-ltb, le-ltb}
use lib.Dec.{leb}
use lib.ListN.{length, take, drop}
use Rattle.std.specs.declared.result.Result.{Result}
use Rattle.std.specs.declared.result.Result.TheVariants.{Ok, Err}
use Rattle.rules.specs.declared.Delims.{Delims}
use Rattle.rules.specs.declared.Counts.{Counts}
use Rattle.rules.specs.declared.Kind.TheVariants.{Room}
use Rattle.rules.specs.declared.Refusal.{Refusal}
use Rattle.rules.specs.Told.{gives, refused, told, Call}
use Rattle.rules.specs.Lists.{ended}
use Rattle.rules.specs.Shift.{met}
use Rattle.rules.specs.Frame.{delims_of, segments, segments_ok, name_of}
use Rattle.rules.specs.View.{view}
use Rattle.rules.specs.Row.{rows_of}
use Rattle.rules.specs.Check.{check_told}
use Rattle.rules.specs.Sheet.{sheet_of, sheet_told, to_sheet}
use Rattle.rules.proofs.Logic.{both, not-given, told_cases, called-as, never-wrote}
use Rattle.rules.proofs.Split.{ended-append}
use Rattle.rules.proofs.Header.{header}
use Rattle.rules.proofs.Where.{accepted-passes}
use Rattle.unescape.specs.Unescaped.{fill}
use Rattle.frame.specs.Frame.{good_of, frame_of, Sound}
use Rattle.frame.proofs.Rules.{check-refused, sound}
use Rattle.frame.specs.Taken.{Taken, Ended}
use Rattle.frame.proofs.Taken.{taken-length, taken-segments, taken-ok, ended-segments}
use Rattle.fill.specs.Fill.{Filled, fill_at, Lined, longest}
use Rattle.sources.specs.Sources.{lines_of_body}
use Rattle.to_sheet.specs.Sections.{sections}
use Rattle.fill.proofs.Laws.{fill-nil, lined_then}
use Rattle.to_sheet.proofs.Sheet.{sheet-is}
use Rattle.section.proofs.Laws.{fills, same_length}

-- ---- the pass: what is written when the rest r is still to be passed
pub record Passing (d : Delims) (m out₀ : List ℕ) (written : ℕ) (out r : List ℕ) : Type 0 where
  pub done : List (List ℕ)
  pub at : ℕ
  pub inside : at + length r ≡ length m
  pub few : written ≤ longest 10 * at
  pub same : length out ≡ length out₀
  pub whole : segments_ok d.field r ≡ true
  pub left : sections d (segments m) ≡ ended 0x0A done ++ sections d (segments r)
  pub lined : Lined 0 out₀ done written out

pub begins : (d : Delims) (m out : List ℕ) → Sound m d → Passing d m out 0 out m
unfolding ended fill_at fill
begins d m out s = record {
  done = [];
  at = 0;
  inside = omega arith;
  few = omega arith;
  same = refl;
  whole = s.whole;
  left = refl;
  lined = record { filled = record { ends = refl; is = refl } };
}

section-cons : (d : Delims) (s : List ℕ) (ss : List (List ℕ)) → sections d (s ∷ ss) ≡ ended 0x0A (lines_of_body d (name_of s) (met s)) ++ sections d ss
unfolding sections
section-cons d s ss = refl

module _ (d : Delims) (m out₀ : List ℕ) (written : ℕ) (out r : List ℕ) (p : Passing d m out₀ written out r) where
  pub few-written : length m ≤ 32768 → written ≤ longest 10 * 32768
  few-written h = omega (arith, p.few, p.inside)

  -- a turn, at a segment s
  module _ (s t : List ℕ) (k : Taken r s t) where
    good : (good_of d.field s ≡ true) × (segments_ok d.field t ≡ true)
    good = both (good_of d.field s) (segments_ok d.field t) (sym (taken-ok r s t k d.field) ∙ p.whole)

    -- a segment of a message that is sound
    pub small : length s ≤ 4096
    small = leb-true (length s) 4096 (both (leb (length s) 4096) _ good.0).0

    pub goes : (n : ℕ) (y : List ℕ) → Lined written out (lines_of_body d (name_of s) (met s)) n y → n ≤ written + longest 10 → Passing d m out₀ n y t
    goes n y h b =
        let ls : List (List ℕ) = lines_of_body d (name_of s) (met s) in
        record {
          done = p.done ++ ls;
          at = p.at + (length s + 1);
          inside = omega (arith, p.inside, taken-length r s t k);
          few = omega (arith, p.few);
          same = same_length out₀ y (p.done ++ ls) n (lined_then p.lined h);
          whole = good.1;
          left = p.left ∙ next ls (ap (sections d) (taken-segments r s t k) ∙ section-cons d s (segments t));
          lined = lined_then p.lined h;
        }
      where
        next : (ls : List (List ℕ)) → sections d (segments r) ≡ ended 0x0A ls ++ sections d (segments t)
            → ended 0x0A p.done ++ sections d (segments r) ≡ ended 0x0A (p.done ++ ls) ++ sections d (segments t)
        next ls f =
            ap (λ (l : List ℕ). ended 0x0A p.done ++ l) f
            ∙ sym (ap (λ (l : List ℕ). l ++ sections d (segments t)) (ended-append 0x0A p.done ls)
            ∙ append_assoc (ended 0x0A p.done) (ended 0x0A ls) (sections d (segments t)))

  pub ends : (t : List ℕ) → Ended r t → Filled written out (sections d (segments m)) out₀
  ends t h =
      rw (p.left ∙ ap (λ (l : List ℕ). ended 0x0A p.done ++ l) none_left ∙ append-nil (ended 0x0A p.done)) (fills out₀ out p.done written p.lined)
    where
      none_left : sections d (segments r) ≡ []
      none_left = rw (ended-segments r h.whole) (unfold sections in refl)

-- ---- 45, and the sheet
-- a text that fits is written whole
fits : (w old : List ℕ) → length w ≤ length old → fill w old ≡ w ++ drop (length w) old
unfolding fill
fits [] old h = refl
fits (x ∷ w) [] h = absurd (omega arith)
fits (x ∷ w) (o ∷ old) h = ap (λ (l : List ℕ). x ∷ l) (fits w old (omega arith))

module _ (m : List ℕ) (d : Delims) (s : Sound m d) (room : ℕ) where
  abbrev text : List ℕ
  text = sections d (segments m)

  text-is : sheet_of (rows_of (view m)) ≡ text
  text-is = rw s.delims (sheet-is m)

  told-short : room < length text → sheet_told (view m) room ≡ refused 45 0 0
  unfolding sheet_told
  told-short h = rw (text-is, lt-ltb room (length text) h)

  told-whole : length text ≤ room → sheet_told (view m) room ≡ gives text
  unfolding sheet_told
  told-whole h = rw (text-is, le-ltb room (length text) h)

-- measured where nothing is lent, z, so the buffer is x still
module _ (m : List ℕ) (d : Delims) (s : Sound m d) (x z : List ℕ) (n : ℕ) (measured : Filled n z (sections d (segments m)) []) where
  still : z ++ x ≡ x
  still = ap (λ (l : List ℕ). l ++ x) (measured.is ∙ fill-nil (sections d (segments m)))

  pub write-short : (k : Refusal) → length (z ++ x) < n → k ≡ record { kind = Room; segment = 0; field = 0 }
      → Call (sheet_told (view m) (length x)) x (Err k) (z ++ x)
  write-short k h e = called-as (told-short m d s (length x) (omega (arith, measured.ends, ap length still))) (rw e (record { told = refl; buffer = still; within = λ i f. never-wrote f }))

  pub write-whole : (r : ℕ) (y : List ℕ) → n ≤ length (z ++ x) → Filled r y (sections d (segments m)) (z ++ x) → Call (sheet_told (view m) (length x)) x (Ok n) y
  write-whole r y h f =
      let room : length (sections d (segments m)) ≤ length x = omega (arith, measured.ends, ap length still) in
      called-as (told-whole m d s (length x) room)
      (record { told = ap gives measured.ends; buffer = f.is ∙ ap (fill (sections d (segments m))) still ∙ fits (sections d (segments m)) x room; within = λ i e. let q : i ≡ n = cc in omega (arith, measured.ends) })

-- ---- the check first
module _ (m : List ℕ) (a : Result Counts Refusal) (e : told a ≡ check_told m) where
  module _ (c : Counts) (h : a ≡ Ok c) where
    accepted : check_told m ≡ gives c
    accepted = sym e ∙ ap told h

    pub accepted-long : 9 ≤ length m
    accepted-long = (header m (accepted-passes m c accepted).headed).long

    pub accepted-sound : (d : Delims) → d ≡ delims_of m → Sound m d
    accepted-sound d g =
        told_cases (frame_of m)
        (λ o k. let s : Sound m o.delims = sound m o k in rw (g ∙ sym s.delims) s)
        (λ n i f k. not-given (sym (check-refused m n i f k) ∙ accepted))

    sheet-told : (room : ℕ) → to_sheet m room ≡ sheet_told (view m) room
    unfolding to_sheet
    sheet-told room = rw accepted

    pub wrote-sheet : (x : List ℕ) (r : Result ℕ Refusal) (y : List ℕ) → Call (sheet_told (view m) (length x)) x r y → Call (to_sheet m (length x)) x r y
    wrote-sheet x r y w = called-as (sheet-told (length x)) w
