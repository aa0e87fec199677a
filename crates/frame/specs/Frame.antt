-- One pass over the segments of a message, and what the frame tells.
use Rattle.std.specs.Prelude.{◌≡◌, Bool, true, cond, not, ◌&&◌, List, [], ◌∷◌, ℕ, ◌+◌, ◌≤◌, leb, ltb, eqb, length, Option, Some, None}
use Rattle.std.specs.Bool.{then_some}
use Rattle.std.specs.Option.{option_or}
use Rattle.rules.specs.declared.Delims.{Delims}
use Rattle.rules.specs.declared.Counts.{Counts}
use Rattle.rules.specs.declared.Name.{Name}
use Rattle.rules.specs.declared.Name.TheVariants.{Spm, Obr, Obx, Other}
use Rattle.rules.specs.Told.{Told, gives, refused, refuse◌if◌else◌, ◌>>◌, ◌>>=◌, ◌when◌}
use Rattle.rules.specs.Shift.{keeps}
use Rattle.rules.specs.Frame.{delims_of, name_ok, name_of, segments, segments_ok, is, start, past, may_follow, may_end, order_fault}
use Rattle.rules.specs.Proper.{Proper}
use Rattle.rules.specs.View.{view}
use Rattle.rules.specs.Check.{frame_told, names_of, counts_told}
use Rattle.order.specs.Order.{reached_of, code_reached}
use Rattle.frame.specs.declared.Opened.{Opened}
use Rattle.frame.specs.declared.all_segments.Seen.{Seen}

-- "At most 32,768 bytes."
abbrev pub most_bytes : ℕ
most_bytes = 32768

-- ---- the frame
-- 10 to 14, then 15 by the known names; then the delimiters and the counts
unfoldable pub frame_of : List ℕ → Told Opened
frame_of m =
    let at = order_fault start 1 (names_of (view m)) in
    frame_told m
    >> cond (eqb at 0) (counts_told (names_of (view m)) >>= λ c. gives (record { delims = delims_of m; counts = c })) (refused 15 at 0)

-- what holds of a message that passes
pub record Sound (m : List ℕ) (d : Delims) : Type 0 where
  pub delims : d ≡ delims_of m
  pub proper : Proper d
  pub short : length m ≤ most_bytes
  pub shifts : keeps 0x0D m ≡ true
  pub whole : segments_ok d.field m ≡ true

-- ---- the pass
-- 13, of one segment
abbrev pub good_of : ℕ → List ℕ → Bool
good_of bar s = leb (length s) 4096 && name_ok bar s

abbrev pub nothing_seen : Seen
nothing_seen = record { segments = 0; known = 0; reached = code_reached start; fault = None; counts = record { spm = 0; obr = 0; obx = 0 } }

unfoldable pub tallied : Counts → Name → Counts
tallied c n = record { spm = c.spm + (1 when is Spm n); obr = c.obr + (1 when is Obr n); obx = c.obx + (1 when is Obx n) }

-- one segment more, of the name n
unfoldable pub counted_of : Seen → Name → Seen
counted_of v n =
    let at = v.known + 1 in
    let reached = reached_of v.reached in
    cond (is n Other)
    (record { segments = v.segments + 1; known = v.known; reached = v.reached; fault = v.fault; counts = v.counts })
    (record {
      segments = v.segments + 1;
      known = at;
      reached = code_reached (past reached n);
      fault = option_or v.fault (then_some (not (may_follow reached n)) at);
      counts = tallied v.counts n;
    })

unfoldable pub seen_after : Seen → List (List ℕ) → Seen
seen_after v [] = v
seen_after v (s ∷ ss) = seen_after (counted_of v (name_of s)) ss

-- the rest r of a message, after what is seen
unfoldable pub pass_from : Seen → ℕ → List ℕ → Option Seen
pass_from v bar r = cond (segments_ok bar r) (Some (seen_after v (segments r))) None

-- 14 and 15, when all is seen
unfoldable pub closing : Delims → Seen → Told Opened
closing d v =
    refuse 14 if ltb 512 v.segments else
    elim (option_or v.fault (then_some (not (may_end (reached_of v.reached))) (v.known + 1))) [
      | None ↦ gives (record { delims = d; counts = v.counts })
      | Some at ↦ refused 15 at 0
    ]

-- none of the numbers passes n
pub record Within (n : ℕ) (v : Seen) : Type 0 where
  pub segments : v.segments ≤ n
  pub known : v.known ≤ n
  pub spm : v.counts.spm ≤ n
  pub obr : v.counts.obr ≤ n
  pub obx : v.counts.obx ≤ n
