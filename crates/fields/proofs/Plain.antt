-- A value of letters and digits has no escapes: what was read is what stands there. Assumes nothing.
use Prim.Native.Nat.{ℕ}
use native.Mathlib.Omega.{arith}
use mathlib.Core.Path.{◌≡◌, refl, sym, ap, ◌∙◌}
use mathlib.Core.List.{List, [], ◌∷◌, map}
use mathlib.Core.Option.{none, some}
use mathlib.Core.Bool.{Bool, true, false, not}
use lib.Dec.{eqb}
use lib.ListN.{length}
use Rattle.rules.specs.declared.Delims.{Delims}
use Rattle.rules.specs.Told.{◌when◌}
use Rattle.rules.specs.Lists.{bytes, same, all, any, split, is_one_of, empty, or_empty}
use Rattle.rules.specs.Shift.{byte_of}
use Rattle.rules.specs.Frame.{digit}
use Rattle.rules.specs.Proper.{Proper}
use Rattle.rules.specs.Value.{Rule, time, date, numeric, text, digits, capitals, words, holds, too_long, fault}
use Rattle.rules.specs.Escape.{Letter, plain, opened, named, letters, meaning, unescape_at, unescape}
use Rattle.rules.specs.Judge.{plain_of, fault_or23, judge}
use Rattle.rules.proofs.Logic.{cases, option_cases, nothing-some, never, both, not-false, then-none, when-none}
use Rattle.rules.proofs.Lists.{all_first, all-each, any-first, one_of}
use Rattle.rules.proofs.Header.{delim-apart}
use Rattle.rules.proofs.Escaped.{push_cases}
use Rattle.scan.specs.Scan.{alnum}

-- ---- an escape stands for a delimiter, and no delimiter is a letter or a digit
-- the bytes that the letters of some rows stand for
unfoldable stand : List Letter → List ℕ
stand rs = map (λ (r : Letter). r.stands) rs

meaning-apart : (rs : List Letter) (y z : ℕ) → any alnum (stand rs) ≡ false → meaning rs y ≡ some z → alnum z ≡ false
unfolding meaning stand
meaning-apart [] y z h e = cc
meaning-apart (r ∷ rs) y z h e =
    let a = any-first alnum r.stands (stand rs) h in
    cases (eqb y r.letter)
    (λ t. let q : some r.stands ≡ some z = rw (t, meaning) at e in let w : r.stands ≡ z = cc in ap alnum (sym w) ∙ a.0)
    (λ t. meaning-apart rs y z a.1 (rw (t, meaning) at e))

letters-apart : (d : Delims) → Proper d → any alnum (stand (letters d)) ≡ false
unfolding letters stand any all bytes
letters-apart d p =
    cc (
      delim-apart d.field p.field alnum refl,
      delim-apart d.component p.component alnum refl,
      delim-apart d.sub p.sub alnum refl,
      delim-apart d.repetition p.repetition alnum refl,
      delim-apart d.escape p.escape alnum refl,
    )

-- what is read after an escape byte has a delimiter
first-not : (x : ℕ) (w v : List ℕ) → v ≡ x ∷ w → alnum x ≡ false → all alnum v ≡ true → ⊥
first-not x w v e h g = let q = all_first alnum x w (rw e at g) in never (sym q.0 ∙ h)

named-not : (d : Delims) (x : ℕ) (m v : List ℕ) → alnum x ≡ false → unescape_at d (named x) m ≡ some v → all alnum v ≡ true → ⊥
unfolding unescape_at
named-not d x [] v h e g = nothing-some e
named-not d x (y ∷ m) v h e g =
    cases (eqb y d.escape)
    (λ t. push_cases x (unescape_at d plain m) v (rw (t, unescape_at) at e) (λ w q r. first-not x w v r h g))
    (λ t. nothing-some (rw (t, unescape_at) at e))

opened-not : (d : Delims) → Proper d → (m v : List ℕ) → unescape_at d opened m ≡ some v → all alnum v ≡ true → ⊥
unfolding unescape_at
opened-not d p [] v e g = nothing-some e
opened-not d p (y ∷ m) v e g =
    option_cases (meaning (letters d) y)
    (λ z q. named-not d z m v (meaning-apart (letters d) y z (letters-apart d p) q) (rw (q, unescape_at) at e) g)
    (λ q. nothing-some (rw (q, unescape_at) at e))

-- ---- so its bytes are the raw ones
raw_at_lem : (d : Delims) → Proper d → (m v : List ℕ) → unescape_at d plain m ≡ some v → all alnum v ≡ true → v ≡ map byte_of m
unfolding unescape_at
raw_at_lem d p [] v e g = cc
raw_at_lem d p (x ∷ m) v e g =
    cases (eqb x d.escape)
    (λ t. absurd (opened-not d p m v (rw (t, unescape_at) at e) g))
    (λ t. cases (eqb x d.sub)
    (λ u. let q : none ≡ some v = rw (t, u, unescape_at) at e in cc)
    (λ u. push_cases (byte_of x) (unescape_at d plain m) v (rw (t, u, unescape_at) at e)
    (λ w q r. r ∙ ap (λ (l : List ℕ). byte_of x ∷ l) (raw_at_lem d p m w q (all_first alnum (byte_of x) w (rw r at g)).1))))

-- ---- the rules whose values are letters and digits
unfoldable pub letters_only : Rule → Bool
letters_only time = false
letters_only date = false
letters_only numeric = false
letters_only (text n) = false
letters_only (digits n) = true
letters_only (capitals n) = false
letters_only (words ws) = all (all alnum) (split 0x20 (bytes ws))

holds-letters : (r : Rule) (v : List ℕ) → letters_only r ≡ true → holds r v ≡ true → all alnum v ≡ true
unfolding letters_only holds is_one_of
holds-letters time v l h = never (sym l)
holds-letters date v l h = never (sym l)
holds-letters numeric v l h = never (sym l)
holds-letters (text n) v l h = never (sym l)
holds-letters (digits n) v l h = all-each digit alnum (λ b e. rw e) v (both (eqb (length v) n) (all digit v) h).1
holds-letters (capitals n) v l h = never (sym l)
holds-letters (words ws) v l h = one_of (all alnum) v (split 0x20 (bytes ws)) h l

filled-holds : (r : Rule) (v : List ℕ) → fault true r v ≡ 0 → holds r v ≡ true
unfolding fault
filled-holds r v h =
    cases (empty v)
    (λ e. absurd (let z : ◌≡◌ {A = ℕ} 20 0 = rw e at h in omega arith))
    (λ e. let q = then-none (24 when too_long r v) (25 when not (holds r v)) (rw e at h) in not-false (holds r v) (when-none 24 (not (holds r v)) q.1))

pub raw-value : (d : Delims) → Proper d → (r : Rule) (m : List ℕ) → letters_only r ≡ true → judge d true r m ≡ 0 → plain_of d m ≡ map byte_of m
unfolding judge fault_or23 unescape or_empty
raw-value d p r m l h =
    let q : fault_or23 true r (unescape_at d plain m) ≡ 0 = (then-none (21 when same m (bytes "\"\"")) (fault_or23 true r (unescape_at d plain m)) h).1 in
    option_cases (unescape_at d plain m)
    (λ v e. rw e (raw_at_lem d p m v e (holds-letters r v l (filled-holds r v (rw e at q)))))
    (λ e. absurd (let z : ◌≡◌ {A = ℕ} 23 0 = rw e at q in omega arith))
