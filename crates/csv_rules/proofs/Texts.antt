-- A converted text keeps the byte and shift rule, and no two texts have one image. Assumes nothing.
use mathlib.Core.Path.{◌≡◌, refl, sym, ap, ◌∙◌}
use mathlib.Core.Bool.{Bool, true, false, cond}
use mathlib.Core.List.{List, [], ◌∷◌, ◌++◌}
use mathlib.Core.Option.{Option, none, some}
use Prim.Native.Nat.{ℕ, ◌≤◌}
use native.Mathlib.Omega.{arith}
use borrow.Author.Tests.{leb-true, ne_eqb}
use lib.Dec.{leb}
use Rattle.rules.specs.declared.Mode.TheVariants.{One, Two, Second}
use Rattle.rules.specs.Lists.{all}
use Rattle.rules.specs.Shift.{within, step, is_one, walk, keeps}
use Rattle.rules.proofs.Logic.{cases, both}
use Rattle.rules.proofs.Lists.{all_first}
use Rattle.rules.proofs.Modes.{walk_step, still_one}
use Rattle.csv_rules.specs.Kanji.{lead, first, second, is_pair, Character, one, pair, characters_at, characters, good_character, convertible, into, back, shifted, converted}
use Rattle.csv_rules.specs.Claims.{TextKeeps, NoTwoTexts}
use Rattle.csv_rules.proofs.Pairs.{every-pair, no-two-pairs}

pub in_bounds : (lo hi b : ℕ) → within lo hi b ≡ true → (lo ≤ b) × (b ≤ hi)
in_bounds lo hi b h = let q = both (leb lo b) (leb b hi) h in (leb-true lo b q.0, leb-true b hi q.1)

-- what is asked of a pair
pub good-pair : (l t : ℕ) → good_character (pair l t) ≡ true → is_pair l t ≡ true
unfolding good_character
good-pair l t h = h

-- ---- the shift rule
to-second : (end b : ℕ) → within 0x21 0x7E b ≡ true → step end Two b ≡ Second
unfolding step
to-second end b h = let q = in_bounds 0x21 0x7E b h in rw (ne_eqb b 0x1B (omega arith), h)

to-two : (end b : ℕ) → within 0x21 0x7E b ≡ true → step end Second b ≡ Two
unfolding step
to-two end b h = rw h

walk-in : (end : ℕ) (s : List ℕ) → walk end One (into ++ s) ≡ walk end Two s
unfolding walk step
walk-in end s = refl

walk-back : (end : ℕ) (s : List ℕ) → walk end Two (back ++ s) ≡ walk end One s
unfolding walk step
walk-back end s = refl

walk_pair : (end l t : ℕ) (s : List ℕ) → good_character (pair l t) ≡ true → walk end Two (first l t ∷ second t ∷ s) ≡ walk end Two s
walk_pair end l t s h =
    let q = every-pair l t (good-pair l t h) in
    walk_step end Two (first l t) (second t ∷ s) (to-second end (first l t) q.0) ∙ walk_step end Second (second t) s (to-two end (second t) q.1)

walk-single : (end b : ℕ) (s : List ℕ) → within 0x20 0x7E b ≡ true → walk end One (b ∷ s) ≡ walk end One s
walk-single end b s h = let q = in_bounds 0x20 0x7E b h in walk_step end One b s (still_one end b q.0 q.1)

shifted-keeps : (end : ℕ) (two : Bool) (cs : List Character) → all good_character cs ≡ true → walk end (cond two Two One) (shifted two cs) ≡ One
unfolding shifted good_character walk step
shifted-keeps end true [] h = refl
shifted-keeps end false [] h = refl
shifted-keeps end true (one b ∷ cs) h =
    let q = all_first good_character (one b) cs h in
    walk-back end (b ∷ shifted false cs) ∙ walk-single end b (shifted false cs) q.0 ∙ shifted-keeps end false cs q.1
shifted-keeps end false (one b ∷ cs) h =
    let q = all_first good_character (one b) cs h in
    walk-single end b (shifted false cs) q.0 ∙ shifted-keeps end false cs q.1
shifted-keeps end true (pair l t ∷ cs) h =
    let q = all_first good_character (pair l t) cs h in
    walk_pair end l t (shifted true cs) q.0 ∙ shifted-keeps end true cs q.1
shifted-keeps end false (pair l t ∷ cs) h =
    let q = all_first good_character (pair l t) cs h in
    walk-in end (first l t ∷ second t ∷ shifted true cs) ∙ walk_pair end l t (shifted true cs) q.0 ∙ shifted-keeps end true cs q.1

pub text-keeps : TextKeeps
unfolding keeps is_one converted convertible
text-keeps end s h = ap is_one (shifted-keeps end false (characters s) h)

-- ---- no two texts
-- the bytes of some characters
unfoldable pub bytes_of : List Character → List ℕ
bytes_of [] = []
bytes_of (one b ∷ cs) = b ∷ bytes_of cs
bytes_of (pair l t ∷ cs) = l ∷ t ∷ bytes_of cs

unfoldable pub waiting : Option ℕ → List ℕ → List ℕ
waiting none s = s
waiting (some l) s = l ∷ s

pub bytes_back : (o : Option ℕ) (s : List ℕ) → bytes_of (characters_at o s) ≡ waiting o s
unfolding bytes_of waiting characters_at
bytes_back none [] = refl
bytes_back (some l) [] = refl
bytes_back none (b ∷ s) = cases (lead b) (λ e. rw (e, characters_at) (bytes_back (some b) s)) (λ e. rw (e, characters_at, bytes_of) (ap (λ (r : List ℕ). b ∷ r) (bytes_back none s)))
bytes_back (some l) (t ∷ s) = ap (λ (r : List ℕ). l ∷ t ∷ r) (bytes_back none s)

-- an image begins with no 1B
not-shift : {P : Type 0} (l t : ℕ) (r s : List ℕ) → good_character (pair l t) ≡ true → 0x1B ∷ r ≡ first l t ∷ s → P
not-shift l t r s h e = let q = in_bounds 0x21 0x7E (first l t) (every-pair l t (good-pair l t h)).0 in let z : 0x1B ≡ first l t = cc in absurd (omega arith)

not-escape : {P : Type 0} (b : ℕ) (r s : List ℕ) → within 0x20 0x7E b ≡ true → 0x1B ∷ r ≡ b ∷ s → P
not-escape b r s h e = let q = in_bounds 0x20 0x7E b h in let z : 0x1B ≡ b = cc in absurd (omega arith)

same-pair : {P : Type 0} (l t k u : ℕ) (r s : List ℕ) → good_character (pair l t) ≡ true → good_character (pair k u) ≡ true → first l t ∷ second t ∷ r ≡ first k u ∷ second u ∷ s
    → (l ≡ k → t ≡ u → r ≡ s → P) → P
same-pair l t k u r s h j e f = let q = no-two-pairs l t k u (good-pair l t h) (good-pair k u j) (cc) (cc) in f q.0 q.1 (cc)

shifted-unique : (two : Bool) (cs ds : List Character) → all good_character cs ≡ true → all good_character ds ≡ true → shifted two cs ≡ shifted two ds → cs ≡ ds
unfolding shifted good_character
shifted-unique two [] [] h j e = refl
shifted-unique true [] (one d ∷ ds) h j e = cc
shifted-unique false [] (one d ∷ ds) h j e = cc
shifted-unique true [] (pair k u ∷ ds) h j e = not-shift k u _ _ (all_first good_character (pair k u) ds j).0 e
shifted-unique false [] (pair k u ∷ ds) h j e = cc
shifted-unique true (one c ∷ cs) [] h j e = cc
shifted-unique false (one c ∷ cs) [] h j e = cc
shifted-unique true (pair l t ∷ cs) [] h j e = not-shift l t _ _ (all_first good_character (pair l t) cs h).0 (sym e)
shifted-unique false (pair l t ∷ cs) [] h j e = cc
shifted-unique true (one c ∷ cs) (one d ∷ ds) h j e = cc (shifted-unique false cs ds (all_first good_character (one c) cs h).1 (all_first good_character (one d) ds j).1 (cc))
shifted-unique false (one c ∷ cs) (one d ∷ ds) h j e = cc (shifted-unique false cs ds (all_first good_character (one c) cs h).1 (all_first good_character (one d) ds j).1 (cc))
shifted-unique true (one c ∷ cs) (pair k u ∷ ds) h j e = not-shift k u _ _ (all_first good_character (pair k u) ds j).0 e
shifted-unique false (one c ∷ cs) (pair k u ∷ ds) h j e = not-escape c _ _ (all_first good_character (one c) cs h).0 (sym e)
shifted-unique true (pair l t ∷ cs) (one d ∷ ds) h j e = not-shift l t _ _ (all_first good_character (pair l t) cs h).0 (sym e)
shifted-unique false (pair l t ∷ cs) (one d ∷ ds) h j e = not-escape d _ _ (all_first good_character (one d) ds j).0 e
shifted-unique true (pair l t ∷ cs) (pair k u ∷ ds) h j e =
    let p = all_first good_character (pair l t) cs h in
    let q = all_first good_character (pair k u) ds j in
    same-pair l t k u (shifted true cs) (shifted true ds) p.0 q.0 e (λ a b r. cc (a, b, shifted-unique true cs ds p.1 q.1 r))
shifted-unique false (pair l t ∷ cs) (pair k u ∷ ds) h j e =
    let p = all_first good_character (pair l t) cs h in
    let q = all_first good_character (pair k u) ds j in
    same-pair l t k u (shifted true cs) (shifted true ds) p.0 q.0 (cc) (λ a b r. cc (a, b, shifted-unique true cs ds p.1 q.1 r))

pub no-two-texts : NoTwoTexts
unfolding converted convertible characters waiting
no-two-texts a b h j e = sym (bytes_back none a) ∙ ap bytes_of (shifted-unique false (characters a) (characters b) h j e) ∙ bytes_back none b
