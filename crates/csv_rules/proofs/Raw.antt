-- Keys by the bytes of the file: a key's value is the converted text of a raw value, so the code may cut, compare and look up codes before it converts.
-- Assumes nothing.
use mathlib.Core.Path.{◌≡◌, refl, sym, ap, ◌∙◌}
use mathlib.Core.Bool.{Bool, true, false, not, ◌&&◌, ◌||◌}
use mathlib.Core.List.{List, [], ◌∷◌, ◌++◌, map}
use mathlib.Core.Option.{Option, none, some}
use Prim.Native.Nat.{ℕ, zero, suc, ◌-◌, ◌≤◌}
use Prim.Native.String.{String}
use native.Mathlib.Omega.{arith}
use borrow.Author.Tests.{eqb-true, lt-leb, le-leb, ne_eqb}
use lib.Dec.{eqb, leb}
use lib.ListN.{length, drop, replicate, drop_of_length-le}
use Rattle.rules.specs.declared.Name.{Name}
use Rattle.rules.specs.declared.Name.TheVariants.{Msh, Pid, Pv1, Spm, Obr, Orc, Obx, Other}
use Rattle.rules.specs.Lists.{bytes, empty, filled, nth, same, all, split, onto}
use Rattle.rules.specs.Shift.{within}
use Rattle.rules.specs.Frame.{digit}
use Rattle.rules.specs.Value.{numeric, point, unsigned, spelled, holds, too_long, fault, fits}
use Rattle.rules.proofs.Logic.{cases, both, either, never, and-false, or-true, not-true}
use Rattle.rules.proofs.Lists.{same-eq, same_self, empty-is, all_first, all_cons, all-each}
use Rattle.csv_rules.specs.Kanji.{lead, trail, first, second, is_pair, Character, one, pair, characters_at, characters, good_character, convertible, into, back, shifted, converted}
use Rattle.csv_rules.specs.Quote.{Items}
use Rattle.csv_rules.specs.Columns.{How, text, up_to_blank, past_blank, fifteen, blank, coded, typed, family_of, given_of, fifteen_of, meaning_of, type_of, text_at, value_by, Entry, columns, keys}
use Rattle.csv_rules.specs.Sheets.{same_texts, agree}
use Rattle.csv_rules.specs.Raw.{raw_by, raw_keys, raw_agree}
use Rattle.csv_rules.proofs.Pairs.{every-pair}
use Rattle.csv_rules.proofs.Texts.{in_bounds, good-pair, bytes_of, waiting, bytes_back, no-two-texts}
use Rattle.csv_rules.proofs.Order.{all-parts}

-- ---- texts are compared as they stand
pub same-converted : (a b : List ℕ) → convertible a ≡ true → convertible b ≡ true → same (converted a) (converted b) ≡ same a b
same-converted a b h k =
    cases (same a b) (λ e. rw (same-eq a b e, same_self b, same_self (converted b)))
    (λ e.
    cases (same (converted a) (converted b))
    (λ f. never (sym (same_self b) ∙ ap (λ (x : List ℕ). same x b) (sym (no-two-texts a b h k (same-eq (converted a) (converted b) f))) ∙ e))
    (λ f. f ∙ sym e))

-- ---- up to the first blank, of characters and of bytes
unfoldable up_to : List ℕ → List ℕ
up_to [] = []
up_to (b ∷ s) = elim (eqb b 0x20) [ true ↦ [] | false ↦ b ∷ up_to s ]

family-is : (s : List ℕ) → family_of s ≡ up_to s
unfolding family_of split onto up_to
family-is [] = refl
family-is (b ∷ s) =
    cases (eqb b 0x20) (λ e. rw (e, split, up_to))
    (λ e. rw (e, split, up_to) (first-onto b (split 0x20 s) ∙ ap (λ (x : List ℕ). b ∷ x) (family-is s)))
  where
    first-onto : (x : ℕ) (ps : List (List ℕ)) → nth (onto x ps) 0 ≡ x ∷ nth ps 0
    first-onto x [] = refl
    first-onto x (p ∷ ps) = refl

-- ---- a blank: what stands before it and after it is converted by itself
plain-blank : (l : ℕ) → is_pair l 0x20 ≡ false
unfolding is_pair
plain-blank l = and-false (lead l)

characters-at : (o : Option ℕ) (a b : List ℕ) → all good_character (characters_at o (a ++ (0x20 ∷ b))) ≡ true
    → characters_at o (a ++ (0x20 ∷ b)) ≡ characters_at o a ++ (one 0x20 ∷ characters b)
unfolding characters_at characters good_character
characters-at none [] b h = refl
characters-at (some l) [] b h = never (sym (good-pair l 0x20 (all_first good_character (pair l 0x20) (characters b) h).0) ∙ plain-blank l)
characters-at none (x ∷ a) b h =
    cases (lead x)
    (λ e. rw (e, characters_at) (characters-at (some x) a b (rw (e, characters_at) at h)))
    (λ e.
    let g : all good_character (one x ∷ characters_at none (a ++ (0x20 ∷ b))) ≡ true = rw (e, characters_at) at h in
    rw (e, characters_at) (ap (λ (r : List Character). one x ∷ r) (characters-at none a b (all_first good_character (one x) (characters_at none (a ++ (0x20 ∷ b))) g).1)))
characters-at (some l) (t ∷ a) b h =
    ap (λ (r : List Character). pair l t ∷ r) (characters-at none a b (all_first good_character (pair l t) (characters_at none (a ++ (0x20 ∷ b))) h).1)

shifted_at : (two : Bool) (cs ds : List Character) → shifted two (cs ++ (one 0x20 ∷ ds)) ≡ shifted two cs ++ (0x20 ∷ shifted false ds)
unfolding shifted
shifted_at two [] ds = refl
shifted_at true (one b ∷ cs) ds = ap (λ (r : List ℕ). back ++ (b ∷ r)) (shifted_at false cs ds)
shifted_at false (one b ∷ cs) ds = ap (λ (r : List ℕ). b ∷ r) (shifted_at false cs ds)
shifted_at true (pair l t ∷ cs) ds = ap (λ (r : List ℕ). first l t ∷ second t ∷ r) (shifted_at true cs ds)
shifted_at false (pair l t ∷ cs) ds = ap (λ (r : List ℕ). into ++ (first l t ∷ second t ∷ r)) (shifted_at true cs ds)

record Parted (a b : List ℕ) : Type 0 where
  left : convertible a ≡ true
  right : convertible b ≡ true
  is : converted (a ++ (0x20 ∷ b)) ≡ converted a ++ (0x20 ∷ converted b)

parted : (a b : List ℕ) → convertible (a ++ (0x20 ∷ b)) ≡ true → Parted a b
unfolding convertible converted characters
parted a b h =
    let e = characters-at none a b h in
    let p = all-parts good_character (characters a) (one 0x20 ∷ characters b) (rw e at h) in
    record {
      left = p.0;
      right = (all_first good_character (one 0x20) (characters b) p.1).1;
      is = ap (shifted false) e ∙ shifted_at false (characters a) (characters b);
    }

-- ---- no blank comes up
abbrev solid : ℕ → Bool
solid b = not (eqb b 0x20)

solid-from : (b : ℕ) → 0x21 ≤ b → solid b ≡ true
solid-from b h = ap not (ne_eqb b 0x20 (omega arith))

pair-solid : (l t : ℕ) (s : List ℕ) → good_character (pair l t) ≡ true → all solid s ≡ true → all solid (first l t ∷ second t ∷ s) ≡ true
pair-solid l t s h k =
    let q = every-pair l t (good-pair l t h) in
    let a = in_bounds 0x21 0x7E (first l t) q.0 in
    let b = in_bounds 0x21 0x7E (second t) q.1 in
    rw (all_cons solid (first l t) (second t ∷ s), all_cons solid (second t) s, solid-from (first l t) a.0, solid-from (second t) b.0, k)

shifted-solid : (two : Bool) (cs : List Character) → all good_character cs ≡ true → all solid (bytes_of cs) ≡ true → all solid (shifted two cs) ≡ true
unfolding shifted bytes_of all
shifted-solid true [] h k = refl
shifted-solid false [] h k = refl
shifted-solid true (one b ∷ cs) h k =
    let q = all_first solid b (bytes_of cs) k in
    rw (q.0, all) (shifted-solid false cs (all_first good_character (one b) cs h).1 q.1)
shifted-solid false (one b ∷ cs) h k =
    let q = all_first solid b (bytes_of cs) k in
    rw (q.0, all) (shifted-solid false cs (all_first good_character (one b) cs h).1 q.1)
shifted-solid true (pair l t ∷ cs) h k = pair-solid l t (shifted true cs) (all_first good_character (pair l t) cs h).0 (shifted-solid true cs (all_first good_character (pair l t) cs h).1 (all_first solid t (bytes_of cs) (all_first solid l (t ∷ bytes_of cs) k).1).1)
shifted-solid false (pair l t ∷ cs) h k = pair-solid l t (shifted true cs) (all_first good_character (pair l t) cs h).0 (shifted-solid true cs (all_first good_character (pair l t) cs h).1 (all_first solid t (bytes_of cs) (all_first solid l (t ∷ bytes_of cs) k).1).1)

converted-solid : (s : List ℕ) → convertible s ≡ true → all solid s ≡ true → all solid (converted s) ≡ true
unfolding convertible converted characters waiting
converted-solid s h k = shifted-solid false (characters s) h (rw (bytes_back none s) k)

-- ---- names
-- a text has no blank, or is cut at its first
blank_cases : {P : Type 0} (s : List ℕ) → (all solid s ≡ true → P) → ((a b : List ℕ) → all solid a ≡ true → s ≡ a ++ (0x20 ∷ b) → P) → P
unfolding all
blank_cases [] f g = f refl
blank_cases (x ∷ s) f g =
    cases (eqb x 0x20) (λ e. g [] s refl (ap (λ (y : ℕ). y ∷ s) (eqb-true x 0x20 e)))
    (λ e. blank_cases s (λ h. f (rw (e, all) h)) (λ a b h k. g (x ∷ a) b (rw (e, all) h) (ap (λ (r : List ℕ). x ∷ r) k)))

up-to-end : (s : List ℕ) → all solid s ≡ true → up_to s ≡ s
unfolding up_to
up-to-end [] h = refl
up-to-end (x ∷ s) h =
    let q = all_first solid x s h in
    rw (not-true (eqb x 0x20) q.0, up_to) (ap (λ (r : List ℕ). x ∷ r) (up-to-end s q.1))

up-to-blank : (a b : List ℕ) → all solid a ≡ true → up_to (a ++ (0x20 ∷ b)) ≡ a
unfolding up_to
up-to-blank [] b h = refl
up-to-blank (x ∷ a) b h =
    let q = all_first solid x a h in
    rw (not-true (eqb x 0x20) q.0, up_to) (ap (λ (r : List ℕ). x ∷ r) (up-to-blank a b q.1))

past-blank : (a b : List ℕ) → drop (suc (length a)) (a ++ (0x20 ∷ b)) ≡ b
past-blank [] b = refl
past-blank (x ∷ a) b = past-blank a b

-- the halves of a name that has a blank, and of one that has none
record Halves (s f g : List ℕ) : Type 0 where
  family : family_of s ≡ f
  given : given_of s ≡ g

halves-at : (a b : List ℕ) → all solid a ≡ true → Halves (a ++ (0x20 ∷ b)) a b
unfolding given_of
halves-at a b h =
    let e = family-is (a ++ (0x20 ∷ b)) ∙ up-to-blank a b h in
    record { family = e; given = ap (λ (f : List ℕ). drop (suc (length f)) (a ++ (0x20 ∷ b))) e ∙ past-blank a b }

halves-none : (s : List ℕ) → all solid s ≡ true → Halves s s []
unfolding given_of
halves-none s h =
    let e = family-is s ∙ up-to-end s h in
    record { family = e; given = ap (λ (f : List ℕ). drop (suc (length f)) s) e ∙ drop_of_length-le s {i = suc (length s)} (omega arith) }

-- a raw value and what it becomes
pub record Becomes (raw value : List ℕ) : Type 0 where
  pub good : convertible raw ≡ true
  pub is : value ≡ converted raw

nothing-becomes : Becomes [] []
unfolding convertible converted characters characters_at shifted all
nothing-becomes = record { good = refl; is = refl }

pub halves-become : (s : List ℕ) → convertible s ≡ true → Becomes (family_of s) (family_of (converted s)) × Becomes (given_of s) (given_of (converted s))
halves-become s h =
    blank_cases s
    (λ k.
    let r = halves-none s k in
    let c = halves-none (converted s) (converted-solid s h k) in
    (rw (r.family, c.family) (record { good = h; is = refl }), rw (r.given, c.given) nothing-becomes))
    (λ a b k e.
    let p = parted a b (rw e at h) in
    let r = halves-at a b k in
    let c = halves-at (converted a) (converted b) (converted-solid a p.left k) in
    rw (e, p.is, r.family, r.given, c.family, c.given) (record { good = p.left; is = refl }, record { good = p.right; is = refl }))

-- ---- plain texts stay as they are
abbrev plain : ℕ → Bool
plain b = within 0x20 0x7E b

not-lead : (b : ℕ) → b ≤ 0x7E → lead b ≡ false
not-lead b h = rw (lt-leb 0x81 b (omega arith), lt-leb 0xE0 b (omega arith))

plain-characters : (s : List ℕ) → all plain s ≡ true → (all good_character (characters_at none s) ≡ true) × (shifted false (characters_at none s) ≡ s)
unfolding characters_at all good_character shifted
plain-characters [] h = (refl, refl)
plain-characters (b ∷ s) h =
    let q = all_first plain b s h in
    let r = plain-characters s q.1 in
    let l = not-lead b (in_bounds 0x20 0x7E b q.0).1 in
    (rw (l, characters_at, q.0, all) r.0, rw (l, characters_at) (ap (λ (x : List ℕ). b ∷ x) r.1))

plain-becomes : (s : List ℕ) → all plain s ≡ true → Becomes s s
unfolding convertible converted characters
plain-becomes s h = let r = plain-characters s h in record { good = r.0; is = sym r.1 }

-- ---- a text without a pair stays as it is; one with a pair is none of digits, in the file and converted
unfoldable single : Character → Bool
single (one b) = true
single (pair l t) = false

all-single : (cs : List Character) → all single cs ≡ true → shifted false cs ≡ bytes_of cs
unfolding single all shifted bytes_of
all-single [] h = refl
all-single (one b ∷ cs) h = ap (λ (x : List ℕ). b ∷ x) (all-single cs h)
all-single (pair l t ∷ cs) h = never (sym h)

-- a test that no pair passes
record Alone (p : ℕ → Bool) : Type 0 where
  escape : p 0x1B ≡ false
  leads : (l : ℕ) → lead l ≡ true → p l ≡ false

some_pair : (p : ℕ → Bool) → Alone p → (cs : List Character) → all good_character cs ≡ true → all single cs ≡ false
    → (all p (bytes_of cs) ≡ false) × (all p (shifted false cs) ≡ false)
unfolding single all shifted bytes_of good_character is_pair
some_pair p A [] h k = never k
some_pair p A (one b ∷ cs) h k =
    let r = some_pair p A cs (all_first good_character (one b) cs h).1 k in
    (rw (all_cons p b (bytes_of cs), r.0) (and-false (p b)), rw (all_cons p b (shifted false cs), r.1) (and-false (p b)))
some_pair p A (pair l t ∷ cs) h k =
    let q = both (lead l) (trail t) (good-pair l t (all_first good_character (pair l t) cs h).0) in
    (rw (A.leads l q.0), rw A.escape)

pair_cases : {P : Type 0} (s : List ℕ) → convertible s ≡ true → (converted s ≡ s → P)
    → (((p : ℕ → Bool) → Alone p → (all p s ≡ false) × (all p (converted s) ≡ false)) → P) → P
unfolding convertible converted characters waiting
pair_cases s h f g =
    cases (all single (characters s)) (λ e. f (all-single (characters s) e ∙ bytes_back none s))
    (λ e. g (λ p A. let r = some_pair p A (characters s) h e in (rw (bytes_back none s) at r.0, r.1)))

-- ---- codes
unfoldable pub plain_codes : List (String × String) → Bool
plain_codes [] = true
plain_codes (c ∷ cs) = (all plain (bytes c.0) && all plain (bytes c.1)) && plain_codes cs

same-plain : (v w : List ℕ) → convertible v ≡ true → all plain w ≡ true → same (converted v) w ≡ same v w
same-plain v w h k = let b = plain-becomes w k in ap (same (converted v)) b.is ∙ same-converted v w h b.good

meaning-becomes : (cs : List (String × String)) (v : List ℕ) → plain_codes cs ≡ true → convertible v ≡ true → Becomes (meaning_of cs v) (meaning_of cs (converted v))
unfolding meaning_of plain_codes
meaning-becomes [] v k h = record { good = h; is = refl }
meaning-becomes (c ∷ cs) v k h =
    let q = both (all plain (bytes c.0) && all plain (bytes c.1)) (plain_codes cs) k in
    let r = both (all plain (bytes c.0)) (all plain (bytes c.1)) q.0 in
    let e = same-plain v (bytes c.0) h r.0 in
    cases (same v (bytes c.0))
    (λ t. rw (meaning_of, e, t) (plain-becomes (bytes c.1) r.1))
    (λ t. rw (meaning_of, e, t) (meaning-becomes cs v q.1 h))

-- ---- fifteen digits
digit-plain : (b : ℕ) → digit b ≡ true → plain b ≡ true
digit-plain b h = let q = in_bounds 48 57 b h in rw (le-leb 0x20 b (omega (arith, q.0)), le-leb b 0x7E (omega (arith, q.1)))

digits-alone : Alone digit
digits-alone = record { escape = refl; leads = λ l h. either (within 0x81 0x9F l) (within 0xE0 0xEF l) h (λ w. far l (in_bounds 0x81 0x9F l w).0) (λ w. far l (omega (arith, (in_bounds 0xE0 0xEF l w).0))) }
  where
    far : (l : ℕ) → 0x81 ≤ l → digit l ≡ false
    far l h = ap (λ t. leb 48 l && t) (lt-leb l 57 (omega arith)) ∙ and-false (leb 48 l)

zeros-plain : (n : ℕ) (s : List ℕ) → all plain s ≡ true → all plain (replicate n 48 ++ s) ≡ true
unfolding all
zeros-plain zero s h = h
zeros-plain (suc n) s h = zeros-plain n s h

fifteen-plain : (v : List ℕ) → all plain v ≡ true → all plain (fifteen_of v) ≡ true
unfolding fifteen_of
fifteen-plain v h =
    cases (filled v && (leb (length v) 15 && all digit v)) (λ e. rw e (zeros-plain (15 - length v) v h)) (λ e. rw e h)

not-fifteen : (v : List ℕ) → all digit v ≡ false → fifteen_of v ≡ v
unfolding fifteen_of
not-fifteen v h = rw (h, and-false (leb (length v) 15), and-false (filled v))

fifteen-becomes : (v : List ℕ) → convertible v ≡ true → Becomes (fifteen_of v) (fifteen_of (converted v))
fifteen-becomes v h =
    pair_cases v h
    (λ e.
    rw e (cases (all digit v)
    (λ d. plain-becomes (fifteen_of v) (fifteen-plain v (all-each digit plain digit-plain v d)))
    (λ d. rw (not-fifteen v d) (record { good = h; is = sym e }))))
    (λ f. let q = f digit digits-alone in rw (not-fifteen v q.0, not-fifteen (converted v) q.1) (record { good = h; is = refl }))

-- ---- the type
-- the bytes of a number and its sign
abbrev pub spelling : ℕ → Bool
spelling b = (eqb b 43 || eqb b 45) || (digit b || point b)

spelling-alone : Alone spelling
spelling-alone = record { escape = refl; leads = λ l h. either (within 0x81 0x9F l) (within 0xE0 0xEF l) h (λ w. far l (in_bounds 0x81 0x9F l w).0) (λ w. far l (omega (arith, (in_bounds 0xE0 0xEF l w).0))) }
  where
    far : (l : ℕ) → 0x81 ≤ l → spelling l ≡ false
    far l h = rw (ne_eqb l 43 (omega arith), ne_eqb l 45 (omega arith), ne_eqb l 46 (omega arith), lt-leb l 57 (omega arith), and-false (leb 48 l))

signed-spelling : (s : List ℕ) → all (λ (b : ℕ). digit b || point b) (unsigned s) ≡ true → all spelling s ≡ true
unfolding unsigned all
signed-spelling [] h = h
signed-spelling (b ∷ s) h =
    let p : ℕ → Bool = λ b. digit b || point b in
    let q : (b : ℕ) → p b ≡ true → spelling b ≡ true = λ b e. ap (λ t. (eqb b 43 || eqb b 45) || t) e ∙ or-true (eqb b 43 || eqb b 45) in
    cases (eqb b 43 || eqb b 45)
    (λ e. let g : all p s ≡ true = rw e at h in rw (all_cons spelling b s, e) (all-each p spelling q s g))
    (λ e. let g : all p (b ∷ s) ≡ true = rw e at h in all-each p spelling q (b ∷ s) g)

pub not-number : (s : List ℕ) → all spelling s ≡ false → fits true numeric s ≡ false
unfolding fault holds spelled
not-number s h =
    let p : ℕ → Bool = λ b. digit b || point b in
    let e : all p (unsigned s) ≡ false = cases (all p (unsigned s)) (λ t. never (sym (signed-spelling s t) ∙ h)) (λ t. t) in
    rw e (cases (empty s) (λ t. rw t) (λ t. cases (too_long numeric s) (λ u. rw (t, u)) (λ u. rw (t, u))))

number_same : (v : List ℕ) → convertible v ≡ true → fits true numeric (converted v) ≡ fits true numeric v
number_same v h =
    pair_cases v h (λ e. ap (fits true numeric) e)
    (λ f. let q = f spelling spelling-alone in not-number (converted v) q.1 ∙ sym (not-number v q.0))

empty-same : (v : List ℕ) → convertible v ≡ true → empty (converted v) ≡ empty v
unfolding empty
empty-same [] h = ap empty (sym nothing-becomes.is)
empty-same (b ∷ s) h =
    cases (empty (converted (b ∷ s)))
    (λ e. let z = no-two-texts (b ∷ s) [] h nothing-becomes.good (empty-is (converted (b ∷ s)) e ∙ nothing-becomes.is) in never (sym (ap empty z)))
    (λ e. e)

type-becomes : (v f : List ℕ) → convertible v ≡ true → convertible f ≡ true → Becomes (type_of v f) (type_of (converted v) (converted f))
unfolding type_of bytes all
type-becomes v f h k =
    rw (empty-same f k, same-plain f (bytes "B") k refl, number_same v h)
    (cases (empty f || same f (bytes "B"))
    (λ e. rw e (cases (fits true numeric v) (λ n. rw n (plain-becomes (bytes "NM") refl)) (λ n. rw n (plain-becomes (bytes "ST") refl))))
    (λ e. rw e (plain-becomes (bytes "SN") refl)))

-- ---- a key's value is the converted text of its raw value
unfoldable pub plain_how : How → Bool
plain_how text = true
plain_how up_to_blank = true
plain_how past_blank = true
plain_how fifteen = true
plain_how blank = true
plain_how (coded cs) = plain_codes cs
plain_how (typed v) = true

item-converts : (row : Items) (n : ℕ) → all convertible row ≡ true → convertible (nth row n) ≡ true
item-converts [] n h = nothing-becomes.good
item-converts (i ∷ row) zero h = (all_first convertible i row h).0
item-converts (i ∷ row) (suc n) h = item-converts row n (all_first convertible i row h).1

pub value-becomes : (how : How) (row : Items) (n : ℕ) → plain_how how ≡ true → all convertible row ≡ true → Becomes (raw_by how row n) (value_by how row n)
unfolding raw_by value_by text_at plain_how
value-becomes text row n p h = record { good = item-converts row (n - 1) h; is = refl }
value-becomes up_to_blank row n p h = (halves-become (nth row (n - 1)) (item-converts row (n - 1) h)).0
value-becomes past_blank row n p h = (halves-become (nth row (n - 1)) (item-converts row (n - 1) h)).1
value-becomes fifteen row n p h = fifteen-becomes (nth row (n - 1)) (item-converts row (n - 1) h)
value-becomes blank row n p h = nothing-becomes
value-becomes (coded cs) row n p h = meaning-becomes cs (nth row (n - 1)) p (item-converts row (n - 1) h)
value-becomes (typed v) row n p h = type-becomes (nth row (v - 1)) (nth row (n - 1)) (item-converts row (v - 1) h) (item-converts row (n - 1) h)

all_plain : (g : Name) → all (λ (e : Entry). plain_how e.how) (columns g) ≡ true
unfolding all columns plain_how plain_codes bytes
all_plain Msh = refl
all_plain Pid = refl
all_plain Pv1 = refl
all_plain Spm = refl
all_plain Obr = refl
all_plain Orc = refl
all_plain Obx = refl
all_plain Other = refl

entries-become : (es : List Entry) (row : Items) → all (λ (e : Entry). plain_how e.how) es ≡ true → all convertible row ≡ true
    → (map (λ (e : Entry). value_by e.how row e.column) es ≡ map converted (map (λ (e : Entry). raw_by e.how row e.column) es))
    × (all convertible (map (λ (e : Entry). raw_by e.how row e.column) es) ≡ true)
unfolding all
entries-become [] row p h = (refl, refl)
entries-become (e ∷ es) row p h =
    let q = all_first (λ (e : Entry). plain_how e.how) e es p in
    let b = value-becomes e.how row e.column q.0 h in
    let r = entries-become es row q.1 h in
    (cc (b.is, r.0), rw (all_cons convertible (raw_by e.how row e.column) (map (λ (e : Entry). raw_by e.how row e.column) es), b.good) r.1)

pub keys-become : (g : Name) (row : Items) → all convertible row ≡ true → (keys g row ≡ map converted (raw_keys g row)) × (all convertible (raw_keys g row) ≡ true)
unfolding keys raw_keys
keys-become g row h = entries-become (columns g) row (all_plain g) h

-- so keys are compared raw
same-raw : (vs ws : List (List ℕ)) → all convertible vs ≡ true → all convertible ws ≡ true → same_texts (map converted vs) (map converted ws) ≡ same_texts vs ws
unfolding same_texts
same-raw [] [] h k = refl
same-raw [] (w ∷ ws) h k = refl
same-raw (v ∷ vs) [] h k = refl
same-raw (v ∷ vs) (w ∷ ws) h k =
    let p = all_first convertible v vs h in
    let q = all_first convertible w ws k in
    rw (same-converted v w p.0 q.0, same-raw vs ws p.1 q.1)

pub agree-raw : (g : Name) (r q : Items) → all convertible r ≡ true → all convertible q ≡ true → agree g r q ≡ raw_agree g r q
agree-raw g r q h k =
    let a = keys-become g r h in
    let b = keys-become g q k in
    rw (a.0, b.0) (same-raw (raw_keys g r) (raw_keys g q) a.1 b.1)
