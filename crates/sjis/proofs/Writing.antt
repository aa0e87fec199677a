-- The laws of an item written converted, as far as the buffer reaches. Assumes nothing.
use mathlib.Core.Path.{◌≡◌, refl, sym, ap, ◌∙◌}
use mathlib.Core.Bool.{Bool, true, false, not, ◌&&◌}
use mathlib.Core.List.{List, [], ◌∷◌, ◌++◌, append-nil}
use mathlib.Core.Option.{none}
use Prim.Native.Nat.{ℕ, ◌+◌, ◌≤◌, ◌<◌}
use lib.ListN.{length, get_or, drop}
use Rattle.rules.proofs.Logic.{cases, both, not-true}
use Rattle.rules.proofs.Lists.{over}
use Rattle.csv_rules.specs.Kanji.{first, second, Character, one, pair, characters_at, characters, shifted, converted}
use Rattle.csv_rules.specs.Written.{halved}
use Rattle.reach.specs.Reach.{Adds}
use Rattle.reach.proofs.Laws.{adds_none, adds_then, Writing, starts, goes, done-when}
use Rattle.sjis.specs.Texts.{pair_text, one_text, end_text, pair_at, character_text}
use Rattle.sjis.specs.Items.{is_clear, PastAt, char_at}
use Rattle.sjis.proofs.Laws.{clear-no-pair, clear-past}

-- ---- one character
module _ (at r : ℕ) (x y : List ℕ) (two : Bool) where
  module _ (l t f s : ℕ) (e : f ≡ first l t) (g : s ≡ second t) where
    pub pair-is-put : (k : ℕ) (z : List ℕ) → two ≡ true → Adds at x (f ∷ []) k z → Adds k z (s ∷ []) r y → Adds at x (pair_text two l t) r y
    unfolding pair_text
    pair-is-put k z h p q = rw (h, ← e, ← g) (adds_then p q)

    pub into-is-put : two ≡ false → Adds at x (0x1B ∷ 0x24 ∷ 0x42 ∷ f ∷ s ∷ []) r y → Adds at x (pair_text two l t) r y
    unfolding pair_text
    into-is-put h q = rw (h, ← e, ← g) q

  pub back-is-put : (b : ℕ) → two ≡ true → Adds at x (0x1B ∷ 0x28 ∷ 0x42 ∷ b ∷ []) r y → Adds at x (one_text two b) r y
  unfolding one_text
  back-is-put b h q = rw h q

  pub one-is-put : (b : ℕ) → two ≡ false → Adds at x (b ∷ []) r y → Adds at x (one_text two b) r y
  unfolding one_text
  one-is-put b h q = rw h q

  pub end-is-put : two ≡ true → Adds at x (0x1B ∷ 0x28 ∷ 0x42 ∷ []) r y → Adds at x (end_text two) r y
  unfolding end_text
  end-is-put h q = rw h q

  -- the character at a place
  module _ (s : List ℕ) (i : ℕ) (q : Bool) (e : q ≡ pair_at s i) where
    pub next-pair : (j : ℕ) → q ≡ true → j ≡ i + 1 → Adds at x (pair_text two (get_or s i 0) (get_or s j 0)) r y → Adds at x (character_text two s i) r y
    unfolding character_text
    next-pair j h f a = rw (← e, h, ← f) a

    pub next_one : q ≡ false → Adds at x (one_text two (get_or s i 0)) r y → Adds at x (character_text two s i) r y
    unfolding character_text
    next_one h a = rw (← e, h) a

pub end_none : (at : ℕ) (two : Bool) (x : List ℕ) → at ≤ length x → two ≡ false → Adds at x (end_text two) at x
unfolding end_text
end_none at two x k h = rw h (adds_none at x k)

-- ---- the item
text-pair : (two : Bool) (l t : ℕ) (cs : List Character) → shifted two (pair l t ∷ cs) ≡ pair_text two l t ++ shifted true cs
unfolding shifted pair_text
text-pair true l t cs = refl
text-pair false l t cs = refl

text-one : (two : Bool) (b : ℕ) (cs : List Character) → shifted two (one b ∷ cs) ≡ one_text two b ++ shifted false cs
unfolding shifted one_text
text-one true b cs = refl
text-one false b cs = refl

char-text : (two : Bool) (s : List ℕ) (i : ℕ) (cs : List Character) → shifted two (char_at s i ∷ cs) ≡ character_text two s i ++ shifted (pair_at s i) cs
unfolding char_at character_text
char-text two s i cs =
    cases (pair_at s i) (λ e. rw e (text-pair two (get_or s i 0) (get_or s (i + 1) 0) cs)) (λ e. rw e (text-one two (get_or s i 0) cs))

-- what is left to be written from a place on
abbrev pub left_at : Bool → List ℕ → ℕ → List ℕ
left_at two s i = shifted two (characters_at none (halved false (drop i s)))

pub text-starts : (s old : List ℕ) (at : ℕ) → at ≤ length old → Writing (converted (halved false s)) (left_at false s 0) old old at at
unfolding converted characters
text-starts s old at h = starts (converted (halved false s)) old at h

module _ (s whole old x : List ℕ) (at k i : ℕ) (two : Bool) (p : Writing whole (left_at two s i) old x at k) where
  left_end : length s ≤ i → left_at two s i ≡ end_text two ++ []
  unfolding characters_at shifted end_text halved
  left_end h = rw (over s i h, append-nil)

  pub text-ends : (r : ℕ) (y : List ℕ) → length s ≤ i → Adds k x (end_text two) r y → Adds at old whole r y
  text-ends r y h q = done-when (goes p (end_text two) [] y r (left_end h) q) refl

  pub text-on : (n r : ℕ) (t : Bool) (y : List ℕ) → PastAt s i n → Adds k x (character_text two s i) r y → t ≡ pair_at s i → Writing whole (left_at t s n) old y at r
  text-on n r t y q a e =
      rw e (goes p (character_text two s i) (left_at (pair_at s i) s n) y r (ap (shifted two) q.is ∙ char-text two s i (characters_at none (halved false (drop n s)))) a)

  -- a byte that stands alone and isn't doubled, in one-byte mode
  pub clear-on : (r : ℕ) (q : Bool) (y : List ℕ) → i < length s → q ≡ is_clear (get_or s i 0) → (not two && q) ≡ true → Adds k x (get_or s i 0 ∷ []) r y
      → Writing whole (left_at two s (i + 1)) old y at r
  clear-on r q y h e g a =
      let w = both (not two) q g in
      let c : is_clear (get_or s i 0) ≡ true = sym e ∙ w.1 in
      let n : pair_at s i ≡ false = clear-no-pair s i c in
      text-on (i + 1) r two y (clear-past s i c h) (next_one k r x y two s i false (sym n) refl (one-is-put k r x y two (get_or s i 0) (not-true two w.0) a))
      (not-true two w.0 ∙ sym n)
