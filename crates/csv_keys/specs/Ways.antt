-- How the code finds, looks up and compares keys: the words of its inner contracts.
use Rattle.std.specs.Prelude.{◌≡◌, Bool, true, false, cond, not, ◌&&◌, List, [], ◌∷◌, ℕ, suc, ◌+◌, ◌≤◌, ◌<◌, eqb, leb, length, drop, get_or}
use Rattle.std.specs.Borrow.{Bor}
use Rattle.rules.specs.Lists.{same, all}
use Rattle.rules.specs.Shift.{within}
use Rattle.csv_rules.specs.Written.{halved}
use Rattle.csv_keys.specs.declared.How.{How}
use Rattle.csv_keys.specs.declared.How.TheVariants.{Text, UpToBlank, PastBlank, Fifteen, Sex, Class, Form, ValueType}
use Rattle.csv_keys.specs.Keys.{raw_value}

-- how many bytes stand before an item's first blank, quotes doubled: all where there is none; true: a quote has just been read
unfoldable pub blank_at : Bool → List ℕ → ℕ
blank_at false [] = 0
blank_at true [] = 0
blank_at false (b ∷ s) = elim (eqb b 0x20) [ true ↦ 0 | false ↦ suc (blank_at (eqb b 0x22) s) ]
blank_at true (b ∷ s) = suc (blank_at false s)

-- ---- a table of codes: each code and its meaning
-- what v means by it; what is no code stays
unfoldable pub meaning_in : List (Bor (List ℕ) × Bor (List ℕ)) → List ℕ → List ℕ
meaning_in [] v = v
meaning_in (c ∷ cs) v = elim (same v c.0.now) [ true ↦ c.1.now | false ↦ meaning_in cs v ]

-- a code without a quote; a meaning of bytes that each stand alone, at most fifteen
abbrev pub unquoted : ℕ → Bool
unquoted b = not (eqb b 0x22)

abbrev pub is_plain : Bor (List ℕ) × Bor (List ℕ) → Bool
is_plain c = all unquoted c.0.now && (all (λ (b : ℕ). within 0x20 0x7E b) c.1.now && leb (length c.1.now) 15)

-- ---- keys that their column alone feeds
abbrev pub by_column : How → Bool
by_column Text = true
by_column UpToBlank = true
by_column PastBlank = true
by_column Fifteen = true
by_column Sex = true
by_column Class = true
by_column Form = true
by_column ValueType = false

-- r is the place behind the byte at i
pub record NextOrBlank (s : List ℕ) (i r : ℕ) : Type 0 where
  pub low : i < r
  pub high : r ≤ length s
  pub is : halved false (drop i s) ≡ get_or s i 0 ∷ halved false (drop r s)
  pub blank : i + blank_at false (drop i s) ≡ cond (eqb (get_or s i 0) 0x20) i (r + blank_at false (drop r s))

-- the first byte of a key, and what is left of the key
pub record FirstIs (lead raw : List ℕ) (byte : ℕ) (lead₁ raw₁ : List ℕ) : Type 0 where
  pub is : raw_value lead raw ≡ byte ∷ raw_value lead₁ raw₁
  pub less : length lead₁ + length raw₁ < length lead + length raw
