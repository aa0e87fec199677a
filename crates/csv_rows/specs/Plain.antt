-- Items that are seen to convert while their end is looked for: those of bytes that each stand alone and aren't doubled, or of none.
use Rattle.std.specs.Prelude.{◌≡◌, Bool, true, false, ◌&&◌, List, [], ◌∷◌, ℕ, suc, ◌+◌, eqb, get_or}
use Rattle.csv_rules.specs.Kanji.{convertible}
use Rattle.csv_rules.specs.Written.{halved}
use Rattle.sjis.specs.Items.{is_clear}

-- how many such bytes stand first
unfoldable pub plain_at : List ℕ → ℕ
plain_at [] = 0
plain_at (b ∷ s) = elim (is_clear b) [ true ↦ suc (plain_at s) | false ↦ 0 ]

-- a quote and a comma stand at p
unfoldable pub comma_at : List ℕ → ℕ → Bool
comma_at f p = eqb (get_or f p 0) 0x22 && eqb (get_or f (p + 1) 0) 0x2C

-- an item that is told plain converts
pub record PlainItem (w : List ℕ) (plain : Bool) : Type 0 where
  pub converts : plain ≡ true → convertible (halved false w) ≡ true
