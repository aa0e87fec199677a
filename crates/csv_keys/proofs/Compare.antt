-- The laws of a walk over two keys. Assumes nothing.
use mathlib.Core.Path.{◌≡◌, refl, sym, ap, ◌∙◌}
use mathlib.Core.Bool.{Bool, true, false, not}
use mathlib.Core.List.{List, [], ◌∷◌}
use Prim.Native.Nat.{ℕ, ◌-◌, ◌≤◌, ◌<◌}
use native.Mathlib.Omega.{arith}
use borrow.Author.Tests.{eq-eqb, ne_eqb, not-true, not-false}
use lib.ListN.{length, get_or, take, drop, length-drop}
use Rattle.std.specs.Prelude.{is_some, MatchOption}
use Rattle.std.specs.declared.option.Option.{Option}
use Rattle.std.specs.declared.option.Option.TheVariants.{None, Some}
use Rattle.rules.specs.Lists.{empty, same}
use Rattle.rules.proofs.Logic.{never}
use Rattle.rules.proofs.Lists.{rest-is}
use Rattle.csv_rules.specs.Written.{halved}
use Rattle.csv_keys.specs.declared.First.{First}
use Rattle.csv_keys.specs.Keys.{raw_value}
use Rattle.csv_keys.specs.Ways.{NextOrBlank, FirstIs}

-- ---- a key's first byte
pub first-lead : (lead raw : List ℕ) → 0 < length lead → FirstIs lead raw (get_or lead 0 0) (take (length lead - 1) (drop 1 lead)) raw
unfolding raw_value
first-lead [] raw h = absurd (omega arith)
first-lead (b ∷ s) raw h =
    let e = rest-is (b ∷ s) 1 in
    record { is = rw e; less = omega (arith, ap (length {A = ℕ}) e) }

pub first-raw : (lead raw : List ℕ) (r : ℕ) → length lead ≤ 0 → 0 < length raw → NextOrBlank raw 0 r
    → FirstIs lead raw (get_or raw 0 0) lead (take (length raw - r) (drop r raw))
unfolding raw_value
first-raw [] raw r n h p =
    let e = rest-is raw r in
    record { is = rw e p.is; less = omega (arith, ap (length {A = ℕ}) e, length-drop r raw, p.low) }
first-raw (b ∷ s) raw r n h p = absurd (omega arith)

pub first-none : (lead raw : List ℕ) → length lead ≤ 0 → length raw ≡ 0 → raw_value lead raw ≡ []
unfolding raw_value halved
first-none [] [] n h = refl
first-none [] (b ∷ s) n h = absurd (omega arith)
first-none (b ∷ s) raw n h = absurd (omega arith)

-- two texts of which one is empty
same_more : (s : List ℕ) → empty s ≡ false → same s [] ≡ false
unfolding same empty
same_more [] h = never h
same_more (b ∷ s) h = refl

same-less : (s : List ℕ) → empty s ≡ false → same [] s ≡ false
unfolding same empty
same-less [] h = never h
same-less (b ∷ s) h = refl

same_byte : (x y : ℕ) (s t : List ℕ) → x ≡ y → same (x ∷ s) (y ∷ t) ≡ same s t
unfolding same
same_byte x y s t e = rw (eq-eqb x y e, same)

same-other : (x y : ℕ) (s t : List ℕ) → (x ≡ y → ⊥) → same (x ∷ s) (y ∷ t) ≡ false
unfolding same
same-other x y s t e = rw (ne_eqb x y e, same)

same_none : same [] [] ≡ true
unfolding same
same_none = refl

-- the walk: the first bytes of what is left of both
module _ (a b x y : List ℕ) (inv : same a b ≡ same x y) where
  pub keys-less : (p : ℕ) (s : List ℕ) → x ≡ p ∷ s → y ≡ [] → false ≡ same a b
  unfolding empty
  keys-less p s e g = sym (inv ∙ rw (e, g) (same_more (p ∷ s) refl))

  module _ (p q : ℕ) (s t : List ℕ) (e : x ≡ p ∷ s) (g : y ≡ q ∷ t) where
    pub keys-differ : (p ≡ q → ⊥) → false ≡ same a b
    keys-differ n = sym (inv ∙ rw (e, g) (same-other p q s t n))

    pub keys_on : p ≡ q → same a b ≡ same s t
    keys_on n = inv ∙ rw (e, g) (same_byte p q s t n)

  pub keys-end : (o : Option First) (ly ry : List ℕ) (t : Bool) → y ≡ raw_value ly ry → x ≡ [] → MatchOption o (y ≡ []) (λ r. FirstIs ly ry r.byte r.rest.lead.now r.rest.raw.now) → is_some o ≡ not t → t ≡ same a b
  unfolding empty
  keys-end None ly ry t n e m h = not-false t (sym h) ∙ sym (inv ∙ rw (e, m) same_none)
  keys-end (Some r) ly ry t n e m h = not-true t (sym h) ∙ sym (inv ∙ rw (e, n ∙ m.is) (same-less (r.byte ∷ raw_value r.rest.lead.now r.rest.raw.now) refl))
