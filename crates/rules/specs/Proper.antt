-- What the header rule (11) says of five delimiters, fact by fact, as those calls require it that run behind that rule.
-- Each fact follows from `delims_ok`: proofs/Header, `proper`.
use Rattle.std.specs.Prelude.{◌≡◌, true, false, ℕ, eqb}
use Rattle.rules.specs.declared.Delims.{Delims}
use Rattle.rules.specs.Lists.{has}
use Rattle.rules.specs.Frame.{twelve}

abbrev pub Delim : ℕ → Type 0
Delim x = has x twelve ≡ true

pub record Proper (d : Delims) : Type 0 where
  pub field : Delim d.field
  pub component : Delim d.component
  pub repetition : Delim d.repetition
  pub escape : Delim d.escape
  pub sub : Delim d.sub
  pub component-field : eqb d.component d.field ≡ false
  pub repetition-field : eqb d.repetition d.field ≡ false
  pub escape-field : eqb d.escape d.field ≡ false
  pub sub-field : eqb d.sub d.field ≡ false
  pub component-repetition : eqb d.component d.repetition ≡ false
  pub escape-component : eqb d.escape d.component ≡ false
  pub escape-repetition : eqb d.escape d.repetition ≡ false
  pub sub-component : eqb d.sub d.component ≡ false
  pub sub-repetition : eqb d.sub d.repetition ≡ false
  pub sub-escape : eqb d.sub d.escape ≡ false
