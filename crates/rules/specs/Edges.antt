-- "Edges", those marked * and some beside them: one table under one statement, over the rules themselves.
use Rattle.std.specs.Prelude.{◌≡◌, refl, true, List, [], ◌∷◌, ℕ}
use Rattle.std.proofs.Math.Option.{Option, none, some}
use Prim.Native.String.{String}
use Rattle.rules.specs.Lists.{bytes}
use Rattle.rules.specs.Shift.{met}
use Rattle.rules.specs.Told.{Told, refused}
use Rattle.rules.specs.declared.Counts.{Counts}
use Rattle.rules.specs.Value as Value
use Rattle.rules.specs.Escape.{unescape}
use Rattle.rules.specs.Judge.{value_fault}
use Rattle.rules.specs.Check.{check_told}
use Rattle.rules.specs.Message.{base}
use Rattle.rules.specs.All.{rules}

-- what is given, and what the rules say of it
pub data Edge : Type 0 where
  message : String → Told Counts → Edge  -- the check's answer
  number date : String → ℕ → Edge  -- the number of the fault, 0 where the value holds
  sn : String → ℕ → Edge  -- OBX-5 of an SN
  escape : String → Option (List ℕ) → Edge  -- a component unescaped

unfoldable pub Right : Edge → Type 0
Right (message s t) = check_told (bytes s) ≡ t
Right (number s n) = Value.fault true Value.numeric (bytes s) ≡ n
Right (date s n) = Value.fault true Value.date (bytes s) ≡ n
Right (sn s n) = value_fault base (bytes "SN") (met (bytes s)) ≡ n
Right (escape s v) = unescape base (met (bytes s)) ≡ v

unfoldable pub Every : List Edge → Type 0
Every [] = Unit {0}
Every (e ∷ es) = Right e × Every es

unfoldable pub table : List Edge
table =
    message "" (refused 11 0 0)
    ∷ message "MSH||~\\&|" (refused 11 0 0)
    ∷ number "-0" 0
    ∷ number "01.20" 0
    ∷ number ".5" 0
    ∷ number "5." 0
    ∷ number "." 25
    ∷ number "<12" 25
    ∷ number "1e3" 25
    ∷ date "20240229" 0
    ∷ date "20000229" 0
    ∷ date "20230229" 25
    ∷ date "21000228" 25
    ∷ sn "^100^-^200" 0
    ∷ sn "^2^+" 0
    ∷ sn "^1^^2" 25
    ∷ sn "^1^:^128^x" 23
    ∷ sn "^1^:^128" 0
    ∷ escape "\\F\\" (some (bytes "|"))
    ∷ escape "\\Q\\" none
    ∷ []

pub edges : Every table
unfolding rules Right Every table
edges = (refl, (refl, (refl, (refl, (refl, (refl, (refl, (refl, (refl, (refl, (refl, (refl, (refl, (refl, (refl, (refl, (refl, (refl, (refl, (refl, tt))))))))))))))))))))
