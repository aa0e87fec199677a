-- How the code takes a component's escapes out, byte by byte.
use Rattle.std.specs.Prelude.{◌≡◌, Bool, true, false, cond, List, [], ◌∷◌, ℕ, ◌+◌, ◌≤◌, ◌<◌, eqb, leb, length, set, take}
use Rattle.std.proofs.Math.Option.{Option, none, some}
use Rattle.rules.specs.declared.Delims.{Delims}
use Rattle.unescape.specs.declared.At.{At}
use Rattle.unescape.specs.declared.At.TheVariants.{Plain, Opened, Named, Broken}
use Rattle.std.specs.declared.result.Result.{Result}
use Rattle.std.specs.declared.result.Result.TheVariants.{Ok, Err}
use Rattle.unescape.specs.declared.NotHeld.{NotHeld}
use Rattle.unescape.specs.declared.NotHeld.TheVariants.{Faulty, Over}

unfoldable pub named_of : Delims → ℕ → At
named_of d x =
    cond (eqb x 70) (Named d.field)
    (cond (eqb x 83) (Named d.component)
    (cond (eqb x 84) (Named d.sub) (cond (eqb x 82) (Named d.repetition) (cond (eqb x 69) (Named d.escape) Broken))))

unfoldable pub turn_of : Delims → At → ℕ → At
turn_of d Plain x = cond (eqb x d.escape) Opened (cond (eqb x d.sub) Broken Plain)
turn_of d Opened x = named_of d x
turn_of d (Named v) x = cond (eqb x d.escape) Plain Broken
turn_of d Broken x = Broken

-- a step into the text emitted a byte
abbrev pub emitted : At → Bool
emitted Plain = true
emitted Opened = false
emitted (Named v) = false
emitted Broken = false

abbrev pub byte_at : At → ℕ → ℕ
byte_at Plain b = b
byte_at Opened b = b
byte_at (Named v) b = v
byte_at Broken b = b

abbrev pub kept_len : At → ℕ → ℕ
kept_len t k = cond (emitted t) (k + 1) k

abbrev pub kept_buf : At → ℕ → ℕ → List ℕ → List ℕ
kept_buf t k v x = cond (emitted t) (set x k v) x

abbrev pub answer_of : At → ℕ → ℕ → Result ℕ NotHeld
answer_of t k room = cond (emitted t) (cond (leb k room) (Ok k) (Err (Over k))) (Err Faulty)

-- w over old's front, as far as old reaches
unfoldable pub fill : List ℕ → List ℕ → List ℕ
fill [] old = old
fill (v ∷ w) [] = []
fill (v ∷ w) (o ∷ old) = v ∷ fill w old

-- what an answer says of the unescaped bytes v, when the buffer holds x
pub record Whole (n : ℕ) (o : Option (List ℕ)) (x : List ℕ) : Type 0 where
  pub is : o ≡ some (take n x)
  pub low : n ≤ length x

pub record Longer (n : ℕ) (o : Option (List ℕ)) (x : List ℕ) : Type 0 where
  pub text : List ℕ
  pub is : o ≡ some text
  pub long : n ≡ length text
  pub over : length x < n

abbrev pub Fits : Result ℕ NotHeld → Option (List ℕ) → List ℕ → Type 0
Fits (Ok n) o x = Whole n o x
Fits (Err Faulty) o x = o ≡ none
Fits (Err (Over n)) o x = Longer n o x

-- and what the buffer holds, x, where it held old before: the text over its front as far as it reaches, and the rest stays
pub record BufferHolds (o : Option (List ℕ)) (old x : List ℕ) : Type 0 where
  pub text : (v : List ℕ) → o ≡ some v → x ≡ fill v old
