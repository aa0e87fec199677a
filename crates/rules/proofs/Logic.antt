-- Going by cases, and the laws of tests: what every proof of the library stands on. Assumes nothing.
use mathlib.Core.Path.{◌≡◌, refl, sym, ap}
use mathlib.Core.Bool.{Bool, true, false, cond, ◌&&◌, ◌||◌, false≢true, and_assoc as and_right, or_assoc as or_right}
pub use mathlib.Core.Bool.{and-true, and-false, or-true, or-false}
use mathlib.Core.List.{List, [], ◌∷◌, ◌++◌}
use mathlib.Core.Option.{Option, none, some}
use Prim.Native.Nat.{ℕ, zero, suc, ◌≤◌}
use borrow.Author.Tests.{eqb-true, eqb-false, eq-eqb, ne_eqb}
pub use borrow.Author.Tests.{not-true, not-false}
use native.Mathlib.Omega.{arith}
use lib.Dec.{eqb}
use lib.ListN.{length, drop}
use Rattle.rules.specs.declared.Refusal.{Refusal}
use Rattle.std.specs.declared.result.Result.{Result}
use Rattle.std.specs.declared.result.Result.TheVariants.{Ok, Err}
use Rattle.rules.specs.Told.{Told, gives, refused, refusal, Call, ◌>>◌, ◌then◌, ◌when◌}

-- ---- by cases, with the equation
pub cases : {P : Type 0} (t : Bool) → (t ≡ true → P) → (t ≡ false → P) → P
cases true f g = f refl
cases false f g = g refl

pub option_cases : {A P : Type 0} (o : Option A) → ((v : A) → o ≡ some v → P) → (o ≡ none → P) → P
option_cases none f g = g refl
option_cases (some v) f g = f v refl

pub list_cases : {A P : Type 0} (s : List A) → (s ≡ [] → P) → ((x : A) (r : List A) → s ≡ x ∷ r → P) → P
list_cases [] f g = f refl
list_cases (x ∷ r) f g = g x r refl

pub told_cases : {A P : Type 0} (t : Told A) → ((a : A) → t ≡ gives a → P) → ((n s f : ℕ) → t ≡ refused n s f → P) → P
told_cases (gives a) f g = f a refl
told_cases (refused n s k) f g = g n s k refl

pub zero_cases : {P : Type 0} (n : ℕ) → (n ≡ 0 → P) → ((k : ℕ) → n ≡ suc k → P) → P
zero_cases zero f g = f refl
zero_cases (suc n) f g = g n refl

-- what is both so and not so is nowhere
pub never : {P : Type 0} → true ≡ false → P
never h = absurd (false≢true (sym h))

-- a refusal gives nothing
pub not-given : {A P : Type 0} {n s f : ℕ} {a : A} → refused n s f ≡ gives a → P
not-given h = let z : ◌≡◌ {A = ℕ} 0 1 = cc in absurd (omega arith)

pub nothing-some : {A P : Type 0} {a : A} → none ≡ some a → P
nothing-some h = let z : ◌≡◌ {A = ℕ} 0 1 = cc in absurd (omega arith)

-- ---- tests, beside the library's
pub both : (a b : Bool) → (a && b) ≡ true → (a ≡ true) × (b ≡ true)
both true b h = (refl, h)
both false b h = (h, cc)

pub neither : (a b : Bool) → (a || b) ≡ false → (a ≡ false) × (b ≡ false)
neither true b h = never h
neither false b h = (refl, h)

-- one of two tests
pub either : (x y : Bool) {P : Type 0} → (x || y) ≡ true → (x ≡ true → P) → (y ≡ true → P) → P
either true y h f g = f refl
either false y h f g = g h

pub and_assoc : (a b c : Bool) → (a && (b && c)) ≡ ((a && b) && c)
and_assoc a b c = sym (and_right a b c)

pub or_assoc : (a b c : Bool) → (a || (b || c)) ≡ ((a || b) || c)
or_assoc a b c = sym (or_right a b c)

-- a chain of early returns: the first test that holds decides
pub cond_yes : {A : Type 0} (t u : Bool) (x y : A) → t ≡ u → t ≡ true → x ≡ cond u x y
cond_yes t u x y e h = rw (← e, h)

pub cond_no : {A : Type 0} (t u : Bool) (x y z : A) → t ≡ u → t ≡ false → z ≡ y → z ≡ cond u x y
cond_no t u x y z e h g = rw (← e, h) g

pub eqb-self : (a : ℕ) → eqb a a ≡ true
eqb-self a = eq-eqb a a refl

pub eqb-sym : (a b : ℕ) → eqb a b ≡ eqb b a
eqb-sym a b =
    cases (eqb a b) (λ e. cc (eqb-true a b e, eqb-self b)) (λ e. let n : eqb b a ≡ false = ne_eqb b a (λ q. eqb-false a b e (sym q)) in cc)

-- ---- answers
-- a test that must fail before the rest is asked
pub guard : {A : Type 0} (n s f : ℕ) (b : Bool) (t : Told A) (a : A) → cond b (refused n s f) t ≡ gives a → (b ≡ false) × (t ≡ gives a)
guard n s f true t a h = (cc, cc)
guard n s f false t a h = (refl, h)

pub then-zero : (n : ℕ) → (n then 0) ≡ n
then-zero zero = refl
then-zero (suc n) = refl

pub then-none : (a b : ℕ) → (a then b) ≡ 0 → (a ≡ 0) × (b ≡ 0)
then-none zero b h = (refl, h)
then-none (suc a) b h = absurd (omega arith)

pub when-none : (n : ℕ) (t : Bool) → (suc n when t) ≡ 0 → t ≡ false
when-none n true h = absurd (omega arith)
when-none n false h = refl

-- what two answers give, one after the other
pub then-gives : {A : Type 0} (t : Told (Unit {0})) (u : Told A) (a : A) → (t >> u) ≡ gives a → (t ≡ gives tt) × (u ≡ gives a)
then-gives (gives x) u a h = (refl, h)
then-gives (refused n s f) u a h = not-given h

pub done : (t : Told (Unit {0})) → t >> gives tt ≡ t
done (gives u) = refl
done (refused n s f) = refl

-- ---- what a call answers and leaves: of a refusal the buffer as it was, of a text its bytes over the front
-- a refusal writes nothing
pub never-wrote : {P : Type 0} {r : Refusal} {n : ℕ} → Err r ≡ Ok n → P
never-wrote e = let z : ◌≡◌ {A = ℕ} 0 1 = cc in absurd (omega arith)

pub call-refused : (t : Told (List ℕ)) (old : List ℕ) (k : Refusal) (r : Result ℕ Refusal) → t ≡ refusal k → r ≡ Err k → Call t old r old
call-refused t old k r e g = rw (g, e) (record { told = refl; buffer = refl; within = λ n q. never-wrote q })

pub call-wrote : (t : Told (List ℕ)) (old w y : List ℕ) (n : ℕ) → t ≡ gives w → n ≡ length w → length w ≤ length old → y ≡ w ++ drop (length w) old → Call t old (Ok n) y
call-wrote t old w y n e g l h = rw e (record { told = ap gives g; buffer = h; within = λ k q. let z : k ≡ n = cc in omega arith })

-- a call that gives an answer gives what equals it
pub called-as : {t u : Told (List ℕ)} {x : List ℕ} {r : Result ℕ Refusal} {y : List ℕ} → t ≡ u → Call u x r y → Call t x r y
called-as e p = rw e p
