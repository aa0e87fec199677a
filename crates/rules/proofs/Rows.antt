-- Laws of reading a sheet group by group. Assumes nothing.
use mathlib.Core.Path.{◌≡◌, ap}
use mathlib.Core.List.{List, [], ◌∷◌, ◌++◌}
use Prim.Native.Nat.{ℕ, zero, suc, ◌+◌, ◌-◌, ◌≤◌}
use native.Mathlib.Omega.{arith}
use lib.ListN.{length, drop}
use Rattle.rules.specs.declared.Name.{Name}
use Rattle.rules.specs.Told.{gives, ◌>>=◌}
use Rattle.rules.specs.Frame.{Reached}
use Rattle.rules.specs.Row.{lines, row_of}
use Rattle.rules.specs.Sheet.{open_told, group_told, past_group, rows_told}

-- the lines of the last group are passed over
pub passed_over : (ts : List (List ℕ)) (a : Reached) (k i : ℕ) → k ≤ length ts → rows_told a k i ts ≡ rows_told a 0 (i + k) (drop k ts)
unfolding rows_told
passed_over ts a zero i h = let z : i + 0 ≡ i = omega arith in rw z
passed_over [] a (suc k) i h = absurd (omega arith)
passed_over (t ∷ ts) a (suc k) i h = let z : suc i + k ≡ i + suc k = omega arith in rw z at (passed_over ts a k (suc i) (omega arith))

-- a group whose first line opens it and whose lines hold: the rows go on behind it
pub entered : (a : Reached) (g : Name) (vs : List (List ℕ)) (i n : ℕ) (t : List ℕ) (ts : List (List ℕ)) → open_told a i t ≡ gives g
    → group_told (lines g) [] i (t ∷ ts) ≡ gives vs → length (lines g) ≡ suc n → n ≤ length ts
    → rows_told a 0 i (t ∷ ts) ≡ (rows_told (past_group a g) 0 (i + suc n) (drop n ts) >>= λ rows. gives (row_of g vs ++ rows))
unfolding rows_told
entered a g vs i n t ts o e l h =
    let z : suc i + n ≡ i + suc n = omega arith in
    let y : suc n - 1 ≡ n = omega arith in
    rw (o, e, l, y) (ap (λ u. u >>= λ rows. gives (row_of g vs ++ rows)) (rw z at (passed_over ts (past_group a g) n (suc i) h)))
