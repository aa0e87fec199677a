-- The groups of a sheet: a group's values, and the verdict on its lines.
use Rattle.std.specs.Prelude.{◌≡◌, List, [], ◌∷◌, ℕ, suc, ◌+◌, ◌≤◌, length, drop, Ok, Err}
use Rattle.rules.specs.declared.Name.{Name}
use Rattle.rules.specs.declared.Name.TheVariants.{Obx}
use Rattle.rules.specs.Told.{Told, gives, refused}
use Rattle.rules.specs.Lists.{nth}
use Rattle.rules.specs.Places.{Four}
use Rattle.rules.specs.Row.{Line, lines, four_at}
use Rattle.rules.specs.Sheet.{key_of, group_told}
use Rattle.lines.specs.declared.LineFault.{LineFault}
use Rattle.lines.specs.declared.LineFault.TheVariants.{Key, Value}
use Rattle.lines.specs.Lines.{Verdict}
use Rattle.groups.specs.declared.Obx5.{Obx5}

-- the values of the lines ls from the k-th of ts on
unfoldable pub values_from : List Line → ℕ → List (List ℕ) → List (List ℕ)
values_from [] k ts = []
values_from (l ∷ ls) k ts = drop (length (key_of l)) (nth ts k) ∷ values_from ls (suc k) ts

-- the values of the group g that the lines ts begin with
abbrev pub group_values : Name → List (List ℕ) → List (List ℕ)
group_values g ts = values_from (lines g) 0 ts

-- the four parts of OBX-5, as the code has them; those of the result that the lines ts begin with, and its status
abbrev pub four_of : Obx5 → Four (List ℕ)
four_of p = record { compare = p.compare.now; value = p.value.now; join = p.join.now; second = p.second.now }

abbrev pub parts_of : List (List ℕ) → Four (List ℕ)
parts_of ts = four_at (group_values Obx ts)

abbrev pub status_of : List (List ℕ) → List ℕ
status_of ts = nth (group_values Obx ts) 9

-- the line that a fault is in, and that a verdict names
abbrev pub line_of : LineFault → ℕ
line_of (Key k) = k
line_of (Value k) = k

unfoldable pub index_of : Verdict → ℕ
index_of (Ok t) = 0
index_of (Err f) = line_of f

-- what a verdict tells of lines whose first has the number i and whose values are vs
abbrev pub told_of : Verdict → ℕ → List (List ℕ) → Told (List (List ℕ))
told_of (Ok t) i vs = gives vs
told_of (Err (Key k)) i vs = refused 42 (i + k) 0
told_of (Err (Value k)) i vs = refused 43 (i + k) 0

-- v is the verdict on the lines ls, with which ts begins: it tells what reading them tells, whatever number the first of them has
pub record VerdictOn (ls : List Line) (ts : List (List ℕ)) (v : Verdict) : Type 0 where
  pub told : (i : ℕ) → told_of v i (values_from ls 0 ts) ≡ group_told ls [] i ts
  pub within : index_of v ≤ length ls
