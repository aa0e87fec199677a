-- What is told of a sheet whose message is measured.
use Rattle.std.specs.Prelude.{List, ℕ}
use Rattle.rules.specs.Told.{Told, gives, ◌>>=◌}
use Rattle.rules.specs.Sheet.{read_sheet}
use Rattle.rules.specs.Message.{base}
use Rattle.compose.specs.declared.Size.{Size}
use Rattle.compose.specs.Compose.{size_of}

-- how many bytes and segments its message has, or what reading it refuses, 40 to 43
unfoldable pub measured_told : List ℕ → Told Size
measured_told s = read_sheet s >>= λ rows. gives (size_of base rows)
