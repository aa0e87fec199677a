-- NM, byte by byte: what its spelling has shown so far. A number's value can ride on the same step.
use Rattle.std.specs.Prelude.{true, false, not, ◌&&◌, ◌||◌, ℕ}
use Rattle.rules.specs.Frame.{digit}
use Rattle.rules.specs.Value.{point}
use Rattle.number.specs.declared.Spelling.{Spelling}

-- before the first byte
abbrev pub none_read : Spelling
none_read = record { good = true; point = false; digit = false }

-- after one byte more: good, if it is a digit or a point and no second point
unfoldable pub read_byte : Spelling → ℕ → Spelling
read_byte t b =
    record {
      good = t.good && (digit b || point b) && not (point b && t.point);
      point = t.point || point b;
      digit = t.digit || digit b;
    }
