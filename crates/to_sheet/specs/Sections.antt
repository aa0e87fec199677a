-- The sheet, segment by segment.
use Rattle.std.specs.Prelude.{List, [], ◌∷◌, ◌++◌, ℕ}
use Rattle.rules.specs.declared.Delims.{Delims}
use Rattle.rules.specs.Lists.{ended}
use Rattle.rules.specs.Shift.{met}
use Rattle.rules.specs.Frame.{name_of}
use Rattle.sources.specs.Sources.{lines_of_body}

-- the text of all segments' lines; an ORC and an unknown segment have none
unfoldable pub sections : Delims → List (List ℕ) → List ℕ
sections d [] = []
sections d (s ∷ ss) = ended 0x0A (lines_of_body d (name_of s) (met s)) ++ sections d ss
