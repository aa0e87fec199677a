-- The segments of a message, as they are taken off its front.
use Rattle.std.specs.Prelude.{◌≡◌, List, [], ◌∷◌, ◌++◌, ℕ}
use Rattle.std.specs.declared.option.Option.{Option}
use Rattle.std.specs.Borrow.{Bor}
use Rattle.std.specs.Option.{MatchOption}
use Rattle.std.specs.Iterator.{YieldsFirstRef}
use Rattle.rules.specs.Lists.{split}
use Rattle.rules.specs.Frame as Frame
use Rattle.frame.specs.declared.segments.Segments.{Segments}

-- the segments that are left
abbrev pub left : Segments → List (List ℕ)
left s = Frame.segments s.rest.now

-- a segment x is taken off r, with its 0D, and t is left
pub record Taken (r x t : List ℕ) : Type 0 where
  pub lies : r ≡ x ++ 0x0D ∷ t
  pub cut : split 0x0D r ≡ x ∷ split 0x0D t

-- none is taken off r, which has no 0D, and r is left
pub record Ended (r t : List ℕ) : Type 0 where
  pub stays : t ≡ r
  pub whole : split 0x0D r ≡ r ∷ []

-- the next segment that is left, or none
abbrev pub Takes : Segments → Option (Bor (List ℕ)) → Segments → Type 0
Takes s r t = YieldsFirstRef left s r t × MatchOption r (Ended s.rest.now t.rest.now) (λ x. Taken s.rest.now x.now t.rest.now)
