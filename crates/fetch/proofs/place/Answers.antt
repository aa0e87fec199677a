use mathlib.Core.Path.{ap, ◌∙◌}
use native.Mathlib.Omega.{arith}
use borrow.Author.Rules.{rules}
use Rattle.std.specs.Result.{result_ok}
use Rattle.header.proofs.Laws.{header-long}
use Rattle.fetch.proofs.Laws.{headed-proper}
use Rattle.fetch.proofs.place.Goals as goal

pub delims-requires : goal.delims-requires
delims-requires c = search (header-long, rules)

pub part_of-requires : goal.part_of-requires
part_of-requires c = (omega arith, omega arith, search (header-long, rules), c.known_segment.ensures.within _ (c.ok_or.ensures.ok_part ∙ ap result_ok c.in_ok-segment.was), search (headed-proper, rules))
