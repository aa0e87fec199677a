use borrow.Author.Rules.{rules}
use Rattle.plain_bytes.specs.Bytes.{is_byte}
use Rattle.spot.proofs.Laws.{counted}
use Rattle.spot.proofs.line_ends.Goals as goal

pub returns-clause-value : goal.returns-clause-value
returns-clause-value c = counted (is_byte c.args.end) c.args.s.now c.count.result (search rules)
