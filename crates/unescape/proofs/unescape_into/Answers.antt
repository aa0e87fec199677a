use borrow.Author.Rules.{rules}
use Rattle.unescape.proofs.Laws.{reads-begin, reads_end, reads_kept, reads_on}
use Rattle.unescape.proofs.unescape_into.Goals as goal

pub loop-b-init : goal.loop-b-init
loop-b-init c = search (reads-begin, rules)

pub loop-b-preserved : goal.loop-b-preserved
loop-b-preserved c = search (reads_on, rules)

pub returns : goal.returns
returns c = record { fits = search (reads_end, rules); whole = search (reads_kept, rules) }
