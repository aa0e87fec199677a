use Rattle.writer.proofs.Weaving.{ample-room, fits, fits_not, length-within, measured-room}
use borrow.Author.Rules.{rules}
use Rattle.writer.proofs.fit_woven.Goals as goal

pub put_woven-requires : goal.put_woven-requires
put_woven-requires c = search (ample-room, rules)

pub returns-then-sizes_of-pattern : goal.returns-then-sizes_of-pattern
returns-then-sizes_of-pattern c = search (fits, ample-room, length-within, rules)

pub returns-then-out-n : goal.returns-then-out-n
returns-then-out-n c = search (fits_not, length-within, rules)

pub returns : goal.returns
returns c = search (fits, measured-room, length-within, rules)
