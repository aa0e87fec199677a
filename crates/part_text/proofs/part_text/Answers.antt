use Rattle.part_text.proofs.Laws.{located-long, text-given}
use Rattle.part_text.proofs.part_text.Goals as goal

pub delims-requires : goal.delims-requires
delims-requires c = located-long _ _ _ _ _ c.locate.ensures _ c.in_ok-part.was

pub returns : goal.returns
returns c = text-given _ _ _ _ _ c.locate.ensures _ _ _ _ _ _ _ _ c.in_ok-part.was c.bytes_of-raw.ensures c.delims.ensures c.text_of.ensures
