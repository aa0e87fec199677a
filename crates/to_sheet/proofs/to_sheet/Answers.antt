use Rattle.to_sheet.proofs.Laws.{accepted-long, accepted-sound, wrote-sheet}
use Rattle.to_sheet.proofs.to_sheet.Goals as goal

pub delims-requires : goal.delims-requires
delims-requires c = accepted-long _ _ c.check.ensures _ c.in_ok-check.was

pub write-requires : goal.write-requires
write-requires c = accepted-sound _ _ c.check.ensures _ c.in_ok-check.was _ c.delims.ensures

pub returns : goal.returns
returns c = wrote-sheet _ _ c.check.ensures _ c.in_ok-check.was _ _ _ c.write.ensures
