use Rattle.std.proofs.Common.{inl, inr}
use Rattle.section.proofs.Laws.{put_orc, put_other}
use Rattle.section.proofs.lines_of.Goals as goal

pub returns-in-Orc : goal.returns-in-Orc
returns-in-Orc c = elim c.in-Orc.is [ inl e ↦ put_orc _ _ _ e | inr e ↦ put_other _ _ _ e ]
