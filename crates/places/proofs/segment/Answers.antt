use mathlib.Core.Path.{refl}
use Rattle.std.proofs.lemmas.Result.{IfOk-weaker}
use Rattle.fields.specs.Segment.{said}
use Rattle.places.proofs.Laws.{named-found, named-and, same-order, own-order, kept, other-found}
use Rattle.places.proofs.segment.Goals as goal

pub returns-in-Msh : goal.returns-in-Msh
returns-in-Msh c = record {
  found_in = named-and c.in-Msh.is _ _ _ (c.msh.ensures (said c.args.order.now)) c.and.ensures;
  order = kept _ _ _ _ c.and.ensures (same-order c.in-Msh.is _ _ _ refl);
}

pub returns-in-Pid : goal.returns-in-Pid
returns-in-Pid c = record {
  found_in = named-and c.in-Pid.is _ _ _ (c.pid.ensures (said c.args.order.now)) c.and-in-Pid.ensures;
  order = kept _ _ _ _ c.and-in-Pid.ensures (same-order c.in-Pid.is _ _ _ refl);
}

pub returns-in-Pv1 : goal.returns-in-Pv1
returns-in-Pv1 c = record {
  found_in = named-and c.in-Pv1.is _ _ _ (c.pv1.ensures (said c.args.order.now)) c.and-in-Pv1.ensures;
  order = kept _ _ _ _ c.and-in-Pv1.ensures (same-order c.in-Pv1.is _ _ _ refl);
}

pub returns-in-Spm : goal.returns-in-Spm
returns-in-Spm c = record {
  found_in = named-and c.in-Spm.is _ _ _ (c.spm.ensures (said c.args.order.now)) c.and-in-Spm.ensures;
  order = kept _ _ _ _ c.and-in-Spm.ensures (same-order c.in-Spm.is _ _ _ refl);
}

pub returns-in-Orc : goal.returns-in-Orc
returns-in-Orc c = record {
  found_in = named-and c.in-Orc.is _ _ _ c.orc.ensures c.and-in-Orc.ensures;
  order = kept _ _ _ _ c.and-in-Orc.ensures (same-order c.in-Orc.is _ _ _ refl);
}

pub returns-in-Obx : goal.returns-in-Obx
returns-in-Obx c = record {
  found_in = named-and c.in-Obx.is _ _ _ (c.obx.ensures (said c.args.order.now)) c.and-in-Obx.ensures;
  order = kept _ _ _ _ c.and-in-Obx.ensures (same-order c.in-Obx.is _ _ _ refl);
}

pub returns-in-Obr : goal.returns-in-Obr
returns-in-Obr c = record {
  found_in = named-found c.in-Obr.is (c.obr.ensures.found_in (said c.args.order.now));
  order = IfOk-weaker c.obr.result _ _ (λ o h. own-order _ c.in-Obr.is _ _ _ _ h) c.obr.ensures.order;
}

pub returns-in-Other : goal.returns-in-Other
returns-in-Other c = record { found_in = other-found c.in-Other.is; order = same-order c.in-Other.is _ _ _ refl }
