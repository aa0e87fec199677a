use borrow.Author.Rules.{rules}
use Rattle.numbered.proofs.Texts.{numbered-spm, numbered-obx, put-msh, put-pid, put-pv1, put-spm, put-obr, put-none, put-obx}
use Rattle.numbered.proofs.put_first.Goals as goal

pub put_numbered-requires : goal.put_numbered-requires
put_numbered-requires c = (search rules, search (numbered-spm, rules), search rules)

pub put_numbered-requires-in-Obx : goal.put_numbered-requires-in-Obx
put_numbered-requires-in-Obx c = (search rules, search (numbered-obx, rules), search rules)

pub returns-in-Msh : goal.returns-in-Msh
returns-in-Msh c = record { fit = search (put-msh, rules); within = search rules }

pub returns-in-Pid : goal.returns-in-Pid
returns-in-Pid c = record { fit = search (put-pid, rules); within = search rules }

pub returns-in-Pv1 : goal.returns-in-Pv1
returns-in-Pv1 c = record { fit = search (put-pv1, rules); within = search rules }

pub returns-in-Spm : goal.returns-in-Spm
returns-in-Spm c = record { fit = search (put-spm, rules); within = search rules }

pub returns-in-Obr : goal.returns-in-Obr
returns-in-Obr c = record { fit = search (put-obr, rules); within = search rules }

pub returns-in-Orc : goal.returns-in-Orc
returns-in-Orc c = record { fit = search (put-none, rules); within = search rules }

pub returns-in-Obx : goal.returns-in-Obx
returns-in-Obx c = record { fit = search (put-obx, rules); within = search rules }
