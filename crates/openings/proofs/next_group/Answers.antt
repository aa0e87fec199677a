use borrow.Author.Rules.{rules}
use Rattle.openings.proofs.Opening.{first-header, then-patient, then-visit, then-specimen, then-order, then-either, then-any}
use Rattle.openings.proofs.next_group.Goals as goal

pub returns-in-Other : goal.returns-in-Other
returns-in-Other c = search (first-header, rules)

pub returns-in-Msh : goal.returns-in-Msh
returns-in-Msh c = search (then-patient, rules)

pub returns-in-Pid : goal.returns-in-Pid
returns-in-Pid c = search (then-visit, rules)

pub returns-in-Pv1 : goal.returns-in-Pv1
returns-in-Pv1 c = search (then-specimen, rules)

pub returns-in-Spm : goal.returns-in-Spm
returns-in-Spm c = search (then-order, rules)

pub returns-in-Obr : goal.returns-in-Obr
returns-in-Obr c = search (then-either, rules)

pub returns-in-Obx : goal.returns-in-Obx
returns-in-Obx c = search (then-any, rules)
