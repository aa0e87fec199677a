use borrow.Author.Rules.{rules}
use Rattle.csv_runs.proofs.Laws.{none-there, run-begins, run_on, run-over}
use Rattle.csv_runs.proofs.run.Goals as goal

pub returns-in_err-first : goal.returns-in_err-first
returns-in_err-first c = rw c.from_residual.ensures (none-there c.args.file.now c.args.at c.in_err-first.ensures)

pub loop-other-init : goal.loop-other-init
loop-other-init c = search (run-begins, c.in_ok-first.ensures, rules)

pub loop-other-preserved : goal.loop-other-preserved
loop-other-preserved c = search (run_on, c.in-Some.ensures, rules)

pub returns : goal.returns
returns c = search (run-over, c.in_default.ensures, rules)
