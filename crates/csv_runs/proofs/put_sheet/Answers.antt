use mathlib.Core.Path.{refl}
use native.Mathlib.Omega.{arith}
use borrow.Author.Rules.{rules}
use Rattle.csv_runs.proofs.Laws.{none-there}
use Rattle.csv_runs.proofs.Sheet.{first-ready, put-begins, before-ready, next-ready, put_on, put-over}
use Rattle.csv_runs.proofs.put_sheet.Goals as goal

pub returns-in_err-first : goal.returns-in_err-first
returns-in_err-first c = rw c.from_residual.ensures (none-there c.args.file.now c.args.at c.in_err-first.ensures, refl)

pub put_first-requires : goal.put_first-requires
put_first-requires c = search (first-ready, c.in_ok-first.ensures, rules)

pub loop-next-init : goal.loop-next-init
loop-next-init c = search (put-begins, c.in_ok-first.ensures, rules)

pub put_next-requires : goal.put_next-requires
put_next-requires c = (search (before-ready, c.loop-next.invariant, rules), search (next-ready, c.in-Some.ensures, rules))

pub loop-next-preserved : goal.loop-next-preserved
loop-next-preserved c = search (put_on, c.in-Some.ensures, c.loop-next.invariant, rules)

pub returns : goal.returns
returns c =
    put-over _ _ _ _ _ _ _ _ _ _ c.loop-next.invariant _ _ _ _ c.put_first.ensures c.in_default.ensures _ _ c.new-lines.ensures.front c.new-lines.ensures.over
    (let s = c.new-lines.ensures.same in let p = c.put_first.ensures.same in let q = c.loop-next.invariant.adds.same in grind arith)
