use borrow.Author.Rules.{rules}
use native.Mathlib.Omega.{arith}
use mathlib.Core.Bool.{not}
use mathlib.Core.Path.{ap}
use Rattle.sheets.proofs.Judging.{line-low, rest-low, nearer}
use Rattle.compose.proofs.Passing.{begins, known-fine, unread-told, goes, ends-refused, ends-all}
use Rattle.compose.proofs.pass.Goals as goal

pub loop-rest-init : goal.loop-rest-init
loop-rest-init c = search (begins, rules)

pub verdict-requires : goal.verdict-requires
verdict-requires c = known-fine c.loop-rest.invariant c.has_line.ensures c.loop-rest-test.true c.next_group-next.ensures

pub unread-requires : goal.unread-requires
unread-requires c = (line-low _ _ _ c.in-Err.ensures, omega (arith, c.loop-rest.invariant.read))

pub returns-in-Err : goal.returns-in-Err
returns-in-Err c =
    unread-told c.loop-rest.invariant c.has_line.ensures c.loop-rest-test.true c.next_group-next.ensures c.in-Err.ensures c.unread.ensures

pub counted-numbers-requires : goal.counted-numbers-requires
counted-numbers-requires c =
    let kept = c.loop-rest.invariant in
    (omega (arith, kept, kept.read), omega (arith, kept, kept.read))

pub put_group-bytes-requires : goal.put_group-bytes-requires
put_group-bytes-requires c =
    let kept = c.loop-rest.invariant in (
      record {
        source = record { short = rest-low kept.read; proper = kept.proper };
        specimens-few = omega (arith, kept, kept.read, c.counted-numbers.ensures.within);
        results-few = omega (arith, kept, kept.read, c.counted-numbers.ensures.within);
      },
      omega (arith, kept, kept.read),
    )

pub overflow_add-segments : goal.overflow_add-segments
overflow_add-segments c = omega (arith, c.loop-rest.invariant, c.loop-rest.invariant.read, c.hit.ensures)

pub overflow_add-line : goal.overflow_add-line
overflow_add-line c = omega (arith, c.loop-rest.invariant.read, c.lines_in-n.ensures)

pub loop-rest-smaller : goal.loop-rest-smaller
loop-rest-smaller c =
    rw c.of-rest-in-loop-rest.ensures (nearer c.loop-rest.invariant.read c.has_line.ensures c.loop-rest-test.true c.next_group-next.ensures c.lines_in-n.ensures c.behind.ensures.shorter)

pub loop-rest-preserved : goal.loop-rest-preserved
loop-rest-preserved c =
    let kept = c.loop-rest.invariant in
    goes kept c.has_line.ensures c.loop-rest-test.true c.next_group-next.ensures c.in_default.ensures c.lines_in-n.ensures (c.counted-numbers.ensures.result_value, c.counted-numbers.ensures.within) c.past_group-reached.ensures (c.put_group-bytes.ensures.fit_at, c.put_group-bytes.ensures.within) (c.hit.ensures.value, c.hit.ensures.small) (rw c.of-rest-in-loop-rest.ensures c.behind.ensures.rest) (rw c.of-rest-in-loop-rest.ensures (nearer kept.read c.has_line.ensures c.loop-rest-test.true c.next_group-next.ensures c.lines_in-n.ensures c.behind.ensures.shorter))

pub returns-then-not-may_end : goal.returns-then-not-may_end
returns-then-not-may_end c =
    ends-refused c.loop-rest.invariant c.has_line.ensures c.loop-rest-test.false c.may_end.ensures (ap not c.if-not-may_end.true) c.refused.ensures

pub returns : goal.returns
returns c =
    ends-all c.loop-rest.invariant c.has_line.ensures c.loop-rest-test.false c.may_end.ensures (ap not c.if-not-may_end.false)
