use mathlib.Core.Bool.{not}
use mathlib.Core.Path.{ap}
use native.Mathlib.Omega.{arith}
use Rattle.sheets.proofs.Judging.{line-low, unread-told, nearer, read-on, ends-early, ends-well, groups-wrong, groups-right}
use Rattle.sheets.proofs.read_groups.Goals as goal

pub unread-requires : goal.unread-requires
unread-requires c = (line-low _ _ _ c.in-Err.ensures, omega (arith, c.loop-rest.invariant.kept))

pub returns-in-Err : goal.returns-in-Err
returns-in-Err c =
    groups-wrong _ c.unread.result (unread-told c.loop-rest.invariant.kept c.has_line.ensures c.loop-rest-test.true c.next_group-next.ensures c.in-Err.ensures c.unread.ensures)

pub overflow_add-line : goal.overflow_add-line
overflow_add-line c = omega (arith, c.loop-rest.invariant.kept, c.lines_in-n.ensures)

pub loop-rest-smaller : goal.loop-rest-smaller
loop-rest-smaller c =
    rw c.of-rest-in-loop-rest.ensures (nearer c.loop-rest.invariant.kept c.has_line.ensures c.loop-rest-test.true c.next_group-next.ensures c.lines_in-n.ensures c.behind.ensures.shorter)

pub loop-rest-preserved : goal.loop-rest-preserved
loop-rest-preserved c =
    let kept = c.loop-rest.invariant.kept in
    record {
      rows = _;
      kept = read-on kept c.has_line.ensures c.loop-rest-test.true c.next_group-next.ensures c.in_default.ensures c.lines_in-n.ensures c.past_group-reached.ensures (rw c.of-rest-in-loop-rest.ensures c.behind.ensures.rest) (rw c.of-rest-in-loop-rest.ensures (nearer kept c.has_line.ensures c.loop-rest-test.true c.next_group-next.ensures c.lines_in-n.ensures c.behind.ensures.shorter));
    }

pub returns-then-not-may_end : goal.returns-then-not-may_end
returns-then-not-may_end c =
    groups-wrong _ c.refused.result (ends-early c.loop-rest.invariant.kept c.has_line.ensures c.loop-rest-test.false c.may_end.ensures (ap not c.if-not-may_end.true) c.refused.ensures)

pub returns : goal.returns
returns c =
    groups-right _ (ends-well c.loop-rest.invariant.kept c.has_line.ensures c.loop-rest-test.false c.may_end.ensures (ap not c.if-not-may_end.false))
