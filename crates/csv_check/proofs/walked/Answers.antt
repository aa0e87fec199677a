use borrow.Author.Rules.{rules}
use Rattle.csv_check.proofs.Lines.{walk-starts, walk-over, walk-line, walk-broken, walk-place, walk_first, walk-less, walk-on}
use Rattle.csv_check.proofs.Repeating.{rep-starts, rep-over, rep-broken, rep-ask, rep-on}
use Rattle.csv_check.proofs.walked.Goals as goal

pub loop-at-init : goal.loop-at-init
loop-at-init c = (search (walk-starts, rules), search (rep-starts, rules))

pub returns-in_default : goal.returns-in_default
returns-in_default c = record {
  walk_is = walk-broken _ _ _ _ _ _ _ c.loop-at.invariant.0 c.in_default.ensures;
  rows = search (rep-broken, rules);
}

pub overflow_add-at : goal.overflow_add-at
overflow_add-at c = search (walk-place, rules)

pub overflow_add-lines : goal.overflow_add-lines
overflow_add-lines c = search (walk-line, rules)

pub overflow_add-first : goal.overflow_add-first
overflow_add-first c = search (walk_first, rules)

pub with_row_if-repeats-requires : goal.with_row_if-repeats-requires
with_row_if-repeats-requires c =
    rep-ask _ _ _ _ _ _ _ _ _ _ _ _ c.loop-at.invariant.1 _ _ _ _ c.in-Some.ensures _ _ c.before_rows-first.ensures
    c.first_found-unconverted.ensures (search (c.loop-at-test, rules))

pub loop-at-smaller : goal.loop-at-smaller
loop-at-smaller c = walk-less _ _ _ _ _ _ _ c.loop-at.invariant.0 _ _ _ _ c.in-Some.ensures (search (c.loop-at-test, rules))

pub loop-at-preserved : goal.loop-at-preserved
loop-at-preserved c = (
  walk-on _ _ _ _ _ _ _ c.loop-at.invariant.0 _ _ _ _ c.in-Some.ensures _ _ _
      c.first_found-miscounted.ensures c.first_found-unconverted.ensures c.before_rows-first.ensures
      (search (c.loop-at-test, rules)) (search rules),
  rep-on _ _ _ _ _ _ _ _ _ _ _ _ c.loop-at.invariant.1 _ _ _ _ c.in-Some.ensures _ _ c.before_rows-first.ensures
      c.first_found-unconverted.ensures _ _ _ _ _ _ c.with_row_if-repeats.ensures,
)

pub returns : goal.returns
returns c = record { walk_is = search (walk-over, rules); rows = search (rep-over, rules) }
