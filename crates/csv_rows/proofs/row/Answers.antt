use borrow.Author.Rules.{rules}
use Rattle.csv_rows.specs.Rows.{raw_of}
use Rattle.csv_rows.proofs.Laws.{row-starts, row_stops, row_on, row_ends}
use Rattle.csv_rows.proofs.row.Goals as goal

pub items-init : goal.items-init
unfolding raw_of
items-init c = search (row-starts, rules)

pub returns-in_err-t : goal.returns-in_err-t
returns-in_err-t c =
    rw c.from_residual.ensures
    (row_stops c.args.file.now c.args.at c.args.known (raw_of c.items.raw) c.items.size c.items.count c.items.good c.items.invariant c.in_err-t.ensures.item_at)

pub returns-then-not-t : goal.returns-then-not-t
returns-then-not-t c =
    row_ends c.args.file.now c.args.at c.args.known (raw_of c.items.raw) c.items.size c.items.count c.items.good c.items.invariant
    c.in_ok-t.t.item.now c.in_ok-t.t.size c.in_ok-t.t.goes c.in_ok-t.ensures.item_at c.note.new.raw c.in_ok-t.t.plain c.converts-good.result
    c.note.ensures c.in_ok-t.ensures.plain c.converts-good.ensures c.if-not-t.true

pub items-preserved : goal.items-preserved
items-preserved c = search (row_on, rules)
