use Rattle.csv_calls.proofs.Sheet.{next-broken, next-52, next-53, part-long, convertible, next_small, next-made}
use borrow.Author.Rules.{rules}
use Rattle.csv_calls.proofs.next_in.Goals as goal

pub returns-in_default : goal.returns-in_default
returns-in_default c = next-broken _ _ _ _ c.in_default.ensures.0

pub returns-then-not-run : goal.returns-then-not-run
returns-then-not-run c = next-52 _ _ _ _ c.in-Some.ensures.run c.if-not-run.true

pub returns-then-run : goal.returns-then-run
returns-then-run c = next-53 _ _ _ _ c.in-Some.ensures.run c.if-not-run.false c.if-run.true

pub slice_bounds-handed-end-then-end-sheet : goal.slice_bounds-handed-end-then-end-sheet
slice_bounds-handed-end-then-end-sheet c = part-long _ _ _ _ _ _ _ _ _ c.in-Some.ensures

pub returns-then-end-sheet : goal.returns-then-end-sheet
returns-then-end-sheet c =
    next_small _ _ _ _ _ _ _ _ _ _ c.in-Some.ensures c.if-not-run.false c.if-run.false (search (c.if-end-sheet.true, rules)) _ _
    c.handed-made.ensures

pub large-made-requires : goal.large-made-requires
large-made-requires c = (c.requires, convertible _ _ c.in-Some.ensures.run c.if-not-run.false)

pub returns : goal.returns
returns c = next-made _ _ _ _ c.in-Some.ensures.run c.if-not-run.false c.if-run.false _ _ c.large-made.ensures
