use mathlib.Core.Path.{sym}
use borrow.Author.Tests.{eqb-true}
use Rattle.csv_check.proofs.Lines.{columns-none, columns-broken, columns-read}
use Rattle.csv_check.proofs.columns_of.Goals as goal

pub returns-then-is_empty : goal.returns-then-is_empty
returns-then-is_empty c = columns-none _ (eqb-true _ 0 (sym c.if-is_empty.ensures))

pub returns-in_err-version : goal.returns-in_err-version
returns-in_err-version c = rw c.from_residual.ensures (columns-broken _ c.in_err-version.ensures)

pub returns : goal.returns
returns c = columns-read _ _ _ _ _ _ c.in_ok-version.ensures _ c.item.ensures _ c.column_count.ensures
