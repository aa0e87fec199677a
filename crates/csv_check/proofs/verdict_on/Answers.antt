use native.Mathlib.Omega.{arith}
use Rattle.csv_rules.proofs.Order.{few-lines}
use Rattle.csv_check.proofs.Whole.{quoting-told, quoting-line, columns-told, columns-line, unconverted-told, unconverted-line, header-told, header-line, returns-told, returns-line, unsettled, right-told, right-line}
use borrow.Author.Rules.{rules}
use Rattle.csv_check.proofs.verdict_on.Goals as goal

pub overflow_add-found : goal.overflow_add-found
overflow_add-found c = omega (arith, few-lines _ _ c.look-found.ensures.looked_is.counts)

pub returns-then-found : goal.returns-then-found
returns-then-found c = record { result_value = search (quoting-told, rules); line = search (quoting-line, rules) }

pub returns-then-found-ne0 : goal.returns-then-found-ne0
returns-then-found-ne0 c = record { result_value = search (columns-told, rules); line = search (columns-line, rules) }

pub returns-then-found-ne0-2 : goal.returns-then-found-ne0-2
returns-then-found-ne0-2 c = record { result_value = search (unconverted-told, rules); line = search (unconverted-line, rules) }

pub settled-repeats-requires : goal.settled-repeats-requires
settled-repeats-requires c = search (unsettled, rules)

pub returns-then-repeats-ne0 : goal.returns-then-repeats-ne0
returns-then-repeats-ne0 c = record { result_value = search (header-told, rules); line = search (header-line, rules) }

pub returns-then-repeats-ne0-2 : goal.returns-then-repeats-ne0-2
returns-then-repeats-ne0-2 c = record { result_value = search (returns-told, rules); line = search (returns-line, rules) }

pub returns : goal.returns
returns c = record { result_value = search (right-told, rules); line = search (right-line, rules) }
