use Rattle.rules.specs.Lists.{bytes}
use Rattle.words.specs.Words.{fault_words}
use Rattle.words.proofs.of_fault.Goals as goal

pub returns-in-Quoting-clause-said : goal.returns-in-Quoting-clause-said
unfolding bytes fault_words
returns-in-Quoting-clause-said c = rw c.in-Quoting.is

pub returns-in-Columns-clause-said : goal.returns-in-Columns-clause-said
unfolding bytes fault_words
returns-in-Columns-clause-said c = rw c.in-Columns.is

pub returns-in-Unconverted-clause-said : goal.returns-in-Unconverted-clause-said
unfolding bytes fault_words
returns-in-Unconverted-clause-said c = rw c.in-Unconverted.is

pub returns-in-HeaderDiffers-clause-said : goal.returns-in-HeaderDiffers-clause-said
unfolding bytes fault_words
returns-in-HeaderDiffers-clause-said c = rw c.in-HeaderDiffers.is

pub returns-in-Returns-clause-said : goal.returns-in-Returns-clause-said
unfolding bytes fault_words
returns-in-Returns-clause-said c = rw c.in-Returns.is
