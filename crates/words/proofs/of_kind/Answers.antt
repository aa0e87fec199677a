use Rattle.rules.specs.Lists.{bytes}
use Rattle.words.specs.Words.{saying, words_of}
use Rattle.words.proofs.of_kind.Goals as goal

pub returns-in-TooLong-clause-said : goal.returns-in-TooLong-clause-said
unfolding bytes words_of saying
returns-in-TooLong-clause-said c = rw c.in-TooLong.is

pub returns-in-Header-clause-said : goal.returns-in-Header-clause-said
unfolding bytes words_of saying
returns-in-Header-clause-said c = rw c.in-Header.is

pub returns-in-Bytes-clause-said : goal.returns-in-Bytes-clause-said
unfolding bytes words_of saying
returns-in-Bytes-clause-said c = rw c.in-Bytes.is

pub returns-in-Segment-clause-said : goal.returns-in-Segment-clause-said
unfolding bytes words_of saying
returns-in-Segment-clause-said c = rw c.in-Segment.is

pub returns-in-TooMany-clause-said : goal.returns-in-TooMany-clause-said
unfolding bytes words_of saying
returns-in-TooMany-clause-said c = rw c.in-TooMany.is

pub returns-in-Order-clause-said : goal.returns-in-Order-clause-said
unfolding bytes words_of saying
returns-in-Order-clause-said c = rw c.in-Order.is

pub returns-in-Missing-clause-said : goal.returns-in-Missing-clause-said
unfolding bytes words_of saying
returns-in-Missing-clause-said c = rw c.in-Missing.is

pub returns-in-Null-clause-said : goal.returns-in-Null-clause-said
unfolding bytes words_of saying
returns-in-Null-clause-said c = rw c.in-Null.is

pub returns-in-Repeated-clause-said : goal.returns-in-Repeated-clause-said
unfolding bytes words_of saying
returns-in-Repeated-clause-said c = rw c.in-Repeated.is

pub returns-in-Escape-clause-said : goal.returns-in-Escape-clause-said
unfolding bytes words_of saying
returns-in-Escape-clause-said c = rw c.in-Escape.is

pub returns-in-Long-clause-said : goal.returns-in-Long-clause-said
unfolding bytes words_of saying
returns-in-Long-clause-said c = rw c.in-Long.is

pub returns-in-Status-clause-said : goal.returns-in-Status-clause-said
unfolding bytes words_of saying
returns-in-Status-clause-said c = rw c.in-Status.is

pub returns-in-Differs-clause-said : goal.returns-in-Differs-clause-said
unfolding bytes words_of saying
returns-in-Differs-clause-said c = rw c.in-Differs.is

pub returns-in-NoOrdinal-clause-said : goal.returns-in-NoOrdinal-clause-said
unfolding bytes words_of saying
returns-in-NoOrdinal-clause-said c = rw c.in-NoOrdinal.is

pub returns-in-Zero-clause-said : goal.returns-in-Zero-clause-said
unfolding bytes words_of saying
returns-in-Zero-clause-said c = rw c.in-Zero.is

pub returns-in-SheetTooLong-clause-said : goal.returns-in-SheetTooLong-clause-said
unfolding bytes words_of saying
returns-in-SheetTooLong-clause-said c = rw c.in-SheetTooLong.is

pub returns-in-SheetBytes-clause-said : goal.returns-in-SheetBytes-clause-said
unfolding bytes words_of saying
returns-in-SheetBytes-clause-said c = rw c.in-SheetBytes.is

pub returns-in-Key-clause-said : goal.returns-in-Key-clause-said
unfolding bytes words_of saying
returns-in-Key-clause-said c = rw c.in-Key.is

pub returns-in-LineValue-clause-said : goal.returns-in-LineValue-clause-said
unfolding bytes words_of saying
returns-in-LineValue-clause-said c = rw c.in-LineValue.is

pub returns-in-Overflow-clause-said : goal.returns-in-Overflow-clause-said
unfolding bytes words_of saying
returns-in-Overflow-clause-said c = rw c.in-Overflow.is

pub returns-in-Room-clause-said : goal.returns-in-Room-clause-said
unfolding bytes words_of saying
returns-in-Room-clause-said c = rw c.in-Room.is

pub returns-in-Value-clause-said : goal.returns-in-Value-clause-said
unfolding words_of
returns-in-Value-clause-said c = rw c.in-Value.is c.breach_words.ensures.said
