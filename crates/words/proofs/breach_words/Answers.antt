use Rattle.rules.specs.Lists.{bytes}
use Rattle.words.specs.Words.{saying, breach_words}
use Rattle.words.proofs.breach_words.Goals as goal

pub returns-in-NoTime-clause-said : goal.returns-in-NoTime-clause-said
unfolding bytes breach_words saying
returns-in-NoTime-clause-said c = rw c.in-NoTime.is

pub returns-in-NoDate-clause-said : goal.returns-in-NoDate-clause-said
unfolding bytes breach_words saying
returns-in-NoDate-clause-said c = rw c.in-NoDate.is

pub returns-in-NoDigits-clause-said : goal.returns-in-NoDigits-clause-said
unfolding bytes breach_words saying
returns-in-NoDigits-clause-said c = rw c.in-NoDigits.is

pub returns-in-NoWord-clause-said : goal.returns-in-NoWord-clause-said
unfolding bytes breach_words saying
returns-in-NoWord-clause-said c = rw c.in-NoWord.is

pub returns-in-NoCode-clause-said : goal.returns-in-NoCode-clause-said
unfolding bytes breach_words saying
returns-in-NoCode-clause-said c = rw c.in-NoCode.is

pub returns-in-NoCharset-clause-said : goal.returns-in-NoCharset-clause-said
unfolding bytes breach_words saying
returns-in-NoCharset-clause-said c = rw c.in-NoCharset.is

pub returns-in-NoValue-clause-said : goal.returns-in-NoValue-clause-said
unfolding bytes breach_words saying
returns-in-NoValue-clause-said c = rw c.in-NoValue.is

pub returns-in-Unsaid-clause-said : goal.returns-in-Unsaid-clause-said
unfolding bytes breach_words saying
returns-in-Unsaid-clause-said c = rw c.in-Unsaid.is
