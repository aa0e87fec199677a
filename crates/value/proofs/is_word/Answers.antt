use borrow.Author.Rules.{rules}
use Rattle.rules.specs.Lists.{bytes, split, onto}
use Rattle.value.specs.Rules.{text_of}
use Rattle.value.proofs.Laws.{word_is, one_word}
use Rattle.value.proofs.is_word.Goals as goal

pub returns-in-Oul : goal.returns-in-Oul
unfolding text_of bytes split onto
returns-in-Oul c = search (word_is, one_word, rules)

pub returns-in-R22 : goal.returns-in-R22
unfolding text_of bytes split onto
returns-in-R22 c = search (word_is, one_word, rules)

pub returns-in-OulR22 : goal.returns-in-OulR22
unfolding text_of bytes split onto
returns-in-OulR22 c = search (word_is, one_word, rules)

pub returns-in-Version : goal.returns-in-Version
unfolding text_of bytes split onto
returns-in-Version c = search (word_is, one_word, rules)

pub returns-in-Jc10 : goal.returns-in-Jc10
unfolding text_of bytes split onto
returns-in-Jc10 c = search (word_is, one_word, rules)

pub returns-in-Group : goal.returns-in-Group
unfolding text_of bytes split onto
returns-in-Group c = search (word_is, one_word, rules)

pub returns-in-Re : goal.returns-in-Re
unfolding text_of bytes split onto
returns-in-Re c = search (word_is, one_word, rules)

pub returns-in-Blank : goal.returns-in-Blank
unfolding text_of bytes split onto
returns-in-Blank c = search (word_is, one_word, rules)
