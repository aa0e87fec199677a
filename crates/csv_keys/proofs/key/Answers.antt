use mathlib.Core.Path.{refl}
use borrow.Author.Rules.{rules}
use Rattle.rules.specs.Lists.{bytes, all}
use Rattle.csv_rules.specs.Columns.{meaning_of}
use Rattle.csv_keys.specs.Ways.{meaning_in}
use Rattle.csv_keys.proofs.Rows.{sex-at, class-at, form-at, text_at_lem, family-at, given-at, fifteen-at, kind_at}
use Rattle.csv_keys.proofs.key.Goals as goal

pub returns-in-Text : goal.returns-in-Text
returns-in-Text c = search (text_at_lem, rules)

pub returns-in-UpToBlank : goal.returns-in-UpToBlank
returns-in-UpToBlank c = search (family-at, rules)

pub returns-in-PastBlank : goal.returns-in-PastBlank
returns-in-PastBlank c = search (given-at, rules)

pub returns-in-Fifteen : goal.returns-in-Fifteen
returns-in-Fifteen c = search (fifteen-at, rules)

pub returns-in-ValueType : goal.returns-in-ValueType
returns-in-ValueType c = search (kind_at, rules)

pub coded-requires : goal.coded-requires
unfolding all
coded-requires c = refl

pub coded-requires-in-Class : goal.coded-requires-in-Class
unfolding all
coded-requires-in-Class c = refl

pub coded-requires-in-Form : goal.coded-requires-in-Form
unfolding all
coded-requires-in-Form c = refl

pub returns-in-Sex : goal.returns-in-Sex
unfolding meaning_in meaning_of bytes
returns-in-Sex c = search (sex-at, rules)

pub returns-in-Class : goal.returns-in-Class
unfolding meaning_in meaning_of bytes
returns-in-Class c = search (class-at, rules)

pub returns-in-Form : goal.returns-in-Form
unfolding meaning_in meaning_of bytes
returns-in-Form c = search (form-at, rules)
