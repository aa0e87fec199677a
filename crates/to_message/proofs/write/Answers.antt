use Rattle.to_message.proofs.Calling.{base-proper, measured-short, measured-right, write-44, write-45, write-all}
use borrow.Author.Rules.{rules}
use Rattle.to_message.proofs.write.Goals as goal

pub returns-then-bytes-size : goal.returns-then-bytes-size
returns-then-bytes-size c = search (write-44, rules)

pub returns-then-out-bytes : goal.returns-then-out-bytes
returns-then-out-bytes c = search (write-45, rules)

pub pass-requires : goal.pass-requires
pass-requires c = search (measured-short, measured-right, base-proper, rules)

pub returns : goal.returns
returns c = search (write-all, rules)
