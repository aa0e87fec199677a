use borrow.Author.Rules.{rules}
use Rattle.csv_places.proofs.Laws.{byte-first, byte_small}
use Rattle.csv_places.proofs.with_byte.Goals as goal

pub returns : goal.returns
returns c = record { value = search (byte-first, rules); small = search (byte_small, rules) }
