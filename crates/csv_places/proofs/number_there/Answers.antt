use borrow.Author.Rules.{rules}
use Rattle.std.proofs.lemmas.Option.{MatchOption-at_some}
use Rattle.csv_places.proofs.Laws.{row_inside, row-some, number_is_lem}
use Rattle.csv_places.proofs.number_there.Goals as goal

pub row-requires : goal.row-requires
row-requires c = row_inside c.args.file.now c.args.p c.requires

pub unwrap-there-requires : goal.unwrap-there-requires
unwrap-there-requires c = row-some c.args.file.now c.args.p c.requires c.row.result _ c.row.ensures

pub returns : goal.returns
returns c =
    number_is_lem c.args.file.now c.args.p c.requires _ _ _ _ (MatchOption-at_some _ _ _ c.unwrap-there.ensures c.row.ensures) _ _
    c.same_number.ensures
