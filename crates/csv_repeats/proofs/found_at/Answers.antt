use Rattle.std.proofs.lemmas.Option.{MatchOption-at_some}
use Rattle.csv_places.proofs.Laws.{row-some}
use Rattle.csv_repeats.proofs.Laws.{there-inside, there-found}
use Rattle.csv_repeats.proofs.found_at.Goals as goal

pub row-requires : goal.row-requires
row-requires c = there-inside c.args.file.now c.args.p c.requires

pub unwrap-there-requires : goal.unwrap-there-requires
unwrap-there-requires c = row-some c.args.file.now c.args.p c.requires c.row.result _ c.row.ensures

pub returns : goal.returns
returns c =
    there-found c.args.file.now c.args.p c.requires _ _ _ _ (MatchOption-at_some _ _ _ c.unwrap-there.ensures c.row.ensures) _ _
    c.same_header.ensures _ c.by_header.ensures
