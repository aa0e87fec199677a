use Rattle.std.proofs.lemmas.Option.{MatchOption-at_some}
use Rattle.csv_calls.proofs.Sheet.{found-some, part-long, made_told_lem}
use Rattle.csv_calls.proofs.made_in.Goals as goal

pub unwrap-put-requires : goal.unwrap-put-requires
unwrap-put-requires c = found-some _ _ c.requires.2 _ _ _ c.put_sheet.ensures

pub slice_bounds-handed-end-2 : goal.slice_bounds-handed-end-2
slice_bounds-handed-end-2 c = part-long _ _ _ _ _ _ _ _ _ (MatchOption-at_some _ _ _ c.unwrap-put.ensures c.put_sheet.ensures)

pub returns : goal.returns
returns c =
    made_told_lem _ _ c.requires.2 _ _ _ _ _ _ _ (MatchOption-at_some _ _ _ c.unwrap-put.ensures c.put_sheet.ensures) c.requires.0 _ _ _
    c.handed.ensures
