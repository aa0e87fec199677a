use mathlib.Core.Path.{refl}
use Rattle.csv_keys.proofs.Compare.{keys-less, keys-differ, keys_on, keys-end}
use Rattle.csv_keys.proofs.same_key.Goals as goal

pub returns-in_default-split_first : goal.returns-in_default-split_first
returns-in_default-split_first c = keys-less _ _ _ _ c.loop-p.invariant _ _ c.in-Some.ensures.is c.in_default-split_first.ensures

pub returns-then-p-q : goal.returns-then-p-q
returns-then-p-q c = keys-differ _ _ _ _ c.loop-p.invariant _ _ _ _ c.in-Some.ensures.is c.in-Some-split_first.ensures.is c.if-p-q.true

pub loop-p-preserved : goal.loop-p-preserved
loop-p-preserved c = keys_on _ _ _ _ c.loop-p.invariant _ _ _ _ c.in-Some.ensures.is c.in-Some-split_first.ensures.is c.if-p-q.false

pub returns : goal.returns
returns c = keys-end _ _ _ _ c.loop-p.invariant c.split_first-2.result _ _ _ refl c.in_default.ensures c.split_first-2.ensures c.is_none.ensures
