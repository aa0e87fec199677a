use mathlib.Core.Path.{◌≡◌, ◌∙◌}
use Prim.Native.Nat.{◌≤◌}
use borrow.Author.Rules.{rules}
use native.Mathlib.Omega.{arith}
use lib.ListN.{length}
use Rattle.std.specs.Prelude.{sum_by}
use Rattle.std.proofs.iter.runs.Made.{chains}
use Rattle.writer.proofs.Weaving.{sizes_sum}
use Rattle.writer.proofs.sizes_of.Goals as goal

pub sum-requires-clause-fits : goal.sum-requires-clause-fits
sum-requires-clause-fits c =
    let w : sum_by (λ t. length t.now) c.args.texts.now ≤ 1000000 = omega (arith, sizes_sum c.args.texts.now) in search (rules, chains)

pub returns : goal.returns
returns c = let w : c.sum.result ≡ sum_by (λ t. length t.now) c.args.texts.now = search rules in w ∙ sizes_sum c.args.texts.now
