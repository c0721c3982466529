-- `run` goes from a view out to the stored bytes, and keeps to the nearest cut.
use Rattle.std.proofs.Common.{refl, rules}
use Rattle.views.specs.Views.{along_next, along_next_few, reaching}
use Rattle.views.proofs.run.Goals as goal

pub outward-p-requires : goal.outward-p-requires
outward-p-requires c = along_next_few c.loop-k.invariant.0 c.loop-k-test.true refl

pub loop-k-preserved : goal.loop-k-preserved
loop-k-preserved c =
    let n = c.nearer-left.ensures in
    (along_next c.loop-k.invariant.0 c.loop-k-test.true refl c.outward-p.ensures n.0 n.1 n.2, c.loop-k.invariant.1)

pub returns : goal.returns
returns c = search (reaching, rules)
