-- `place` goes from a view out to the stored bytes.
use Rattle.std.proofs.Common.{refl, rules}
use Rattle.views.specs.Views.{came_next, came_next_few, placing}
use Rattle.views.proofs.place.Goals as goal

pub outward-p-requires : goal.outward-p-requires
outward-p-requires c = came_next_few c.loop-k.invariant.0 c.loop-k-test.true refl

pub loop-k-preserved : goal.loop-k-preserved
loop-k-preserved c = (came_next c.loop-k.invariant.0 c.loop-k-test.true refl c.outward-p.ensures, c.loop-k.invariant.1)

pub returns : goal.returns
returns c = search (placing, rules)
