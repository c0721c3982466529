-- `skip` passes those before the nearest cut.
use Rattle.cutkeys.specs.CutsPast.{skip_below, skipping}
use Rattle.cutkeys.proofs.cuts.skip.Goals as goal

pub near-r-requires : goal.near-r-requires
near-r-requires c = skip_below _ _ _ _ _ _ _ _ c.args.v.content c.requires

pub overflow_add-result : goal.overflow_add-result
overflow_add-result c = let v = c.args.v.content in search (v, skipping)

pub returns : goal.returns
returns c = let v = c.args.v.content in search (v, skipping)
