-- `near` gives the bytes before the nearest cut.
use Rattle.std.proofs.Common.{arith}
use Rattle.views.specs.Contents.{content_lies}
use Rattle.wide.specs.Near.{near_run}
use Rattle.wide.proofs.near.Goals as goal

pub returns : goal.returns
returns c =
    near_run _ _ _ _ _ (content_lies c.args.v.content c.requires) c.if-at-v.false c.min.result _ _ (omega (arith, c.min.ensures)) (omega (arith, c.min.ensures)) (omega (arith, c.min.ensures, c.if-at-v.false, c.requires)) c.run.ensures
