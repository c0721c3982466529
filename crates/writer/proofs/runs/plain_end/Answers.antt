-- `plain_end` passes plain bytes: 4 one at a time, then 16 at a time, then 8, then the last ones.
use Rattle.writer.specs.Runs.{selfs_then}
use Rattle.writer.proofs.runs.plain_end.Goals as goal

pub returns : goal.returns
returns c =
    selfs_then c.plain_near-near.ensures
    (selfs_then c.plain_blocks-far.ensures (selfs_then c.plain_half-half.ensures c.plain_near.ensures))
