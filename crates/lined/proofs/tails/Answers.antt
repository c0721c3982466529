-- `tails` counts at one go, or by blocks. Assumes nothing.
use Rattle.lined.specs.Counted.{range}
use Rattle.lined.specs.Searching.{counted_to}
use Rattle.lined.proofs.tails.Goals as goal

pub returns : goal.returns
returns c =
    let s = c.before in
    counted_to (range 128 191) s.args.doc.now s.args.a s.args.e c.some.result s.requires.0 c.some.ensures
