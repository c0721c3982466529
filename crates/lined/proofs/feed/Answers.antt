-- `feed` finds the next LF, near or by blocks. Assumes nothing.
use Rattle.lined.specs.Searching.{soon_next}
use Rattle.lined.proofs.feed.Goals as goal

pub returns-then-k-lt32 : goal.returns-then-k-lt32
returns-then-k-lt32 c =
    let s = c.args in
    soon_next s.doc.now s.end s.at c.soon-k.result c.soon-k.ensures c.if-k-lt32.true
