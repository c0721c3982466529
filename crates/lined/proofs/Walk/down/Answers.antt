-- `Walk::down` goes on into a later line. Assumes nothing.
use native.Mathlib.Omega.{arith}
use Rattle.lined.specs.Walking.{feed_here, line_fits, stands_below}
use Rattle.lined.proofs.Walk.down.Goals as goal

pub behind-start-requires : goal.behind-start-requires
behind-start-requires c = let s = c.before in (s.requires.1, s.requires.0.inside, feed_here s.args.doc.now s.args.end s.args.p s.args.self s.requires.0 s.requires.1)

pub lines-requires : goal.lines-requires
lines-requires c =
    let s = c.before in
    (s.requires.1, s.requires.0.inside, s.requires.0.small, feed_here s.args.doc.now s.args.end s.args.p s.args.self s.requires.0 s.requires.1, c.behind-start.ensures)

pub overflow_add-line : goal.overflow_add-line
overflow_add-line c =
    let s = c.before in
    let n = c.lines in
    omega (arith, line_fits s.args.doc.now s.args.end s.args.p s.args.self s.requires.0 s.requires.1 n.result n.ensures)

pub returns : goal.returns
returns c =
    let s = c.before in
    let n = c.lines in
    let k = c.behind-start in
    let f = c.feed-feed in
    stands_below s.args.doc.now s.args.end s.args.p s.args.self s.requires.0 s.requires.1 n.result k.result f.result c.max-tail.result n.ensures k.ensures f.ensures c.max-tail.ensures
