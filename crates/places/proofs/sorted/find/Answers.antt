-- `find` tells where a key belongs. The loop's invariant: behind the first lo, and before those from hi on.
use Rattle.std.proofs.Common.{◌+◌, ◌/◌, refl, rules}
use Rattle.places.specs.Joins.{find_above, finding}
use Rattle.places.proofs.sorted.find.Goals as goal

pub loop-lo-preserved-in-Less : goal.loop-lo-preserved-in-Less
loop-lo-preserved-in-Less c = search finding

pub returns-in-Equal : goal.returns-in-Equal
returns-in-Equal c = search finding

pub loop-lo-preserved : goal.loop-lo-preserved
loop-lo-preserved c =
    let s = c.before.before.before.before.before.before.before.before.before.before in
    let l = c.loop-lo in
    let f = find_above s.args.doc.now s.args.keys.now s.args.marks.now s.args.order.now s.args.i s.requires l.lo l.hi l.invariant c.loop-lo-test.true ((l.lo + l.hi) / 2) refl in
    search (f, rules)

pub returns : goal.returns
returns c = search finding
