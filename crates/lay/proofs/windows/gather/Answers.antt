-- `gather` fills a window with the texts of keys. The loop's invariant: the first n stand there, and the others are those from r on.
use mathlib.Core.Path.{refl}
use Rattle.lay.specs.Gathering.{gather_value, gathers}
use Rattle.lay.proofs.windows.gather.Goals as goal

pub returns-then-n-most : goal.returns-then-n-most
returns-then-n-most c = search gathers

pub word-r-requires : goal.word-r-requires
word-r-requires c =
    let l = c.loop-r in
    gather_value c.args.table.now.rows.now c.args.table.now.text.now c.args.q c.args.end c.requires.0 c.args.most l.froms l.tos l.marks l.n l.r l.invariant.0 c.if-n-most.false c.loop-r-test.true 6 refl

pub loop-r-smaller : goal.loop-r-smaller
loop-r-smaller c = search gathers

pub loop-r-preserved : goal.loop-r-preserved
loop-r-preserved c = search gathers

pub returns : goal.returns
returns c = search gathers
