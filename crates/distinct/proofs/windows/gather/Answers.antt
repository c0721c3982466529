-- `gather` fills a window with the places of keys' texts. The loop's invariant: the first n stand there, and the others are those from r on.
use Rattle.std.proofs.Common.{refl, arith, rules}
use Rattle.distinct.specs.Windows.{gather_first, gather_more}
use Rattle.distinct.proofs.windows.gather.Goals as goal

pub loop-r-init : goal.loop-r-init
loop-r-init g c = (gather_first _ _ _ _ _ c.requires.0 c.requires.1, refl, refl)

pub loop-r-preserved : goal.loop-r-preserved
loop-r-preserved g c =
    let e = g.met.K.Keys.stops c.args.keys.now c.args.text.now c.args.stop in
    (gather_more _ _ _ _ _ _ _ c.loop-r.invariant.0 c.if-n-froms.false (omega (arith, e)) _ _ c.key-k.ensures.part c.key-k.ensures.is _ c.key-k.ensures.next, search rules, search rules)
