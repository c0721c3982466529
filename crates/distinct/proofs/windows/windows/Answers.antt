-- `windows` tells whether no two keys have one text. The loop's invariant: none have exactly if none from here on have.
use Rattle.std.proofs.Common.{arith}
use Rattle.distinct.specs.Windows.{going_first, sifted_over, onward_more, onward_twice}
use Rattle.distinct.proofs.windows.windows.Goals as goal

pub loop-r-init : goal.loop-r-init
loop-r-init g c = going_first _ _ _ c.requires

pub loop-r-preserved : goal.loop-r-preserved
loop-r-preserved g c = onward_more _ _ _ c.window_for.ensures _ c.in-Some.is _ c.loop-r.invariant

pub returns-in-None : goal.returns-in-None
returns-in-None g c = onward_twice _ _ _ c.loop-r.invariant _ c.window_for.ensures c.in-None.is

pub returns : goal.returns
returns g c =
    let e = g.met.K.Keys.stops c.args.keys.now c.args.text.now c.args.stop in
    sifted_over _ _ _ c.loop-r.invariant (omega (arith, e))
