-- `chained_behind` seeks the keys behind a window in its chains. The loop's invariant: one is there exactly if one from here on is.
use Rattle.std.proofs.Common.{arith}
use Rattle.distinct.specs.Shown.{shown_sits}
use Rattle.distinct.specs.Windows.{going_first, trailed_over, trailed_long, trailed_met, trailed_past}
use Rattle.distinct.proofs.windows.chained_behind.Goals as goal

pub loop-r-init : goal.loop-r-init
loop-r-init g c = going_first _ _ _ c.requires.1

pub returns-in_err-in_chains : goal.returns-in_err-in_chains
returns-in_err-in_chains g c = trailed_long _ _ _ _ _ _ _ c.loop-r.invariant _ c.from_residual.ensures.0

pub returns-then-is_some : goal.returns-then-is_some
returns-then-is_some g c =
    let e = g.met.K.Keys.stops c.args.keys.now c.args.text.now c.args.stop in
    trailed_met _ _ _ _ _ _ _ c.loop-r.invariant (omega (arith, e)) _ (shown_sits _ _ _ _ c.key-k.ensures _ _ _ _ _ c.in_ok-in_chains.ensures) _ c.is_some.ensures c.if-is_some.true

pub loop-r-preserved : goal.loop-r-preserved
loop-r-preserved g c =
    let e = g.met.K.Keys.stops c.args.keys.now c.args.text.now c.args.stop in
    trailed_past _ _ _ _ _ _ _ c.loop-r.invariant (omega (arith, e)) _ (shown_sits _ _ _ _ c.key-k.ensures _ _ _ _ _ c.in_ok-in_chains.ensures) _ c.is_some.ensures c.if-is_some.false _ c.key-k.ensures.next

pub returns : goal.returns
returns g c =
    let e = g.met.K.Keys.stops c.args.keys.now c.args.text.now c.args.stop in
    trailed_over _ _ _ _ _ _ _ c.loop-r.invariant (omega (arith, e))
