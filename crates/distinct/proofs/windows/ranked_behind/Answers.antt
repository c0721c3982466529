-- `ranked_behind` seeks the keys behind a window in its order. The loop's invariant: one is there exactly if one from here on is.
use Rattle.std.proofs.Common.{arith}
use Rattle.distinct.specs.Shown.{shown_finds}
use Rattle.distinct.specs.Windows.{going_first, trailed_none, trailed_there, trailed_gap}
use Rattle.distinct.proofs.windows.ranked_behind.Goals as goal

pub loop-r-init : goal.loop-r-init
loop-r-init g c = going_first _ _ _ c.requires.1

pub returns-then-is_ok : goal.returns-then-is_ok
returns-then-is_ok g c =
    let e = g.met.K.Keys.stops c.args.keys.now c.args.text.now c.args.stop in
    trailed_there _ _ _ _ _ _ _ c.loop-r.invariant (omega (arith, e)) _ _ (shown_finds _ _ _ _ c.key-k.ensures _ _ _ _ _ _ c.in_order.ensures) _ c.is_ok.ensures.value c.if-is_ok.true

pub loop-r-preserved : goal.loop-r-preserved
loop-r-preserved g c =
    let e = g.met.K.Keys.stops c.args.keys.now c.args.text.now c.args.stop in
    trailed_gap _ _ _ _ _ _ _ c.loop-r.invariant (omega (arith, e)) _ _ (shown_finds _ _ _ _ c.key-k.ensures _ _ _ _ _ _ c.in_order.ensures) _ c.is_ok.ensures.value c.requires.0 c.if-is_ok.false _ c.key-k.ensures.next

pub returns : goal.returns
returns g c =
    let e = g.met.K.Keys.stops c.args.keys.now c.args.text.now c.args.stop in
    trailed_none _ _ _ _ _ _ _ c.loop-r.invariant (omega (arith, e))
