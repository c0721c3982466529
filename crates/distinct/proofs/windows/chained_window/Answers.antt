-- `chained_window` tells of the keys in a window by chains.
use Rattle.std.proofs.Common.{ap, arith, Ok}
use Rattle.distinct.specs.Entering.{entered_met, entered_past}
use Rattle.distinct.proofs.windows.chained_window.Goals as goal

pub returns-then-branch : goal.returns-then-branch
returns-then-branch g c =
    entered_met _ _ _ _ _ _ _ _ c.in_ok-enter.ensures _ (ap Ok c.in-Some.is) _ c.in_ok-chained_behind-in-Some.ensures (ap Ok c.if-branch.true)

pub returns-else-branch : goal.returns-else-branch
returns-else-branch g c =
    let e = g.met.K.Keys.stops c.args.keys.now c.args.text.now c.args.stop in
    entered_past _ _ _ _ _ _ _ _ c.in_ok-enter.ensures _ (ap Ok c.in-Some.is) _ c.in_ok-chained_behind-in-Some.ensures (omega (arith, e)) (ap Ok c.if-branch.false)
