-- `enter` puts keys into a window and its chains as they are passed. The loop's invariant: the first n stand there, none has the text of an earlier one, and the others are those from r on.
use Rattle.std.proofs.Common.{refl, arith, rules}
use Rattle.distinct.specs.Windows.{open_less}
use Rattle.distinct.specs.Entering.{enter_first, enter_chaining, enter_met, enter_more}
use Rattle.distinct.proofs.windows.enter.Goals as goal

pub loop-r-init : goal.loop-r-init
loop-r-init g c = (enter_first _ _ _ _ _ _ _ c.requires.0 c.requires.1, refl, refl, refl, refl)

pub chained-requires : goal.chained-requires
chained-requires g c =
    let e = g.met.K.Keys.stops c.args.keys.now c.args.text.now c.args.stop in
    enter_chaining _ _ _ _ _ _ _ _ _ c.loop-r.invariant.0 c.if-n-froms.false (omega (arith, e)) _ _ c.key-k.ensures.part c.key-k.ensures.is

pub returns-then-is_some : goal.returns-then-is_some
returns-then-is_some g c =
    let e = g.met.K.Keys.stops c.args.keys.now c.args.text.now c.args.stop in
    enter_met _ _ _ _ _ _ _ _ _ c.loop-r.invariant.0 c.if-n-froms.false (omega (arith, e)) _ _ c.key-k.ensures.part c.key-k.ensures.is _ _ _ c.in_ok-chained.ensures _ c.is_some.ensures c.if-is_some.true

pub loop-r-smaller : goal.loop-r-smaller
loop-r-smaller g c =
    let e = g.met.K.Keys.stops c.args.keys.now c.args.text.now c.args.stop in
    rw e at (open_less _ _ c.loop-r.invariant.0.gathering.keys (omega (arith, e)) _ c.key-k.ensures.next)

pub loop-r-preserved : goal.loop-r-preserved
loop-r-preserved g c =
    let e = g.met.K.Keys.stops c.args.keys.now c.args.text.now c.args.stop in
    (enter_more _ _ _ _ _ _ _ _ _ c.loop-r.invariant.0 c.if-n-froms.false (omega (arith, e)) _ _ c.key-k.ensures.part c.key-k.ensures.is _ _ _ c.in_ok-chained.ensures _ c.is_some.ensures c.if-is_some.false c.chained.auto.links _ c.key-k.ensures.next, search rules, search rules, search rules, search rules)
