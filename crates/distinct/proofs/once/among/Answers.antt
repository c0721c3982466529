-- `among` tells whether a key has a text. The loop's invariant: one has it exactly if one from here on has.
use Rattle.std.proofs.Common.{arith}
use Rattle.distinct.specs.Shown.{shown_is}
use Rattle.distinct.specs.Windows.{seeking, sought_met, sought_on}
use Rattle.distinct.proofs.once.among.Goals as goal

pub loop-r-init : goal.loop-r-init
loop-r-init g c = search seeking

pub returns-then-same_text : goal.returns-then-same_text
returns-then-same_text g c =
    let e = g.met.K.Keys.stops c.args.keys.now c.args.text.now c.args.stop in
    sought_met _ _ _ _ c.loop-r.invariant (omega (arith, e)) _ (shown_is _ _ _ _ c.key-k.ensures _ _ c.same_text.ensures) c.if-same_text.true

pub loop-r-preserved : goal.loop-r-preserved
loop-r-preserved g c =
    let e = g.met.K.Keys.stops c.args.keys.now c.args.text.now c.args.stop in
    sought_on _ _ _ _ c.loop-r.invariant (omega (arith, e)) _ (shown_is _ _ _ _ c.key-k.ensures _ _ c.same_text.ensures) c.if-same_text.false _ c.key-k.ensures.next

pub returns : goal.returns
returns g c = let e = g.met.K.Keys.stops c.args.keys.now c.args.text.now c.args.stop in search seeking
