-- `pairwise` tells whether no two keys have one text. The loop's invariant: none have exactly if none from here on have.
use Rattle.std.proofs.Common.{arith}
use Rattle.distinct.specs.Shown.{shown_among}
use Rattle.distinct.specs.Windows.{open_next, sifted_met, sifted_on, sifting}
use Rattle.distinct.proofs.once.pairwise.Goals as goal

pub loop-r-init : goal.loop-r-init
loop-r-init g c = search sifting

pub among-requires : goal.among-requires
among-requires g c =
    let e = g.met.K.Keys.stops c.args.keys.now c.args.text.now c.args.stop in
    (c.key-k.ensures.part, open_next _ _ c.loop-r.invariant.keys (omega (arith, e)) _ c.key-k.ensures.next)

pub returns-then-among : goal.returns-then-among
returns-then-among g c =
    let e = g.met.K.Keys.stops c.args.keys.now c.args.text.now c.args.stop in
    sifted_met _ _ _ c.loop-r.invariant (omega (arith, e)) _ c.key-k.ensures.next _ (shown_among _ _ _ _ c.key-k.ensures _ _ c.among.ensures) c.if-among.true

pub loop-r-preserved : goal.loop-r-preserved
loop-r-preserved g c =
    let e = g.met.K.Keys.stops c.args.keys.now c.args.text.now c.args.stop in
    sifted_on _ _ _ c.loop-r.invariant (omega (arith, e)) _ c.key-k.ensures.next _ (shown_among _ _ _ _ c.key-k.ensures _ _ c.among.ensures) c.if-among.false

pub returns : goal.returns
returns g c = let e = g.met.K.Keys.stops c.args.keys.now c.args.text.now c.args.stop in search sifting
