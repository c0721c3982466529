-- `texts` tells how two texts stand to each other. The loop's invariant: they agree so far.
use Rattle.places.specs.Names.{agreeing, agree_begun, agree_able₂, agree_spells, agree_spells₂, agree_weight, agree_further}
use Rattle.std.proofs.Common.{rules}
use Rattle.places.proofs.names.texts.Goals as goal

pub common-p-requires : goal.common-p-requires
common-p-requires c = search agreeing

pub loop-c-init : goal.loop-c-init
loop-c-init c =
    let s = c.before.before.before.before in
    agree_begun _ _ _ _ _ s.requires.0 s.requires.1 c.begin.ensures c.begin-2.ensures _ _ c.common-p.ensures

pub next-y-requires : goal.next-y-requires
next-y-requires c = agree_able₂ _ _ _ _ _ _ _ c.loop-c.invariant

pub returns-in-None-y : goal.returns-in-None-y
returns-in-None-y c = search agreeing

pub returns-in-Some-y : goal.returns-in-Some-y
returns-in-Some-y c = search agreeing

pub returns-in-None-y-2 : goal.returns-in-None-y-2
returns-in-None-y-2 c = search agreeing

pub returns-then-c-d : goal.returns-then-c-d
returns-then-c-d c = search agreeing

pub common-p-requires-in-Some-y-2 : goal.common-p-requires-in-Some-y-2
common-p-requires-in-Some-y-2 c =
    let f = agree_spells _ _ _ _ _ _ _ c.loop-c.invariant _ _ c.next-x.ensures _ _ c.next-y.ensures in
    let g = agree_spells₂ _ _ _ _ _ _ _ c.loop-c.invariant _ _ c.next-x.ensures _ _ c.next-y.ensures in
    search (f, g, rules)

pub loop-c-smaller : goal.loop-c-smaller
loop-c-smaller c =
    let f = agree_weight _ _ _ _ _ _ _ c.loop-c.invariant _ _ c.next-x.ensures _ _ c.next-y.ensures in
    search (f, rules)

pub loop-c-preserved : goal.loop-c-preserved
loop-c-preserved c =
    let f = agree_further _ _ _ _ _ _ _ c.loop-c.invariant _ _ c.next-x.ensures _ _ c.next-y.ensures in
    f _ _ _ _ (search rules) (search rules) c.if-c-d.false (search (c.next-x, rules)) (search (c.next-y, rules)) _ _ c.common-p-in-Some-y-2.ensures
