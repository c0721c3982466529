-- `ranked_behind` seeks the keys behind the window in its order. The loop's invariant: one is there exactly if one from here on is.
use native.Mathlib.Omega.{arith}
use Rattle.distinct.specs.Windows.{trailed_none, trailed_there, trailed_gap, trailing}
use Rattle.cutkeys.proofs.WholeLaws.{found_part, found_open, found_next, found_less, found_finds, finding}
use Rattle.cutkeys.proofs.after.ranked_behind.Goals as goal

pub loop-found-init : goal.loop-found-init
loop-found-init c = (search (finding, trailing), c.seek-found.ensures.seeing)

pub in_order-requires : goal.in_order-requires
in_order-requires c = let k = c.in-Some.k in (c.requires.0, found_part _ _ _ _ k (c.loop-found.invariant.1.seen k c.in-Some.is))

pub returns-then-is_ok : goal.returns-then-is_ok
returns-then-is_ok c =
    let k = c.in-Some.k in
    let s = c.loop-found.invariant.1.seen k c.in-Some.is in
    let g = rw c.in-Some.is at c.loop-found.invariant.0 in
    let y = c.in_order in
    let t = found_finds _ _ _ _ k s c.args.text.now c.args.froms.now c.args.tos.now c.args.n c.args.order.now y.result y.ensures in
    trailed_there _ _ _ _ _ _ _ g s.low _ y.result t _ c.is_ok.ensures.value c.if-is_ok.true

pub seek-found-requires-in-Some : goal.seek-found-requires-in-Some
seek-found-requires-in-Some c =
    let k = c.in-Some.k in
    let s = c.loop-found.invariant.1.seen k c.in-Some.is in
    (found_open _ _ _ _ k s, s.run)

pub loop-found-smaller : goal.loop-found-smaller
loop-found-smaller c =
    let k = c.in-Some.k in
    let s = c.loop-found.invariant.1.seen k c.in-Some.is in
    let g = rw c.in-Some.is at c.loop-found.invariant.0 in
    rw c.in-Some.is (found_less _ _ _ _ k s _ c.seek-found-in-Some.ensures g.keys)

pub loop-found-preserved : goal.loop-found-preserved
loop-found-preserved c =
    let k = c.in-Some.k in
    let s = c.loop-found.invariant.1.seen k c.in-Some.is in
    let g = rw c.in-Some.is at c.loop-found.invariant.0 in
    let y = c.in_order in
    let q = c.seek-found-in-Some.ensures in
    let t = found_finds _ _ _ _ k s c.args.text.now c.args.froms.now c.args.tos.now c.args.n c.args.order.now y.result y.ensures in
    (trailed_gap _ _ _ _ _ _ _ g s.low _ y.result t _ c.is_ok.ensures.value c.requires.0 c.if-is_ok.false _ (found_next _ _ _ _ k s _ q), q.seeing)

pub returns : goal.returns
returns c = trailed_none _ _ _ _ _ _ _ (rw c.in_default.is at c.loop-found.invariant.0) (omega arith)
