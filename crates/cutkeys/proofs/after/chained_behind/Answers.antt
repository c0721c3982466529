-- `chained_behind` seeks the keys behind the window in its chains. The loop's invariant: one is there exactly if one from here on is.
use native.Mathlib.Omega.{arith}
use Rattle.distinct.specs.Windows.{trailed_over, trailed_long, trailed_met, trailed_past, trailing}
use Rattle.cutkeys.proofs.WholeLaws.{found_part, found_open, found_next, found_less, found_sits, finding}
use Rattle.cutkeys.proofs.after.chained_behind.Goals as goal

pub loop-found-init : goal.loop-found-init
loop-found-init c = (search (finding, trailing), c.seek-found.ensures.seeing)

pub in_chains-requires : goal.in_chains-requires
in_chains-requires c = let k = c.in-Some.k in (c.requires.0, found_part _ _ _ _ k (c.loop-found.invariant.1.seen k c.in-Some.is))

pub returns-in_err-in_chains : goal.returns-in_err-in_chains
returns-in_err-in_chains c = trailed_long _ _ _ _ _ _ _ c.loop-found.invariant.0 _ c.from_residual.ensures.0

pub returns-then-is_some : goal.returns-then-is_some
returns-then-is_some c =
    let k = c.in-Some.k in
    let s = c.loop-found.invariant.1.seen k c.in-Some.is in
    let g = rw c.in-Some.is at c.loop-found.invariant.0 in
    trailed_met _ _ _ _ _ _ _ g s.low _ (found_sits _ _ _ _ k s c.args.text.now c.args.froms.now c.args.tos.now c.args.n _ c.in_ok-in_chains.ensures) _ c.is_some.ensures c.if-is_some.true

pub seek-found-requires-in-Some : goal.seek-found-requires-in-Some
seek-found-requires-in-Some c =
    let k = c.in-Some.k in
    let s = c.loop-found.invariant.1.seen k c.in-Some.is in
    (found_open _ _ _ _ k s, s.run)

pub loop-found-smaller : goal.loop-found-smaller
loop-found-smaller c =
    let k = c.in-Some.k in
    let s = c.loop-found.invariant.1.seen k c.in-Some.is in
    let g = rw c.in-Some.is at c.loop-found.invariant.0 in
    rw c.in-Some.is (found_less _ _ _ _ k s _ c.seek-found-in-Some.ensures g.keys)

pub loop-found-preserved : goal.loop-found-preserved
loop-found-preserved c =
    let k = c.in-Some.k in
    let s = c.loop-found.invariant.1.seen k c.in-Some.is in
    let g = rw c.in-Some.is at c.loop-found.invariant.0 in
    let q = c.seek-found-in-Some.ensures in
    let t = found_sits _ _ _ _ k s c.args.text.now c.args.froms.now c.args.tos.now c.args.n _ c.in_ok-in_chains.ensures in
    (trailed_past _ _ _ _ _ _ _ g s.low _ t _ c.is_some.ensures c.if-is_some.false _ (found_next _ _ _ _ k s _ q), q.seeing)

pub returns : goal.returns
returns c = trailed_over _ _ _ _ _ _ _ (rw c.in_default.is at c.loop-found.invariant.0) (omega arith)
