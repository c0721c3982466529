-- `gather` fills a window with the places of keys' texts. The loop's invariant: the first n stand there, and the others are those from the one found on.
use borrow.Author.Rules.{rules}
use mathlib.Core.Path.{refl}
use Rattle.distinct.specs.Windows.{gather_more, gathering}
use Rattle.cutkeys.proofs.WholeLaws.{found_part, found_from, found_to, found_text, found_open, found_next, found_less, finding}
use Rattle.cutkeys.proofs.windows.gather.Goals as goal

pub loop-found-init : goal.loop-found-init
loop-found-init c = (search (finding, gathering), c.seek-found.ensures.seeing, refl, refl)

pub returns-then-n-froms : goal.returns-then-n-froms
returns-then-n-froms c = let g = rw c.in-Some.is at c.loop-found.invariant.0 in search (g, gathering)

pub overflow_cast-froms : goal.overflow_cast-froms
overflow_cast-froms c = let k = c.in-Some.k in found_from _ _ _ _ k (c.loop-found.invariant.1.seen k c.in-Some.is)

pub overflow_cast-tos : goal.overflow_cast-tos
overflow_cast-tos c = let k = c.in-Some.k in found_to _ _ _ _ k (c.loop-found.invariant.1.seen k c.in-Some.is)

pub seek-found-requires-in-Some : goal.seek-found-requires-in-Some
seek-found-requires-in-Some c =
    let k = c.in-Some.k in
    let s = c.loop-found.invariant.1.seen k c.in-Some.is in
    (found_open _ _ _ _ k s, s.run)

pub loop-found-smaller : goal.loop-found-smaller
loop-found-smaller c =
    let k = c.in-Some.k in
    let s = c.loop-found.invariant.1.seen k c.in-Some.is in
    let g = rw c.in-Some.is at c.loop-found.invariant.0 in
    rw c.in-Some.is (found_less _ _ _ _ k s _ c.seek-found-in-Some.ensures g.keys)

pub loop-found-preserved : goal.loop-found-preserved
loop-found-preserved c =
    let k = c.in-Some.k in
    let s = c.loop-found.invariant.1.seen k c.in-Some.is in
    let g = rw c.in-Some.is at c.loop-found.invariant.0 in
    let q = c.seek-found-in-Some.ensures in
    (gather_more _ _ _ _ _ _ _ g c.if-n-froms.false s.low _ _ (found_part _ _ _ _ k s) (found_text _ _ _ _ k s) _ (found_next _ _ _ _ k s _ q), q.seeing, search rules, search rules)

pub returns : goal.returns
returns c = let g = rw c.in_default.is at c.loop-found.invariant.0 in search (g, gathering)
