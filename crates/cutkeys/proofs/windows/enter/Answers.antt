-- `enter` puts keys into a window and its chains as they are passed. The loop's invariant: the first n stand there, none has the text of an earlier one, and the others are those from the one found on.
use borrow.Author.Rules.{rules}
use mathlib.Core.Path.{refl}
use Rattle.distinct.specs.Windows.{gather_few, gather_room, gather_even}
use Rattle.distinct.specs.Entering.{enter_full, enter_over, enter_chaining, enter_met, enter_more}
use Rattle.cutkeys.proofs.WholeLaws.{found_part, found_from, found_to, found_text, found_open, found_next, found_less, finding}
use Rattle.cutkeys.proofs.windows.enter.Goals as goal

pub loop-found-init : goal.loop-found-init
loop-found-init c = (search finding, c.seek-found.ensures.seeing, refl, refl, refl, refl)

pub returns-then-n-froms : goal.returns-then-n-froms
returns-then-n-froms c = let g = rw c.in-Some.is at c.loop-found.invariant.0 in search (g, enter_full, rules)

pub overflow_cast-froms : goal.overflow_cast-froms
overflow_cast-froms c = let k = c.in-Some.k in found_from _ _ _ _ k (c.loop-found.invariant.1.seen k c.in-Some.is)

pub offset_bounds-froms-n : goal.offset_bounds-froms-n
offset_bounds-froms-n c = let g = gather_room _ _ _ _ _ _ _ c.loop-found.invariant.0.gathering c.if-n-froms.false in search (g, rules)

pub bounds-froms-n : goal.bounds-froms-n
bounds-froms-n c = let g = gather_room _ _ _ _ _ _ _ c.loop-found.invariant.0.gathering c.if-n-froms.false in search (g, rules)

pub overflow_cast-tos : goal.overflow_cast-tos
overflow_cast-tos c = let k = c.in-Some.k in found_to _ _ _ _ k (c.loop-found.invariant.1.seen k c.in-Some.is)

pub offset_bounds-tos-n : goal.offset_bounds-tos-n
offset_bounds-tos-n c = let g = gather_even _ _ _ _ _ _ _ c.loop-found.invariant.0.gathering c.if-n-froms.false in search (g, rules)

pub bounds-tos-n : goal.bounds-tos-n
bounds-tos-n c = let g = gather_even _ _ _ _ _ _ _ c.loop-found.invariant.0.gathering c.if-n-froms.false in search (g, rules)

pub overflow_add-n : goal.overflow_add-n
overflow_add-n c = let g = gather_few _ _ _ _ _ _ _ c.loop-found.invariant.0.gathering in search (g, rules)

pub chained-requires : goal.chained-requires
chained-requires c =
    let k = c.in-Some.k in
    let s = c.loop-found.invariant.1.seen k c.in-Some.is in
    let g = rw c.in-Some.is at c.loop-found.invariant.0 in
    enter_chaining _ _ _ _ _ _ _ _ _ g c.if-n-froms.false s.low _ _ (found_part _ _ _ _ k s) (found_text _ _ _ _ k s)

pub returns-then-is_some : goal.returns-then-is_some
returns-then-is_some c =
    let k = c.in-Some.k in
    let s = c.loop-found.invariant.1.seen k c.in-Some.is in
    let g = rw c.in-Some.is at c.loop-found.invariant.0 in
    enter_met _ _ _ _ _ _ _ _ _ g c.if-n-froms.false s.low _ _ (found_part _ _ _ _ k s) (found_text _ _ _ _ k s) _ _ _ c.in_ok-chained.ensures _ c.is_some.ensures c.if-is_some.true

pub seek-found-requires-in-Some : goal.seek-found-requires-in-Some
seek-found-requires-in-Some c =
    let k = c.in-Some.k in
    let s = c.loop-found.invariant.1.seen k c.in-Some.is in
    (found_open _ _ _ _ k s, s.run)

pub loop-found-smaller : goal.loop-found-smaller
loop-found-smaller c =
    let k = c.in-Some.k in
    let s = c.loop-found.invariant.1.seen k c.in-Some.is in
    let g = rw c.in-Some.is at c.loop-found.invariant.0 in
    rw c.in-Some.is (found_less _ _ _ _ k s _ c.seek-found-in-Some.ensures g.gathering.keys)

pub loop-found-preserved : goal.loop-found-preserved
loop-found-preserved c =
    let k = c.in-Some.k in
    let s = c.loop-found.invariant.1.seen k c.in-Some.is in
    let g = rw c.in-Some.is at c.loop-found.invariant.0 in
    let q = c.seek-found-in-Some.ensures in
    let f = enter_more _ _ _ _ _ _ _ _ _ g c.if-n-froms.false s.low _ _ (found_part _ _ _ _ k s) (found_text _ _ _ _ k s) _ _ _ c.in_ok-chained.ensures _ c.is_some.ensures c.if-is_some.false c.chained.auto.links in
    (f _ (found_next _ _ _ _ k s _ q), q.seeing, search rules, search rules, search rules, search rules)

pub returns : goal.returns
returns c = let g = rw c.in_default.is at c.loop-found.invariant.0 in search (g, enter_over, rules)
