-- `gather_short` copies the texts of short keys that are cut. The loop's invariant: the first n stand in the room before x, and the others are those from the one found on.
use borrow.Author.Rules.{rules}
use mathlib.Core.Path.{refl}
use Rattle.cutkeys.specs.Copies.{copying_open, copying_less, copying_deep, copying_inner, copying_place, copying_content, copying_copied, copying_sum, copying_more, copying}
use Rattle.cutkeys.proofs.copies.gather_short.Goals as goal

pub loop-found-init : goal.loop-found-init
loop-found-init c = (search copying, c.seek_short-found.ensures.seeing, refl, refl, refl)

pub returns-then-n-froms : goal.returns-then-n-froms
returns-then-n-froms c = let g = rw c.in-Some.is at c.loop-found.invariant.0 in search (g, copying)

pub returns-then-room-x : goal.returns-then-room-x
returns-then-room-x c = let g = rw c.in-Some.is at c.loop-found.invariant.0 in search (g, copying)

pub deeper-a-requires : goal.deeper-a-requires
deeper-a-requires c =
    let k = c.in-Some.k in
    let s = c.loop-found.invariant.1.seen k c.in-Some.is in
    let g = rw c.in-Some.is at c.loop-found.invariant.0 in
    (copying_deep _ _ _ _ _ _ _ _ _ k g s, copying_place _ _ _ _ _ _ _ _ _ k g s)

pub overflow_add-text : goal.overflow_add-text
overflow_add-text c =
    let k = c.in-Some.k in
    let s = c.loop-found.invariant.1.seen k c.in-Some.is in
    let g = rw c.in-Some.is at c.loop-found.invariant.0 in
    copying_inner _ _ _ _ _ _ _ _ _ k g s

pub invariant_of-text : goal.invariant_of-text
invariant_of-text c =
    let k = c.in-Some.k in
    let s = c.loop-found.invariant.1.seen k c.in-Some.is in
    let g = rw c.in-Some.is at c.loop-found.invariant.0 in
    record { content = copying_content _ _ _ _ _ _ _ _ _ k g s _ c.deeper-a.ensures c.if-room-x.false }

pub text_of-requires : goal.text_of-requires
text_of-requires c =
    let k = c.in-Some.k in
    let s = c.loop-found.invariant.1.seen k c.in-Some.is in
    let g = rw c.in-Some.is at c.loop-found.invariant.0 in
    copying_copied _ _ _ _ _ _ _ _ _ k g s _ c.deeper-a.ensures c.if-room-x.false

pub overflow_add-x : goal.overflow_add-x
overflow_add-x c =
    let k = c.in-Some.k in
    let s = c.loop-found.invariant.1.seen k c.in-Some.is in
    let g = rw c.in-Some.is at c.loop-found.invariant.0 in
    let z = copying_sum _ _ _ _ _ _ _ _ _ k g s _ c.deeper-a.ensures c.if-room-x.false in
    search (z, rules)

pub overflow_cast-tos : goal.overflow_cast-tos
overflow_cast-tos c =
    let k = c.in-Some.k in
    let s = c.loop-found.invariant.1.seen k c.in-Some.is in
    let g = rw c.in-Some.is at c.loop-found.invariant.0 in
    copying_sum _ _ _ _ _ _ _ _ _ k g s _ c.deeper-a.ensures c.if-room-x.false

pub seek_short-found-requires-in-Some : goal.seek_short-found-requires-in-Some
seek_short-found-requires-in-Some c =
    let k = c.in-Some.k in
    let s = c.loop-found.invariant.1.seen k c.in-Some.is in
    let g = rw c.in-Some.is at c.loop-found.invariant.0 in
    (copying_open _ _ _ _ _ _ _ _ _ k g s, s.run)

pub loop-found-smaller : goal.loop-found-smaller
loop-found-smaller c =
    let k = c.in-Some.k in
    let s = c.loop-found.invariant.1.seen k c.in-Some.is in
    let g = rw c.in-Some.is at c.loop-found.invariant.0 in
    rw c.in-Some.is (copying_less _ _ _ _ _ _ _ _ _ k g s _ c.seek_short-found-in-Some.ensures)

pub loop-found-preserved : goal.loop-found-preserved
loop-found-preserved c =
    let k = c.in-Some.k in
    let s = c.loop-found.invariant.1.seen k c.in-Some.is in
    let g = rw c.in-Some.is at c.loop-found.invariant.0 in
    let q = c.seek_short-found-in-Some.ensures in
    (copying_more _ _ _ _ _ _ _ _ _ k g s _ c.deeper-a.ensures c.if-room-x.false c.if-n-froms.false _ q _ c.text_of.ensures, q.seeing, search rules, search rules, search rules)

pub returns : goal.returns
returns c = let g = rw c.in_default.is at c.loop-found.invariant.0 in search (g, copying)
