-- The cycle of a row and its children on one line meets its contracts: the rows below become fewer, and in the loop those that are left.
use mathlib.Core.Path.{refl}
use Rattle.writer.specs.Flat.{word_in, next_word, size_some, array_inner, array_closing, array_closed, object_inner, object_closing, object_closed, leaf_rises, leaf_inside, leaf_spelt, leaf_puts}
use Rattle.writer.specs.Children.{left_start, left_end, turn_inline, turn_word, turn_ahead, turn_room, turn_again}
use borrow.Author.Rules.{rules}
use native.Mathlib.Omega.{arith}
use Rattle.writer.proofs.Profile.+inline_inlines.Goals as goal

pub inline-word-kind-requires : goal.inline-word-kind-requires
inline-word-kind-requires t c = word_in _ _ c.requires.here 0 (omega arith)

pub inline-word-requires : goal.inline-word-requires
inline-word-requires t c = word_in _ _ c.requires.here 6 (omega arith)

pub inline-inlines-b-requires : goal.inline-inlines-b-requires
inline-inlines-b-requires t c =
    let h = c.requires in
    let n = next_word _ _ h.here c.word.ensures in
    (omega (arith, c.decreases, size_some h.tree), array_inner _ _ h c.word-kind.ensures c.word.ensures c.in-8.is c.put-a.ensures)

pub inline-put-requires : goal.inline-put-requires
inline-put-requires t c =
    array_closing _ _ c.requires c.word-kind.ensures c.word.ensures c.in-8.is c.put-a.ensures c.inlines-b.ensures

pub inline-returns-in-8 : goal.inline-returns-in-8
inline-returns-in-8 t c = λ h.
    array_closed _ _ h c.word-kind.ensures c.word.ensures c.in-8.is c.put-a.ensures c.inlines-b.ensures c.put.ensures

pub inline-word-requires-in-9 : goal.inline-word-requires-in-9
inline-word-requires-in-9 t c = word_in _ _ c.requires.here 6 (omega arith)

pub inline-inlines-b-requires-in-9 : goal.inline-inlines-b-requires-in-9
inline-inlines-b-requires-in-9 t c =
    let h = c.requires in
    let n = next_word _ _ h.here c.word-in-9.ensures in
    (omega (arith, c.decreases, size_some h.tree), object_inner _ _ h c.word-kind.ensures c.word-in-9.ensures c.in-9.is c.put-a-in-9.ensures)

pub inline-put-requires-in-9 : goal.inline-put-requires-in-9
inline-put-requires-in-9 t c =
    object_closing _ _ c.requires c.word-kind.ensures c.word-in-9.ensures c.in-9.is c.put-a-in-9.ensures c.inlines-b-in-9.ensures

pub inline-returns-in-9 : goal.inline-returns-in-9
inline-returns-in-9 t c = λ h.
    object_closed _ _ h c.word-kind.ensures c.word-in-9.ensures c.in-9.is c.put-a-in-9.ensures c.inlines-b-in-9.ensures c.put-in-9.ensures

pub inline-word-from-requires : goal.inline-word-from-requires
inline-word-from-requires t c = word_in _ _ c.requires.here 3 (omega arith)

pub inline-word-to-requires : goal.inline-word-to-requires
inline-word-to-requires t c = word_in _ _ c.requires.here 4 (omega arith)

pub inline-slice_bounds-scalar-count : goal.inline-slice_bounds-scalar-count
inline-slice_bounds-scalar-count t c =
    leaf_rises _ _ c.requires c.word-kind.ensures (λ e. omega arith) (λ e. omega arith) c.word-from.ensures c.word-to.ensures

pub inline-slice_bounds-scalar-start : goal.inline-slice_bounds-scalar-start
inline-slice_bounds-scalar-start t c =
    leaf_rises _ _ c.requires c.word-kind.ensures (λ e. omega arith) (λ e. omega arith) c.word-from.ensures c.word-to.ensures

pub inline-slice_bounds-scalar-end : goal.inline-slice_bounds-scalar-end
inline-slice_bounds-scalar-end t c =
    leaf_inside _ _ c.requires c.word-kind.ensures (λ e. omega arith) (λ e. omega arith) c.word-from.ensures c.word-to.ensures

pub inline-scalar-requires : goal.inline-scalar-requires
inline-scalar-requires t c =
    leaf_spelt _ _ c.requires c.word-kind.ensures (λ e. omega arith) (λ e. omega arith) c.word-from.ensures c.word-to.ensures

pub inline-returns-in_default : goal.inline-returns-in_default
inline-returns-in_default t c = λ h.
    leaf_puts _ _ h c.word-kind.ensures (λ e. omega arith) (λ e. omega arith) c.word-from.ensures c.word-to.ensures c.scalar.ensures

pub inlines-loop-at-init : goal.inlines-loop-at-init
inlines-loop-at-init t c = (λ h. left_start _ _ h, refl, omega arith)

pub inlines-inline-z-requires : goal.inlines-inline-z-requires
inlines-inline-z-requires t c =
    let h = c.requires in
    let l = c.loop-at.invariant in
    let a = turn_ahead _ _ h.room (l.0 h) c.loop-at-test.true refl in
    (omega (arith, c.decreases, a.0, a.1, l.2), turn_inline _ _ h.room (l.0 h) c.loop-at-test.true)

pub inlines-word-next-requires : goal.inlines-word-next-requires
inlines-word-next-requires t c =
    let h = c.requires in
    turn_word _ _ h.room (c.loop-at.invariant.0 h) c.loop-at-test.true 6 (omega arith)

pub inlines-word-requires : goal.inlines-word-requires
inlines-word-requires t c =
    let h = c.requires in
    turn_word _ _ h.room (c.loop-at.invariant.0 h) c.loop-at-test.true 0 (omega arith)

pub inlines-between-y-requires : goal.inlines-between-y-requires
inlines-between-y-requires t c =
    let h = c.requires in
    turn_room _ _ h.room (c.loop-at.invariant.0 h) c.loop-at-test.true c.word.ensures c.word-next.ensures refl c.inline-z.ensures

pub inlines-loop-at-smaller : goal.inlines-loop-at-smaller
inlines-loop-at-smaller t c =
    let h = c.requires in
    let a = turn_ahead _ _ h.room (c.loop-at.invariant.0 h) c.loop-at-test.true c.word-next.ensures in
    omega (arith, a.0, a.1)

pub inlines-loop-at-preserved : goal.inlines-loop-at-preserved
inlines-loop-at-preserved t c =
    let l = c.loop-at in
    let h = c.requires in
    let a = turn_ahead _ _ h.room (l.invariant.0 h) c.loop-at-test.true c.word-next.ensures in
    (λ h. turn_again _ _ h.room (l.invariant.0 h) c.loop-at-test.true c.word.ensures c.word-next.ensures refl c.inline-z.ensures c.between-y.ensures, search rules, omega (arith, a.0, l.invariant.2))

pub inlines-returns : goal.inlines-returns
inlines-returns t c = λ h. left_end _ _ (c.loop-at.invariant.0 h) c.loop-at-test.false
