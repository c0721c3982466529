-- The cycle of a container's lines and its children's meets its contracts: the rows below become fewer, and in the loop those that are left.
use mathlib.Core.Path.{refl}
use Rattle.writer.specs.Flat.{word_in, size_some}
use Rattle.writer.specs.Lines.{child_row, row_flat, child_item, child_itemed, child_value, child_valued, value_put, item_line, item_lined, item_array, item_arrayed, item_block, item_blocked, value_line, value_lined, value_block, value_blocked}
use Rattle.writer.specs.Laid.{rest_start, rest_end, rest_head, rest_word, rest_ahead, rest_below, rest_child, rest_again}
use borrow.Author.Rules.{rules}
use native.Mathlib.Omega.{arith}
use Rattle.writer.proofs.Profile.+block_child_item_value.Goals as goal

pub block-word-item-requires : goal.block-word-item-requires
block-word-item-requires t c = word_in _ _ c.requires.here 0 (omega arith)

pub block-word-stop-requires : goal.block-word-stop-requires
block-word-stop-requires t c = word_in _ _ c.requires.here 6 (omega arith)

pub block-overflow_add-at : goal.block-overflow_add-at
block-overflow_add-at t c = let h = c.requires in omega (arith, h.here.fits, size_some h.tree)

pub block-loop-at-init : goal.block-loop-at-init
block-loop-at-init t c = (λ h. rest_start _ _ h c.word-item.ensures c.word-stop.ensures, refl, omega arith)

pub block-head-a-requires : goal.block-head-a-requires
block-head-a-requires t c =
    let h = c.requires in
    rest_head _ _ h.room (c.loop-at.invariant.0 h) c.loop-at-test.true c.skip-skipped.ensures.0

pub block-overflow_add-v : goal.block-overflow_add-v
block-overflow_add-v t c = omega (arith, c.skip-skipped.ensures.1, c.loop-at-test.true)

pub block-child-y-requires : goal.block-child-y-requires
block-child-y-requires t c =
    let h = c.requires in
    let l = c.loop-at.invariant in
    let e = c.skip-skipped.ensures.0 in
    let a = rest_below _ _ h.room (l.0 h) c.loop-at-test.true e in
    (omega (arith, c.decreases, c.word-stop.ensures, c.loop-at-test.true, l.2, a.0, a.1), rest_child _ _ h.room (l.0 h) c.loop-at-test.true e c.head-a.ensures)

pub block-word-at-requires : goal.block-word-at-requires
block-word-at-requires t c =
    let h = c.requires in
    rest_word _ _ h.room (c.loop-at.invariant.0 h) c.loop-at-test.true c.skip-skipped.ensures.0

pub block-loop-at-smaller : goal.block-loop-at-smaller
block-loop-at-smaller t c =
    let h = c.requires in
    let a = rest_ahead _ _ h.room (c.loop-at.invariant.0 h) c.loop-at-test.true c.skip-skipped.ensures.0 c.word-at.ensures in
    omega (arith, a.0, a.1)

pub block-loop-at-preserved : goal.block-loop-at-preserved
block-loop-at-preserved t c =
    let l = c.loop-at in
    let e = c.skip-skipped.ensures.0 in
    let h = c.requires in
    let a = rest_ahead _ _ h.room (l.invariant.0 h) c.loop-at-test.true e c.word-at.ensures in
    (λ h. rest_again _ _ h.room (l.invariant.0 h) c.loop-at-test.true e c.head-a.ensures c.child-y.ensures c.word-at.ensures, search rules, omega (arith, a.0, l.invariant.2))

pub block-returns : goal.block-returns
block-returns t c = λ h. rest_end _ _ (c.loop-at.invariant.0 h) c.loop-at-test.false

pub child-item-requires : goal.child-item-requires
child-item-requires t c = (omega (arith, c.decreases), child_item _ _ _ c.if-array.true c.requires)

pub child-returns-then-array : goal.child-returns-then-array
child-returns-then-array t c = λ h. child_itemed _ _ _ c.if-array.true h c.item.ensures

pub child-value-requires : goal.child-value-requires
child-value-requires t c = (omega (arith, c.decreases), child_value _ _ _ c.if-array.false c.requires)

pub child-returns : goal.child-returns
child-returns t c = λ h. child_valued _ _ _ c.if-array.false h c.value.ensures

pub item-is_flat-requires : goal.item-is_flat-requires
item-is_flat-requires t c = child_row _ _ c.requires

pub item-one_line-requires : goal.item-one_line-requires
item-one_line-requires t c = let h = c.requires in item_line _ _ h (row_flat _ _ h c.is_flat.ensures) c.if-is_flat.true

pub item-returns-then-is_flat : goal.item-returns-then-is_flat
item-returns-then-is_flat t c = λ h. item_lined _ _ h (row_flat _ _ h c.is_flat.ensures) c.if-is_flat.true c.one_line.ensures

pub item-word-requires : goal.item-word-requires
item-word-requires t c = word_in _ _ c.requires.here 0 (omega arith)

pub item-one_line-requires-then-word-eq8 : goal.item-one_line-requires-then-word-eq8
item-one_line-requires-then-word-eq8 t c = let h = c.requires in item_array _ _ h (row_flat _ _ h c.is_flat.ensures) c.word.ensures c.if-word-eq8.true

pub item-returns-then-word-eq8 : goal.item-returns-then-word-eq8
item-returns-then-word-eq8 t c = λ h. item_arrayed _ _ h (row_flat _ _ h c.is_flat.ensures) c.word.ensures c.if-word-eq8.true c.one_line-then-word-eq8.ensures

pub item-overflow_add-n : goal.item-overflow_add-n
item-overflow_add-n t c = omega (arith, c.requires.column)

pub item-block-requires : goal.item-block-requires
item-block-requires t c =
    let h = c.requires in
    (omega (arith, c.decreases), item_block _ _ h (row_flat _ _ h c.is_flat.ensures) c.word.ensures c.if-is_flat.false c.if-word-eq8.false)

pub item-returns : goal.item-returns
item-returns t c = λ h. item_blocked _ _ h (row_flat _ _ h c.is_flat.ensures) c.word.ensures c.if-is_flat.false c.if-word-eq8.false c.block.ensures

pub value-is_flat-requires : goal.value-is_flat-requires
value-is_flat-requires t c = child_row _ _ c.requires

pub value-put-y-requires : goal.value-put-y-requires
value-put-y-requires t c = value_put _ _ c.requires

pub value-one_line-requires : goal.value-one_line-requires
value-one_line-requires t c = let h = c.requires in value_line _ _ h (row_flat _ _ h c.is_flat.ensures) c.if-is_flat.true c.put-y.ensures

pub value-returns-then-is_flat : goal.value-returns-then-is_flat
value-returns-then-is_flat t c = λ h. value_lined _ _ h (row_flat _ _ h c.is_flat.ensures) c.if-is_flat.true c.put-y.ensures c.one_line.ensures

pub value-put-y-requires-2 : goal.value-put-y-requires-2
value-put-y-requires-2 t c = value_put _ _ c.requires

pub value-overflow_add-n : goal.value-overflow_add-n
value-overflow_add-n t c = omega (arith, c.requires.column)

pub value-overflow_add-n-2 : goal.value-overflow_add-n-2
value-overflow_add-n-2 t c = omega (arith, c.requires.column)

pub value-block-requires : goal.value-block-requires
value-block-requires t c =
    let h = c.requires in
    (omega (arith, c.decreases), value_block _ _ h (row_flat _ _ h c.is_flat.ensures) c.if-is_flat.false c.put-y-2.ensures)

pub value-returns : goal.value-returns
value-returns t c = λ h. value_blocked _ _ h (row_flat _ _ h c.is_flat.ensures) c.if-is_flat.false c.put-y-2.ensures c.block.ensures
