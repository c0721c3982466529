-- The cycle that counts the bytes of fields meets its contracts: the rows below become fewer, and in the loop those that are left.
use mathlib.Core.Path.{refl}
use native.Mathlib.Omega.{arith}
use borrow.Author.Rules.{rules}
use Rattle.fields.specs.Rows.{next_word, size_some}
use Rattle.fields.specs.Measured.{counted_start, counted_end, counted_field, counted_word, counted_ahead, counted_more, counted_again, measured_few, measured_container, container_measured, measuring}
use Rattle.fields.proofs.+content_length_field_length_fields_length.Goals as goal

pub content_length-fields_length-requires : goal.content_length-fields_length-requires
content_length-fields_length-requires t c =
    let h = c.requires in
    let n = next_word _ _ h.here c.word.ensures in
    (omega (arith, c.decreases, size_some h.tree), measured_container _ h c.word-kind.ensures c.word.ensures c.then-kind-eq8.either)

pub content_length-returns-then-kind-eq8 : goal.content_length-returns-then-kind-eq8
content_length-returns-then-kind-eq8 t c = λ h. container_measured _ h c.word-kind.ensures c.word.ensures c.then-kind-eq8.either c.fields_length.ensures

pub field_length-overflow_add-result : goal.field_length-overflow_add-result
field_length-overflow_add-result t c =
    let few = measured_few _ c.requires c.content_length-n.ensures in
    search rules

pub field_length-returns : goal.field_length-returns
field_length-returns t c = λ h. search (measuring, rules)

pub fields_length-loop-row-init : goal.fields_length-loop-row-init
fields_length-loop-row-init t c = (λ h. counted_start _ h, omega arith)

pub fields_length-field_length-n-requires : goal.fields_length-field_length-n-requires
fields_length-field_length-n-requires t c =
    let h = c.requires in
    let l = c.loop-row.invariant in
    let a = counted_ahead _ h.most (l.0 h) c.loop-row-test.true refl in
    (omega (arith, c.decreases, a.0, a.1, l.1), counted_field _ h.most (l.0 h) c.loop-row-test.true)

pub fields_length-overflow_add-n : goal.fields_length-overflow_add-n
fields_length-overflow_add-n t c =
    let h = c.requires in
    let few = counted_more _ h.most (c.loop-row.invariant.0 h) c.loop-row-test.true c.field_length-n.ensures in
    search rules

pub fields_length-word-row-requires : goal.fields_length-word-row-requires
fields_length-word-row-requires t c =
    let h = c.requires in
    counted_word _ h.most (c.loop-row.invariant.0 h) c.loop-row-test.true 6 (omega arith)

pub fields_length-loop-row-smaller : goal.fields_length-loop-row-smaller
fields_length-loop-row-smaller t c =
    let h = c.requires in
    let a = counted_ahead _ h.most (c.loop-row.invariant.0 h) c.loop-row-test.true c.word-row.ensures in
    omega (arith, a.0, a.1)

pub fields_length-loop-row-preserved : goal.fields_length-loop-row-preserved
fields_length-loop-row-preserved t c =
    let h = c.requires in
    let l = c.loop-row.invariant in
    let a = counted_ahead _ h.most (l.0 h) c.loop-row-test.true c.word-row.ensures in
    (λ h. counted_again _ h.most (l.0 h) c.loop-row-test.true c.field_length-n.ensures c.word-row.ensures, omega (arith, a.0, l.1))

pub fields_length-returns : goal.fields_length-returns
fields_length-returns t c = λ h. counted_end _ (c.loop-row.invariant.0 h) c.loop-row-test.false
