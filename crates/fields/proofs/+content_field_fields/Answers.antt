-- The cycle of a row's field, its content and its children's fields meets its contracts: the rows below become fewer, and in the loop those that are left.
use mathlib.Core.Path.{refl}
use native.Mathlib.Omega.{arith}
use borrow.Author.Rules.{rules}
use Rattle.fields.specs.Fields.{left_start, left_end, turn_ahead, turn_field, turn_word, turn_again, content_kind, container_fields, container_puts, field_closes, contents, fielding}
use Rattle.fields.specs.Rows.{next_word, size_some}
use Rattle.fields.proofs.+content_field_fields.Goals as goal

pub content-word-kind-requires : goal.content-word-kind-requires
content-word-kind-requires t c = content_kind _ _ c.requires

pub content-word-requires : goal.content-word-requires
content-word-requires t c = search (contents, rules)

pub content-fields-requires : goal.content-fields-requires
content-fields-requires t c =
    let h = c.requires in
    let n = next_word _ _ h.here c.word.ensures in
    (omega (arith, c.decreases, size_some h.tree), container_fields _ _ h c.word-kind.ensures c.word.ensures c.then-kind-eq8.either)

pub content-returns-then-kind-eq8 : goal.content-returns-then-kind-eq8
content-returns-then-kind-eq8 t c = λ h. container_puts _ _ h c.word-kind.ensures c.word.ensures c.then-kind-eq8.either c.fields.ensures

pub content-returns : goal.content-returns
content-returns t c = λ h. search (contents, rules)

pub field-content-y-requires : goal.field-content-y-requires
field-content-y-requires t c = search (fielding, rules)

pub field-word-requires : goal.field-word-requires
field-word-requires t c = search (fielding, rules)

pub field-closed-requires : goal.field-closed-requires
field-closed-requires t c = field_closes _ _ c.requires c.content-y.ensures c.word.ensures refl

pub field-returns : goal.field-returns
field-returns t c = λ h. search (fielding, rules)

pub fields-loop-at-init : goal.fields-loop-at-init
fields-loop-at-init t c = (λ h. left_start _ _ h, refl, omega arith)

pub fields-field-y-requires : goal.fields-field-y-requires
fields-field-y-requires t c = let h = c.requires in let l = c.loop-at.invariant in let a = turn_ahead _ _ h.fits (l.0 h) c.loop-at-test.true refl in (omega (arith, c.decreases, a.0, a.1, l.2), turn_field _ _ h.fits (l.0 h) c.loop-at-test.true l.1)

pub fields-word-at-requires : goal.fields-word-at-requires
fields-word-at-requires t c = let h = c.requires in turn_word _ _ h.fits (c.loop-at.invariant.0 h) c.loop-at-test.true 6 (omega arith)

pub fields-loop-at-smaller : goal.fields-loop-at-smaller
fields-loop-at-smaller t c =
    let h = c.requires in
    let a = turn_ahead _ _ h.fits (c.loop-at.invariant.0 h) c.loop-at-test.true c.word-at.ensures in
    omega (arith, a.0, a.1)

pub fields-loop-at-preserved : goal.fields-loop-at-preserved
fields-loop-at-preserved t c =
    let l = c.loop-at.invariant in
    let h = c.requires in
    let a = turn_ahead _ _ h.fits (l.0 h) c.loop-at-test.true c.word-at.ensures in
    (λ h. turn_again _ _ h.fits (l.0 h) c.loop-at-test.true l.1 c.field-y.ensures c.word-at.ensures, search rules, omega (arith, a.0, l.2))

pub fields-returns : goal.fields-returns
fields-returns t c = λ h. left_end _ _ (c.loop-at.invariant.0 h) c.loop-at-test.false
