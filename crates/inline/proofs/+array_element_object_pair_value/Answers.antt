-- The cycle of values, arrays and objects meets its contracts. The allowance falls from a value to a container inside it; in the loops, what is left of the document falls.
use borrow.Author.Rules.{rules}
use mathlib.Core.Path.{◌≡◌, ap, ◌∙◌}
use Rattle.std.proofs.lemmas.Result.{err_from_is_err_and}
use Rattle.std.specs.declared.result.Result.TheVariants.{Ok}
use Rattle.inline.specs.declared.Sep.TheVariants.{More, Last}
use Rattle.inline.proofs.Choices.{choices}
use Rattle.inline.proofs.Members.{turning}
use Rattle.inline.proofs.Containers.{looping, last_fits, loop_again as again}
use Rattle.inline.proofs.Noting.{noting}
use Rattle.inline.proofs.+array_element_object_pair_value.Goals as goal

pub array-open-requires : goal.array-open-requires
array-open-requires t c = search looping

pub array-returns-in_default : goal.array-returns-in_default
array-returns-in_default t c = record { answers = search looping; notes = search noting }

pub array-take-requires : goal.array-take-requires
array-take-requires t c = search looping

pub array-enclose-requires : goal.array-enclose-requires
array-enclose-requires t c = search looping

pub array-returns-in-Ok-take : goal.array-returns-in-Ok-take
array-returns-in-Ok-take t c = record { answers = search looping; notes = search noting }

pub array-loop-next-init : goal.array-loop-next-init
array-loop-next-init t c = (search looping, search rules, search rules, search rules)

pub array-overflow_cast-row : goal.array-overflow_cast-row
array-overflow_cast-row t c = search looping

pub array-element-requires : goal.array-element-requires
array-element-requires t c = search turning

pub array-overflow_add-count : goal.array-overflow_add-count
array-overflow_add-count t c = search looping

pub array-overflow_add-count-in-loop-next : goal.array-overflow_add-count-in-loop-next
array-overflow_add-count-in-loop-next t c = search looping

pub element-value-requires : goal.element-value-requires
element-value-requires t c = search choices

pub element-after-requires : goal.element-after-requires
element-after-requires t c = search turning

pub object-open-requires : goal.object-open-requires
object-open-requires t c = search looping

pub object-returns-in_default : goal.object-returns-in_default
object-returns-in_default t c = record { answers = search looping; notes = search noting }

pub object-take-requires : goal.object-take-requires
object-take-requires t c = search looping

pub object-enclose-requires : goal.object-enclose-requires
object-enclose-requires t c = search looping

pub object-returns-in-Ok-take : goal.object-returns-in-Ok-take
object-returns-in-Ok-take t c = record { answers = search looping; notes = search noting }

pub object-loop-next-init : goal.object-loop-next-init
object-loop-next-init t c = (search looping, search rules, search rules, search rules)

pub object-overflow_cast-row : goal.object-overflow_cast-row
object-overflow_cast-row t c = search looping

pub object-pair-requires : goal.object-pair-requires
object-pair-requires t c = search turning

pub object-overflow_add-count : goal.object-overflow_add-count
object-overflow_add-count t c = search looping

pub object-overflow_add-count-in-loop-next : goal.object-overflow_add-count-in-loop-next
object-overflow_add-count-in-loop-next t c = search looping

pub pair-label-requires : goal.pair-label-requires
pair-label-requires t c = search turning

pub value-anew-here-requires : goal.value-anew-here-requires
value-anew-here-requires t c = search choices

pub value-scalar-requires : goal.value-scalar-requires
value-scalar-requires t c = rw c.anew-here.ensures (search choices)

pub value-anew-requires : goal.value-anew-requires
value-anew-requires t c = search choices

pub value-returns-then-allow-eq0 : goal.value-returns-then-allow-eq0
value-returns-then-allow-eq0 t c = rw (← c.anew-here.ensures) (record { answers = rw c.anew.ensures (search choices); notes = search noting })

pub value-look-requires : goal.value-look-requires
value-look-requires t c = search choices

pub value-overflow_sub-allow : goal.value-overflow_sub-allow
value-overflow_sub-allow t c = search choices

pub value-array-requires : goal.value-array-requires
value-array-requires t c = rw c.anew-here.ensures (search choices)

pub value-anew-requires-in-91 : goal.value-anew-requires-in-91
value-anew-requires-in-91 t c = search choices

pub value-overflow_sub-allow-in-123 : goal.value-overflow_sub-allow-in-123
value-overflow_sub-allow-in-123 t c = search choices

pub value-object-requires : goal.value-object-requires
value-object-requires t c = rw c.anew-here.ensures (search choices)

pub value-anew-requires-in-123 : goal.value-anew-requires-in-123
value-anew-requires-in-123 t c = search choices

pub value-plain_inside-requires : goal.value-plain_inside-requires
value-plain_inside-requires t c = rw c.anew-here.ensures (search choices)

pub value-anew-requires-in-48-to-57 : goal.value-anew-requires-in-48-to-57
value-anew-requires-in-48-to-57 t c = search choices

pub value-scalar-requires-in_default : goal.value-scalar-requires-in_default
value-scalar-requires-in_default t c = rw c.anew-here.ensures (search choices)

pub value-anew-requires-in_default : goal.value-anew-requires-in_default
value-anew-requires-in_default t c = search choices

pub value-returns-in-91 : goal.value-returns-in-91
value-returns-in-91 t c = rw (← c.anew-here.ensures) (record { answers = rw c.anew-in-91.ensures (search choices); notes = search noting })

pub value-returns-in-123 : goal.value-returns-in-123
value-returns-in-123 t c = rw (← c.anew-here.ensures) (record { answers = rw c.anew-in-123.ensures (search choices); notes = search noting })

pub value-returns-in-48-to-57 : goal.value-returns-in-48-to-57
value-returns-in-48-to-57 t c = rw (← c.anew-here.ensures) (record { answers = rw c.anew-in-48-to-57.ensures (search choices); notes = search noting })

pub value-returns-in_default : goal.value-returns-in_default
value-returns-in_default t c = rw (← c.anew-here.ensures) (record { answers = rw c.anew-in_default.ensures (search choices); notes = search noting })

pub array-enclose-requires-in-Last : goal.array-enclose-requires-in-Last
array-enclose-requires-in-Last t c =
    let k : c.element.result ≡ Ok (Last c.in-Last.n) = c.in_ok-next.was ∙ ap Ok c.in-Last.is in
    let l = c.loop-next.invariant.0 in
    let e = c.element.ensures.turned in
    search (last_fits _ _ _ _ _ _ _ _ _ _ _ _ _ _ l _ e, k)

pub array-returns-in-Last : goal.array-returns-in-Last
array-returns-in-Last t c =
    let k : c.element.result ≡ Ok (Last c.in-Last.n) = c.in_ok-next.was ∙ ap Ok c.in-Last.is in
    record { answers = search looping; notes = search noting }

pub array-loop-next-smaller : goal.array-loop-next-smaller
array-loop-next-smaller t c =
    let k : c.element.result ≡ Ok (More c.in-More.n) = c.in_ok-next.was ∙ ap Ok c.in-More.is in
    search looping

pub array-loop-next-preserved : goal.array-loop-next-preserved
array-loop-next-preserved t c =
    let k : c.element.result ≡ Ok (More c.in-More.n) = c.in_ok-next.was ∙ ap Ok c.in-More.is in
    (search again, search rules, search rules, search rules)

pub array-returns-in_err-next-clause-answers : goal.array-returns-in_err-next-clause-answers
array-returns-in_err-next-clause-answers t c =
    let p = err_from_is_err_and c.from_residual.result c.from_residual.ensures.1 in
    rw (p.1, p.2) (search (looping, c.in_err-next.was))

pub array-returns-in_err-next-clause-notes : goal.array-returns-in_err-next-clause-notes
array-returns-in_err-next-clause-notes t c = search (noting, c.in_err-next.was)

pub object-enclose-requires-in-Last : goal.object-enclose-requires-in-Last
object-enclose-requires-in-Last t c =
    let k : c.pair.result ≡ Ok (Last c.in-Last.n) = c.in_ok-next.was ∙ ap Ok c.in-Last.is in
    let l = c.loop-next.invariant.0 in
    let e = c.pair.ensures.turned in
    search (last_fits _ _ _ _ _ _ _ _ _ _ _ _ _ _ l _ e, k)

pub object-returns-in-Last : goal.object-returns-in-Last
object-returns-in-Last t c =
    let k : c.pair.result ≡ Ok (Last c.in-Last.n) = c.in_ok-next.was ∙ ap Ok c.in-Last.is in
    record { answers = search looping; notes = search noting }

pub object-loop-next-smaller : goal.object-loop-next-smaller
object-loop-next-smaller t c =
    let k : c.pair.result ≡ Ok (More c.in-More.n) = c.in_ok-next.was ∙ ap Ok c.in-More.is in
    search looping

pub object-loop-next-preserved : goal.object-loop-next-preserved
object-loop-next-preserved t c =
    let k : c.pair.result ≡ Ok (More c.in-More.n) = c.in_ok-next.was ∙ ap Ok c.in-More.is in
    (search again, search rules, search rules, search rules)

pub object-returns-in_err-next-clause-answers : goal.object-returns-in_err-next-clause-answers
object-returns-in_err-next-clause-answers t c =
    let p = err_from_is_err_and c.from_residual.result c.from_residual.ensures.1 in
    rw (p.1, p.2) (search (looping, c.in_err-next.was))

pub object-returns-in_err-next-clause-notes : goal.object-returns-in_err-next-clause-notes
object-returns-in_err-next-clause-notes t c = search (noting, c.in_err-next.was)

pub element-returns-in_err-n-clause-turned : goal.element-returns-in_err-n-clause-turned
element-returns-in_err-n-clause-turned t c =
    let p = err_from_is_err_and c.from_residual.result c.from_residual.ensures.1 in
    rw (p.1, p.2) (search (turning, c.in_err-n.was))

pub element-returns-clause-turned : goal.element-returns-clause-turned
element-returns-clause-turned t c = search (turning, c.in_ok-n.was)

pub pair-note-requires : goal.pair-note-requires
pair-note-requires t c = search (noting, c.in_ok-n.was)

pub pair-element-requires : goal.pair-element-requires
pair-element-requires t c = search (turning, c.in_ok-n.was)

pub pair-returns-in_err-n-clause-turned : goal.pair-returns-in_err-n-clause-turned
pair-returns-in_err-n-clause-turned t c =
    let p = err_from_is_err_and c.from_residual.result c.from_residual.ensures.1 in
    rw (p.1, p.2) (search (turning, c.in_err-n.was))

pub pair-returns-in_err-n-clause-notes : goal.pair-returns-in_err-n-clause-notes
pair-returns-in_err-n-clause-notes t c = search (noting, c.in_err-n.was)

pub pair-returns-clause-turned : goal.pair-returns-clause-turned
pair-returns-clause-turned t c = search (turning, c.in_ok-n.was)

pub pair-returns-clause-notes : goal.pair-returns-clause-notes
pair-returns-clause-notes t c = search (noting, c.in_ok-n.was)
