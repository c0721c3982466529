-- `step` writes a run of characters that are shown as they are, or else one character.
use mathlib.Core.Path.{refl}
use Rattle.writer.specs.Leaves.{byte_room, step_byte, run_room, step_run, text_leads, char_from, char_inside, char_marks, step_char}
use Rattle.writer.proofs.leaves.step.Goals as goal

pub special-requires : goal.special-requires
special-requires c =
    let p = c.requires in
    let z = c.is_special.ensures c.if-is_special.true in
    (z, byte_room _ _ _ p.0 p.1 refl z.small)

pub returns-then-is_special : goal.returns-then-is_special
returns-then-is_special c =
    let p = c.requires in
    let z = c.is_special.ensures c.if-is_special.true in
    step_byte _ _ _ p.0 p.1 refl z.small c.special.ensures

pub all-requires : goal.all-requires
all-requires c = run_room _ _ _ c.run-e.ensures c.requires.0

pub returns-then-at-e : goal.returns-then-at-e
returns-then-at-e c = step_run _ _ _ c.run-e.ensures c.requires.0 c.if-at-e.true c.all.ensures

pub code-c-requires : goal.code-c-requires
code-c-requires c = let p = c.requires in text_leads _ _ _ p.0 p.1

pub slice_bounds-shown-count : goal.slice_bounds-shown-count
slice_bounds-shown-count c =
    let p = c.requires in
    char_from _ _ _ p.0 p.1 _ (c.code-c.ensures (text_leads _ _ _ p.0 p.1))

pub slice_bounds-shown-start : goal.slice_bounds-shown-start
slice_bounds-shown-start c =
    let p = c.requires in
    char_from _ _ _ p.0 p.1 _ (c.code-c.ensures (text_leads _ _ _ p.0 p.1))

pub slice_bounds-shown-end : goal.slice_bounds-shown-end
slice_bounds-shown-end c =
    let p = c.requires in
    char_inside _ _ _ p.0 p.1 _ (c.code-c.ensures (text_leads _ _ _ p.0 p.1))

pub shown-requires : goal.shown-requires
shown-requires c =
    let p = c.requires in
    char_marks _ _ _ p.0 p.1 _ (c.code-c.ensures (text_leads _ _ _ p.0 p.1))

pub returns : goal.returns
returns c =
    let p = c.requires in
    step_char _ _ _ p.0 p.1 _ (c.code-c.ensures (text_leads _ _ _ p.0 p.1)) c.shown.ensures
