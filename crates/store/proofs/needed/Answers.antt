-- `needed` counts the bytes that a table is stored in: by rows and text, or field by field.
use Rattle.store.specs.Answers.{needing, needs_few, needs_text}
use Rattle.store.proofs.needed.Goals as goal

pub overflow_add-n : goal.overflow_add-n
overflow_add-n c =
    let h = c.requires in
    let few = needs_few _ h in
    let short = needs_text _ h c.text_end.ensures in
    search needing

pub returns-then-n : goal.returns-then-n
returns-then-n c = search needing

pub field_length-requires : goal.field_length-requires
field_length-requires c = search needing

pub returns : goal.returns
returns c = search needing
