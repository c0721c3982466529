-- `text_in` gives the row's part of the room, and none where the row cannot be read.
use Rattle.std.proofs.Common.{rules, sym, ap, ◌∙◌}
use Rattle.language.specs.Kind.{has_text}
use Rattle.questions.proofs.RowLaws.{good_held, read_bad, read_kind, read_part}
use Rattle.questions.proofs.table.text_in.Goals as goal
use Rattle.questions.proofs.table.text_in.Goals.{else-good-via-then-good+else-has_text, else-good-via-else-good}

pub kind_of-requires : goal.kind_of-requires
kind_of-requires c = search (rules, good_held)

pub word-requires : goal.word-requires
word-requires c = search (rules, good_held)

pub word-requires-then-has_text : goal.word-requires-then-has_text
word-requires-then-has_text c = search (rules, good_held)

pub returns-then-has_text : goal.returns-then-has_text
returns-then-has_text c =
    read_part _ _ _ _ (sym c.good.ensures ∙ c.if-good.true) (ap has_text (sym c.kind_of.ensures) ∙ (sym c.has_text.ensures ∙ c.if-has_text.true))
    _ _ _ c.word.ensures c.word-then-has_text.ensures c.bytes_lent.ensures c.get.result c.get.ensures.lookup.0

pub returns-else-good : goal.returns-else-good
returns-else-good c =
    elim c.else-good.branch [
      | else-good-via-then-good+else-has_text w ↦
          read_kind _ _ _ _ (sym c.good.ensures ∙ w.if-good.true) (ap has_text (sym w.kind_of.ensures) ∙ (sym w.has_text.ensures ∙ w.if-has_text.false))
      | else-good-via-else-good w ↦ read_bad _ _ _ _ (sym c.good.ensures ∙ w.if-good.false)
    ]
