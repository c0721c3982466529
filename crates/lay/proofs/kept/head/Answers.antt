-- `head` stores the row of a tree with its text.
use Rattle.lay.specs.Keeping.{heading, head_spelling, head_spelt, head_blank, head_spot}
use mathlib.Core.Path.{sym, ◌∙◌}
use Rattle.lay.proofs.kept.head.Goals as goal

pub word-kind-requires : goal.word-kind-requires
word-kind-requires c = search heading

pub spell-end-requires : goal.spell-end-requires
spell-end-requires c = head_spelling _ _ _ _ c.requires.0 _ c.word-kind.ensures.0 (sym c.has_text.ensures ∙ c.if-has_text.true)

pub returns-then-has_text : goal.returns-then-has_text
returns-then-has_text c = (λ h. head_spelt _ _ _ _ h _ c.word-kind.ensures.0 (sym c.has_text.ensures ∙ c.if-has_text.true) c.spell-end.ensures.0 c.store.ensures, c.spell-end.ensures.1)

pub word-to-requires : goal.word-to-requires
word-to-requires c = search heading

pub returns : goal.returns
returns c = (λ h. head_blank _ _ _ _ h _ c.word-kind.ensures.0 (sym c.has_text.ensures ∙ c.if-has_text.false) _ c.word-to.ensures.0 c.store-2.ensures, head_spot _ _ _ _ c.requires.0)
