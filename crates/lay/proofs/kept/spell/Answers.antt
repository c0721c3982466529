-- `spell` stores a row's text.
use Rattle.lay.specs.Keeping.{spelling, spell_told, spell_end}
use Rattle.lay.proofs.kept.spell.Goals as goal

pub word-from-requires : goal.word-from-requires
word-from-requires c = search spelling

pub word-to-requires : goal.word-to-requires
word-to-requires c = search spelling

pub copy-requires : goal.copy-requires
copy-requires c = search spelling

pub overflow_sub-result : goal.overflow_sub-result
overflow_sub-result c = search spelling

pub returns : goal.returns
returns c = (λ h. spell_told _ _ _ _ h _ _ c.word-from.ensures.0 c.word-to.ensures.0 c.copy.ensures, spell_end _ _ _ _ c.requires _ _ c.word-from.ensures.0 c.word-to.ensures.0)
