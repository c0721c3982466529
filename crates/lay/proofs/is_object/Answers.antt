-- `is_object` tells whether a table is sound and its root an object.
use Rattle.lay.specs.Root.{root_bad, root_word, root_told}
use Rattle.lay.proofs.is_object.Goals as goal

pub word-requires : goal.word-requires
word-requires c = root_word _ _ _ c.sound.ensures c.if-sound.true

pub returns-then-sound : goal.returns-then-sound
returns-then-sound c = root_told _ _ _ c.sound.ensures c.if-sound.true _ c.word.ensures.0

pub returns-else-sound : goal.returns-else-sound
returns-else-sound c = rw c.if-sound.false (root_bad _ _ _ c.sound.ensures c.if-sound.false)
