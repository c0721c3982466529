-- `same_key` tells whether the keys of two rows have one text.
use Rattle.sound.proofs.KeyLaws.{keying}
use Rattle.sound.proofs.keys.same_key.Goals as goal

pub word-requires : goal.word-requires
word-requires c = search keying

pub word-requires-2 : goal.word-requires-2
word-requires-2 c = search keying

pub word-requires-3 : goal.word-requires-3
word-requires-3 c = search keying

pub word-requires-4 : goal.word-requires-4
word-requires-4 c = search keying

pub same_text-requires : goal.same_text-requires
same_text-requires c = search keying

pub returns : goal.returns
returns c = search keying
