-- `key_in_chains` tells which key in the chains has the text of a row.
use Rattle.sound.proofs.KeyLaws.{keying}
use Rattle.sound.proofs.keys.key_in_chains.Goals as goal

pub word-a-requires : goal.word-a-requires
word-a-requires c = search keying

pub word-e-requires : goal.word-e-requires
word-e-requires c = search keying

pub in_chains-requires : goal.in_chains-requires
in_chains-requires c = search keying

pub returns : goal.returns
returns c = search keying
