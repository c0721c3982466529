-- `key_in_order` tells where the text of a row stands among keys in order.
use Rattle.sound.proofs.KeyLaws.{keying}
use Rattle.sound.proofs.keys.key_in_order.Goals as goal

pub word-a-requires : goal.word-a-requires
word-a-requires c = search keying

pub word-e-requires : goal.word-e-requires
word-e-requires c = search keying

pub in_order-requires : goal.in_order-requires
in_order-requires c = search keying

pub returns : goal.returns
returns c = search keying
