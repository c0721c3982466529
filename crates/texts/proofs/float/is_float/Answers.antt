-- `is_float` tells a float's text. Assumes nothing.
use Rattle.texts.specs.Places.{held, float_less, float_word, float_told}
use Rattle.texts.proofs.float.is_float.Goals as goal

pub unsigned-requires : goal.unsigned-requires
unsigned-requires g c = held (g.S.Text.bytes c.args.s) 0 _ c.byte.ensures.byte 44 c.if-byte-eq45.true

pub returns-then-byte-eq45 : goal.returns-then-byte-eq45
returns-then-byte-eq45 g c = float_less _ _ c.byte.ensures.byte c.if-byte-eq45.true c.unsigned.result c.unsigned.ensures

pub returns-then-word : goal.returns-then-word
returns-then-word g c = float_word _ _ c.byte.ensures.byte c.word.result c.word.ensures c.if-word.true

pub returns : goal.returns
returns g c = float_told _ _ c.byte.ensures.byte c.word.result c.word.ensures c.if-byte-eq45.false c.if-word.false c.unsigned-2.result c.unsigned-2.ensures
