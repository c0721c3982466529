-- `is_integer` tells an integer's text by its first byte and the digits behind it. Assumes nothing.
use Rattle.texts.specs.Integers.{integer_zero, integer_minus, integer_plain}
use Rattle.texts.proofs.integer.is_integer.Goals as goal

pub returns-in-48 : goal.returns-in-48
returns-in-48 g c = integer_zero (g.S.Text.bytes c.args.s) _ c.byte.ensures.byte c.count.result c.count.ensures.count c.in-48.is

pub returns-in-45 : goal.returns-in-45
returns-in-45 g c = integer_minus (g.S.Text.bytes c.args.s) _ c.byte.ensures.byte c.in-45.is c.counting.result c.counting.ensures

pub returns-in_default : goal.returns-in_default
returns-in_default g c = let m = c.in_default.in_default-own.rest in integer_plain (g.S.Text.bytes c.args.s) _ c.byte.ensures.byte m.0.1 m.1 c.counting-in_default.result c.counting-in_default.ensures
