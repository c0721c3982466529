-- `low_here` answers the value of the lowercase digit here.
use native.Mathlib.Omega.{arith}
use Rattle.strings.proofs.DigitLaws.{lows_here}
use Rattle.strings.proofs.digits.low_here.Goals as goal

pub bounds-doc-at : goal.bounds-doc-at
bounds-doc-at c = search lows_here

pub overflow_cast-doc : goal.overflow_cast-doc
overflow_cast-doc c = omega (arith, c.shared_slice_known-2-1.given c.args.n.at)

pub low_value-requires : goal.low_value-requires
low_value-requires c = search lows_here

pub returns : goal.returns
returns c = search lows_here
