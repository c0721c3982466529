-- `word` gives a word of a row. Assumes nothing.
use native.Mathlib.Omega.{arith}
use Prim.Native.Nat.{◌+◌, ◌*◌}
use borrow.Author.Rules.{rules}
use Rattle.language.specs.Tree.{width}
use Rattle.sound.proofs.word.Goals as goal

pub overflow_cast-result : goal.overflow_cast-result
overflow_cast-result c = omega (arith, c.shared_slice_known-1.given (width * c.args.r + c.args.j))

pub returns : goal.returns
returns c = (search rules, omega (arith, c.shared_slice_known-1.given (width * c.args.r + c.args.j)))
