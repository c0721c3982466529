-- `byte` reads a byte.
use borrow.Author.Rules.{rules}
use Rattle.writer.proofs.codes.byte.Goals as goal

pub returns : goal.returns
returns c = let g = c.shared_slice_known-1.given c.args.i in search rules
