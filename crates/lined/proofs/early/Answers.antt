-- `early` tells that no tail byte comes, or nothing. Assumes nothing.
use native.Mathlib.Omega.{arith}
use Rattle.lined.specs.Counted.{range}
use Rattle.lined.specs.Searching.{clear_first}
use Rattle.lined.proofs.early.Goals as goal

pub returns-then-highest-lt128 : goal.returns-then-highest-lt128
returns-then-highest-lt128 c = c.highest.ensures c.if-highest-lt128.true

pub returns-else-highest-lt128 : goal.returns-else-highest-lt128
returns-else-highest-lt128 c = clear_first (range 128 191) c.args.doc.now 0 (omega arith)
