-- `rare_end` passes an allowed character of several bytes.
use Rattle.writer.specs.Runs.{here_leads, selfs_rare, selfs_none}
use native.Mathlib.Omega.{arith}
use Rattle.writer.proofs.runs.rare_end.Goals as goal

pub code-c-requires : goal.code-c-requires
code-c-requires c = here_leads c.requires.0

pub returns-then-allowed : goal.returns-then-allowed
returns-then-allowed c = let p = c.requires in selfs_rare p.0 p.1 c.code-c.ensures c.allowed.ensures c.if-allowed.true

pub returns : goal.returns
returns c = selfs_none (omega (arith, c.requires.0.inside))
