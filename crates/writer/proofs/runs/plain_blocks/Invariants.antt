-- `plain_blocks` passes 16 plain bytes at a time.
use Prim.Native.Nat.{◌+◌, ◌*◌}
use Rattle.writer.specs.Runs.{Selfs}
use Rattle.writer.proofs.runs.plain_blocks.Given as goal

abbrev pub invariant-loop-k : goal.invariant-loop-k
invariant-loop-k l = Selfs l.s l.at (l.at + 16 * l.k)
