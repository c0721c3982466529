-- `last_bytes` copies them one by one. The loop's invariant: the first i stand in the room.
use native.Mathlib.Omega.{arith}
use Rattle.cutkeys.specs.CutsEnds.{tail_more}
use Rattle.cutkeys.proofs.cuts.last_bytes.Goals as goal

pub loop-i-preserved : goal.loop-i-preserved
loop-i-preserved c = tail_more _ _ _ _ c.loop-i.invariant (omega arith) _ c.byte_at.ensures
