-- `sparse` guesses no more than two rows at a byte, so its products are small.
use Prim.Native.Nat.{◌*◌, ◌≤◌}
use Rattle.reader.proofs.sparse.Given as goal

abbrev pub invariant-loop-i : goal.invariant-loop-i
invariant-loop-i l = l.guessed ≤ 128 * l.i
