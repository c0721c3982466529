-- `rows_in` guesses no more than two rows at a byte.
use Prim.Native.Nat.{◌*◌, ◌≤◌}
use Rattle.reader.proofs.rows_in.Given as goal

abbrev pub invariant-loop-i : goal.invariant-loop-i
invariant-loop-i l = l.n ≤ 2 * l.i
