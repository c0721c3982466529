-- `bad_byte` is the test for CHAR. The loop's invariant: the state after the bytes before i, from three before the place on.
use Rattle.utf8.specs.Scan.{Scanned}
use Rattle.characters.proofs.table.bad_byte.Given as goal

abbrev pub invariant-loop-i : goal.invariant-loop-i
invariant-loop-i l = Scanned l.doc l.p l.i l.state
