-- `above` tells the version above: the places before the i-th are equal.
use Rattle.decide.proofs.VersionLaws.{Level}
use Rattle.decide.proofs.table.Table.above.Given as goal

abbrev pub invariant-loop-i : goal.invariant-loop-i
invariant-loop-i l = Level l.self.words.now l.self.rows l.self.room.now l.r l.other.words.now l.other.rows l.other.room.now l.s l.i
