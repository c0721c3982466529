-- `hexes` writes the hex digits of a number; they become fewer.
use Rattle.writer.proofs.codes.+hexes.Given as goal

abbrev pub decreases-hexes : goal.decreases-hexes
decreases-hexes l = l.n
