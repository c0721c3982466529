-- `word` tells whether the word is left. The loop's invariant: so many bytes are those of the word. Assumes nothing.
use Rattle.texts.specs.Places.{Alike}
use Rattle.texts.proofs.float.word.Given as goal

abbrev pub invariant-loop-i : goal.invariant-loop-i
invariant-loop-i g l = Alike (g.S.Text.bytes l.s) l.at l.w l.i
