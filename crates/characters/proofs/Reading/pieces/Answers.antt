-- `Reading::pieces` answers as `pieces_r` does. The loop's invariant: the pieces up to n are read.
use Rattle.characters.proofs.Lines.{lines}
use Rattle.characters.proofs.Reading.pieces.Goals as goal

pub loop-n-preserved : goal.loop-n-preserved
loop-n-preserved c = search lines

pub returns-in-Err : goal.returns-in-Err
returns-in-Err c = search lines

pub returns-in-Err-2 : goal.returns-in-Err-2
returns-in-Err-2 c = search lines

pub returns : goal.returns
returns c = search lines
