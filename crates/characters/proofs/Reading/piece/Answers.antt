-- `Reading::piece` answers as `piece_r` does.
use Rattle.characters.proofs.Lines.{piecing}
use Rattle.characters.proofs.Reading.piece.Goals as goal

pub returns-in-Some-33-to-126-default : goal.returns-in-Some-33-to-126-default
returns-in-Some-33-to-126-default c = search piecing
