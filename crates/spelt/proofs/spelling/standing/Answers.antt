-- `standing` gives the next byte of a text where it stands in the document as it is.
use Rattle.spelt.specs.Standing.{standing}
use Rattle.spelt.proofs.spelling.standing.Goals as goal

pub returns-then-is_key : goal.returns-then-is_key
returns-then-is_key c = search standing

pub returns-then-is_plain : goal.returns-then-is_plain
returns-then-is_plain c = search standing
