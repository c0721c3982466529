-- `low` reads the lowercase hex digit that stands at a place.
use Rattle.strings.proofs.DigitLaws.{digit_reads}
use Rattle.strings.proofs.digits.low.Goals as goal

pub returns-in-Some : goal.returns-in-Some
returns-in-Some c = search digit_reads

pub returns-in_default : goal.returns-in_default
returns-in_default c = search digit_reads
