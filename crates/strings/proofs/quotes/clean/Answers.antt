-- `clean` copies what stands as itself.
use Rattle.strings.proofs.CleanLaws.{cleaning}
use Rattle.strings.proofs.quotes.clean.Goals as goal

pub returns-then-look-eq92 : goal.returns-then-look-eq92
returns-then-look-eq92 c = search cleaning
