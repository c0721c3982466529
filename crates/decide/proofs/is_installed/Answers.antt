-- `is_installed` tells a sound table of a version.
use Rattle.decide.proofs.SheetLaws.{first_inside}
use Rattle.decide.proofs.is_installed.Goals as goal

pub is_version-requires : goal.is_version-requires
is_version-requires c = first_inside _ _ _ _ c.sound.ensures c.if-sound.true
