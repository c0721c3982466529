-- `is_object` tells a sound table of an object of three pairs.
use Rattle.decide.proofs.SheetLaws.{first_whole}
use Rattle.decide.proofs.table.Table.is_object.Goals as goal
use Rattle.decide.proofs.table.Table.is_object.Goals.{then-sound, else-sound}

pub kind-requires : goal.kind-requires
kind-requires c = first_whole _ _ _ _ c.sound.ensures c.if-sound.true

pub count-requires : goal.count-requires
count-requires c = elim c.if-sound.branch [ then-sound w ↦ first_whole _ _ _ _ c.sound.ensures w.if-sound.true | else-sound w ↦ cc (w.value-is, c.if-eq.true) ]
