-- `byte_at` gives a byte of a content.
use Rattle.std.proofs.Common.{refl}
use Rattle.views.specs.Views.{asked_inside, asked_byte}
use Rattle.views.proofs.byte_at.Goals as goal

pub bounds-stored-place : goal.bounds-stored-place
bounds-stored-place c = asked_inside c.requires c.place.ensures

pub returns : goal.returns
returns c = asked_byte c.requires c.place.ensures refl
