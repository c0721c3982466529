-- `has_image` tells whether an image is under its key.
use Rattle.decide.specs.Contract.{no_image}
use Rattle.decide.proofs.SheetLaws.{row_inside, no_root_image, image_told}
use Rattle.decide.proofs.table.Table.has_image.Goals as goal

pub is_image-requires : goal.is_image-requires
is_image-requires c = row_inside _ _ _ c.requires _ _ c.in-Some.ensures

pub returns-in-Some : goal.returns-in-Some
returns-in-Some c = image_told _ _ _ _ c.in-Some.ensures _ c.is_image.ensures

pub returns-in-None : goal.returns-in-None
returns-in-None c = no_image c.in-None.ensures (no_root_image _ _ _ c.requires)
