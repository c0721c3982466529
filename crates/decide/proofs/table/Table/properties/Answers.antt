-- `properties` gives the sheet, where the root has a version, a floor and an image.
use Rattle.decide.specs.Deciding.{no_version, no_floor}
use Rattle.decide.proofs.SheetLaws.{sheet_without_image}
use Rattle.decide.proofs.table.Table.properties.Goals as goal

pub returns-in_err-version : goal.returns-in_err-version
returns-in_err-version c =
    rw c.from_residual.ensures (no_version c.in_err-version.ensures.sought c.in_err-version.ensures.other)

pub returns-in_err-floor : goal.returns-in_err-floor
returns-in_err-floor c =
    rw c.from_residual-in_err-floor.ensures (no_floor c.in_err-floor.ensures.sought c.in_err-floor.ensures.other)

pub returns-else-has_image : goal.returns-else-has_image
returns-else-has_image c = sheet_without_image _ _ _ (rw c.if-has_image.false at c.has_image.ensures)
