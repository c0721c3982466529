-- `sheet` gives the sheet of a table that is one's.
use Rattle.exact.specs.Tells.{tells_no}
use Rattle.decide.specs.Deciding.{no_object}
use Rattle.decide.proofs.table.Table.sheet.Goals as goal

pub returns-else-is_object : goal.returns-else-is_object
returns-else-is_object c = no_object (tells_no _ c.if-is_object.false c.is_object.ensures)
