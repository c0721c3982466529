-- `decide` tests the installed version first, then the sheet.
use Rattle.std.proofs.Common.{rules}
use Rattle.exact.specs.Tells.{tells_yes, tells_no}
use Rattle.decide.specs.Deciding.{told_uninstalled, told_no_sheet}
use Rattle.decide.proofs.decide.Goals as goal

pub returns-then-not-is_installed : goal.returns-then-not-is_installed
returns-then-not-is_installed c = told_uninstalled (tells_no _ (search rules) c.is_installed.ensures)

pub returns-in-None : goal.returns-in-None
returns-in-None c = told_no_sheet (tells_yes _ (search rules) c.is_installed.ensures) c.in-None.ensures
