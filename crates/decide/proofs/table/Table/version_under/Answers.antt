-- `version_under` gives the row of the version under a key.
use Rattle.decide.proofs.SheetLaws.{row_inside}
use Rattle.decide.proofs.table.Table.version_under.Goals as goal

pub is_version-requires : goal.is_version-requires
is_version-requires c = row_inside _ _ _ c.requires _ _ c.in_ok-r.ensures
