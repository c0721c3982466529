-- `fill` fills the rooms from the whole.
use Rattle.cutfill.specs.Steps.{root_content, root_room, root_filled}
use Rattle.cutfill.proofs.fill.Goals as goal

pub invariant_of-v : goal.invariant_of-v
invariant_of-v c = record { content = root_content _ _ c.requires }

pub children-requires : goal.children-requires
children-requires c = root_room _ _ c.requires

pub returns : goal.returns
returns c = root_filled _ _ c.children.ensures
