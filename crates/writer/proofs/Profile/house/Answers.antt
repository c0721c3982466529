-- `house` writes a whole profile.
use Rattle.writer.specs.Lines.{root_row, root_line, root_lined, root_block, root_blocked}
use Rattle.writer.proofs.Profile.house.Goals as goal

pub is_flat-requires : goal.is_flat-requires
is_flat-requires c = root_row _ _ c.requires

pub one_line-requires : goal.one_line-requires
one_line-requires c = root_line _ _ c.requires c.is_flat.ensures c.if-is_flat.true

pub returns-then-is_flat : goal.returns-then-is_flat
returns-then-is_flat c = λ h. root_lined _ _ h c.is_flat.ensures c.if-is_flat.true c.one_line.ensures

pub block-requires : goal.block-requires
block-requires c = root_block _ _ c.requires c.is_flat.ensures c.if-is_flat.false

pub returns : goal.returns
returns c = λ h. root_blocked _ _ h c.is_flat.ensures c.if-is_flat.false c.block.ensures
