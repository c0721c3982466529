-- `cut_key` asks the field for its extent.
use Rattle.cutvalues.proofs.CutLaws.{extent_no_key, extent_other, extent_key}
use Rattle.cutvalues.proofs.cut_key.Goals as goal

pub returns-in_err-f : goal.returns-in_err-f
returns-in_err-f c = rw c.from_residual.ensures (extent_no_key _ _ _ _ c.extent.ensures c.in_err-f.was)

pub returns-then-f-ne10 : goal.returns-then-f-ne10
returns-then-f-ne10 c = extent_other _ _ _ _ c.extent.ensures _ c.in_ok-f.was c.if-f-ne10.true

pub named-requires : goal.named-requires
named-requires c = (c.requires.0, c.requires.1, extent_key _ _ _ _ c.extent.ensures _ c.in_ok-f.was c.if-f-ne10.false)
