-- `passed` fills the rooms from a run.
use Rattle.std.proofs.Common.{refl}
use Rattle.cutfill.proofs.Laws.{passes_asked, passes_told, passing}
use Rattle.cutfill.proofs.passed.Goals as goal

pub children-f-requires : goal.children-f-requires
children-f-requires c = passes_asked _ _ _ _ _ _ _ _ c.requires

pub returns : goal.returns
returns c = passes_told _ _ _ _ _ _ _ _ _ _ _ _ _ _ _ refl c.children-f.ensures
