-- `decided` gives the decision.
use Rattle.exact.specs.Tells.{tells_yes, tells_no}
use Rattle.decide.specs.Deciding.{told_install, told_blocked, told_keep}
use Rattle.decide.proofs.SheetLaws.{version_ready, floor_ready}
use Rattle.decide.proofs.decided.Goals as goal

pub above-requires : goal.above-requires
above-requires c = version_ready _ _ _ _ _ _ _ _ c.requires.0 c.requires.1

pub above-requires-then-above : goal.above-requires-then-above
above-requires-then-above c = floor_ready _ _ _ _ _ _ _ _ c.requires.0 c.requires.1

pub returns-then-above-2 : goal.returns-then-above-2
returns-then-above-2 c = told_blocked c.requires.0 c.requires.1 (tells_yes _ c.if-above.true c.above.ensures) (tells_yes _ c.if-above-2.true c.above-then-above.ensures)

pub returns-else-above-2 : goal.returns-else-above-2
returns-else-above-2 c = told_install c.requires.0 c.requires.1 (tells_yes _ c.if-above.true c.above.ensures) (tells_no _ c.if-above-2.false c.above-then-above.ensures)

pub returns-else-above : goal.returns-else-above
returns-else-above c = told_keep c.requires.0 c.requires.1 (tells_no _ c.if-above.false c.above.ensures)
