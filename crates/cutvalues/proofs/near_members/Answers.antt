-- `near_members` passes the members before the nearest cut.
use Rattle.cutvalues.proofs.CutLaws.{members_bad, members_good}
use Rattle.cutvalues.proofs.near_members.Goals as goal

pub returns-in_err-r : goal.returns-in_err-r
returns-in_err-r c = rw c.from_residual.ensures (members_bad _ _ _ _ c.run_at.ensures _ _ _ c.several.ensures c.in_err-r.was)

pub returns : goal.returns
returns c = members_good _ _ _ _ c.run_at.ensures _ _ _ c.several.ensures _ c.in_ok-r.was
