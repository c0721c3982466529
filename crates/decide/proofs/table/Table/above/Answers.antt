-- `above` tells the version above: the places before the i-th are equal.
use Rattle.std.proofs.Common.{refl, sym, ◌∙◌}
use Rattle.decide.proofs.VersionLaws.{level_first, above_told, above_never, level_more, above_level}
use Rattle.decide.proofs.table.Table.above.Goals as goal

pub loop-i-init : goal.loop-i-init
loop-i-init c = level_first _ _ _ _ _ _ _ _

pub returns-then-is_ne : goal.returns-then-is_ne
returns-then-is_ne c =
    rw c.is_gt.ensures
    (above_told _ _ _ _ _ _ _ _ c.requires _ _ _ refl refl c.loop-i.invariant c.in-Ok.order (sym c.is_ne.ensures ∙ c.if-is_ne.true)
    c.in-Ok.ensures)

pub returns-in-Err : goal.returns-in-Err
returns-in-Err c = above_never _ _ _ _ _ _ _ _ c.requires _ _ _ refl refl c.loop-i.invariant c.in-Err.ensures

pub loop-i-preserved : goal.loop-i-preserved
loop-i-preserved c =
    level_more _ _ _ _ _ _ _ _ c.requires _ _ _ refl refl c.loop-i.invariant c.in-Ok.order (sym c.is_ne.ensures ∙ c.if-is_ne.false)
    c.in-Ok.ensures

pub returns : goal.returns
returns c = above_level _ _ _ _ _ _ _ _ c.requires _ c.loop-i.invariant c.loop-i-test.false
