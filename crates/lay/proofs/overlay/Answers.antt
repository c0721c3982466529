-- `overlay` keeps its promise: both tables are tested before anything is laid.
use Rattle.lay.specs.Root.{promise_roots, promise_laid, promise_bad_upper, promise_bad_lower}
use Rattle.lay.proofs.overlay.Goals.{else-is_object-via-then-is_object+else-is_object-2, else-is_object-via-else-is_object}
use Rattle.lay.proofs.overlay.Goals as goal

pub answer-requires : goal.answer-requires
answer-requires c = promise_roots _ _ _ _ _ _ c.is_object.ensures c.if-is_object.true c.is_object-then-is_object.ensures c.if-is_object-2.true

pub returns-then-is_object-2 : goal.returns-then-is_object-2
returns-then-is_object-2 c = promise_laid _ _ _ _ _ _ c.is_object.ensures c.if-is_object.true c.is_object-then-is_object.ensures c.if-is_object-2.true c.answer.ensures

pub returns : goal.returns
returns c =
    elim c.else-is_object.branch [
      | else-is_object-via-then-is_object+else-is_object-2 w ↦ promise_bad_upper _ _ _ _ _ _ w.is_object-then-is_object.ensures w.if-is_object-2.false
      | else-is_object-via-else-is_object w ↦ promise_bad_lower _ _ _ _ _ _ c.is_object.ensures w.if-is_object.false
    ]
