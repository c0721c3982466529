-- `closed` tells whether the members make a container: an object's keys are told apart.
use Rattle.uncut.proofs.CycleLaws.{closing_keys, closing_rows, closing_array, closing_object, closing_twice}
use Rattle.uncut.proofs.tested.closed.Goals.{else-object-via-then-object+else-not-apart, else-object-via-else-object}
use Rattle.uncut.proofs.tested.closed.Goals as goal

pub apart-requires : goal.apart-requires
apart-requires c = closing_keys _ _ _ _ _ _ _ c.requires c.if-object.true

pub returns-then-not-apart : goal.returns-then-not-apart
returns-then-not-apart c = closing_twice _ _ _ _ _ _ _ c.requires c.if-object.true _ c.apart.ensures c.if-not-apart.true

pub overflow_add-result : goal.overflow_add-result
overflow_add-result c = closing_rows _ _ _ _ _ _ _ c.requires

pub returns : goal.returns
returns c =
    elim c.else-object.branch [
      | else-object-via-then-object+else-not-apart w ↦ closing_object _ _ _ _ _ _ _ c.requires w.if-object.true _ w.apart.ensures w.if-not-apart.false
      | else-object-via-else-object w ↦ closing_array _ _ _ _ _ _ _ c.requires w.if-object.false
    ]
