-- `closed` tells a container whose children are passed: by their count, and for an object by its keys.
use Rattle.sound.proofs.CycleLaws.{closed_count, closed_array, closed_object, closed_twice, closing}
use Rattle.sound.proofs.closed.Goals.{else-object-via-then-object+else-not-apart, else-object-via-else-object}
use Rattle.sound.proofs.closed.Goals as goal

pub returns-then-not-row_is : goal.returns-then-not-row_is
returns-then-not-row_is c = closed_count _ _ _ _ _ _ _ _ _ c.requires _ c.word-end.ensures.0 _ c.row_is.ensures c.if-not-row_is.true

pub apart-requires : goal.apart-requires
apart-requires c = search closing

pub returns-then-not-apart : goal.returns-then-not-apart
returns-then-not-apart c =
    closed_twice _ _ _ _ _ _ _ _ _ c.requires _ c.word-end.ensures.0 _ c.row_is.ensures c.if-not-row_is.false c.if-object.true _ c.apart.ensures c.if-not-apart.true

pub returns : goal.returns
returns c =
    elim c.else-object.branch [
      | else-object-via-then-object+else-not-apart w ↦ closed_object _ _ _ _ _ _ _ _ _ c.requires _ c.word-end.ensures.0 _ c.row_is.ensures c.if-not-row_is.false w.if-object.true _ w.apart.ensures w.if-not-apart.false
      | else-object-via-else-object w ↦ closed_array _ _ _ _ _ _ _ _ _ c.requires _ c.word-end.ensures.0 _ c.row_is.ensures c.if-not-row_is.false w.if-object.false
    ]
