-- `key` tells a key of an object: its kind, its parent, and a text of characters.
use Rattle.sound.proofs.RowLaws.{row_past, row_no_key, row_parent, key_none, key_bad}
use Rattle.sound.proofs.key.Goals.{then-stop-r-via-then-stop-r, then-stop-r-via-else-stop-r+then-word-ne10, then-stop-r-via-else-stop-r+else-word-ne10+then-word-parent}
use Rattle.sound.proofs.key.Goals as goal

pub returns-then-stop-r : goal.returns-then-stop-r
returns-then-stop-r c =
    elim c.then-stop-r.branch [
      | then-stop-r-via-then-stop-r w ↦ row_past _ _ _ _ _ _ _ w.if-stop-r.true
      | then-stop-r-via-else-stop-r+then-word-ne10 w ↦ row_no_key _ _ _ _ _ _ _ w.word.ensures.0 w.if-word-ne10.true
      | then-stop-r-via-else-stop-r+else-word-ne10+then-word-parent w ↦ row_parent _ _ _ _ _ _ _ _ w.word-else-word-ne10.ensures.0 w.if-word-parent.true
    ]

pub returns-in_err-t : goal.returns-in_err-t
returns-in_err-t c =
    rw c.from_residual.ensures (key_none _ _ _ _ _ c.texted.ensures _ _ _ _ c.word.ensures.0 c.if-word-ne10.false c.word-else-word-ne10.ensures.0 c.if-word-parent.false c.if-stop-r.false c.in_err-t.was)

pub returns : goal.returns
returns c =
    key_bad _ _ _ _ _ c.texted.ensures _ _ _ _ c.word.ensures.0 c.if-word-ne10.false c.word-else-word-ne10.ensures.0 c.if-word-parent.false c.if-stop-r.false _ c.in_ok-t.was _ c.scripted.ensures c.if-scripted.false
