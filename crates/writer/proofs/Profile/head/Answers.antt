-- `head` writes what stands before a child.
use Rattle.writer.specs.Lines.{lead_room, head_dash, head_dashed, head_inline, head_close, head_labelled}
use Rattle.writer.proofs.Profile.head.Goals as goal

pub spaces-a-requires : goal.spaces-a-requires
spaces-a-requires c = lead_room _ _ _ c.requires

pub put_two-requires : goal.put_two-requires
put_two-requires c = head_dash _ _ c.spaces-a.ensures c.if-item.true c.requires

pub returns-then-item : goal.returns-then-item
returns-then-item c = λ h. head_dashed _ _ c.spaces-a.ensures _ c.if-item.true h c.put_two.ensures

pub inline-b-requires : goal.inline-b-requires
inline-b-requires c = head_inline _ _ c.spaces-a.ensures c.if-item.false c.requires

pub put-requires : goal.put-requires
put-requires c = head_close _ _ c.spaces-a.ensures c.inline-b.ensures c.if-item.false c.requires

pub returns : goal.returns
returns c = λ h. head_labelled _ _ c.spaces-a.ensures c.inline-b.ensures _ c.if-item.false h c.put.ensures
