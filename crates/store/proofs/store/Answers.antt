-- `store` keeps its promise: what is not sound, or too much for the output, is told before a byte is written.
use Rattle.store.specs.Answers.{storing, stored_root, stored_done}
use Rattle.store.proofs.store.Goals as goal

pub returns-then-not-sound : goal.returns-then-not-sound
returns-then-not-sound c = search storing

pub needed-n-requires : goal.needed-n-requires
needed-n-requires c = search storing

pub returns-then-bytes_lent-n : goal.returns-then-bytes_lent-n
returns-then-bytes_lent-n c = search storing

pub field-requires : goal.field-requires
field-requires c = stored_root _ _ _ _ c.sound.ensures c.if-not-sound.false _ c.needed-n.ensures c.args.out.now _ c.bytes_lent.ensures c.if-bytes_lent-n.false

pub returns : goal.returns
returns c = stored_done _ _ _ _ c.sound.ensures c.if-not-sound.false _ c.needed-n.ensures _ _ c.bytes_lent.ensures c.if-bytes_lent-n.false _ _ c.field.ensures
