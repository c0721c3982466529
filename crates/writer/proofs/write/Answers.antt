-- `write` keeps its promise: what is not sound, too long or too much for the output is told before a byte is written.
use Rattle.writer.specs.Wrote.{writing, write_done}
use Rattle.writer.proofs.write.Goals as goal

pub returns-then-n-gt-LIMIT : goal.returns-then-n-gt-LIMIT
returns-then-n-gt-LIMIT c = search writing

pub returns : goal.returns
returns c =
    write_done _ _ _ _ c.sound.ensures c.if-not-sound.false _ c.count-n.ensures _ _ c.bytes_lent.ensures c.if-n-gt-LIMIT.false c.if-bytes_lent-n.false _ _ c.house-2.ensures
