-- `text_of` copies a content, run after run.
use Rattle.wide.specs.Copies.{copying_inside, copying_room, copying}
use Rattle.std.proofs.Common.{arith}
use Rattle.wide.proofs.text_of.Goals as goal

pub part-requires : goal.part-requires
part-requires c =
    let h = c.loop-i.invariant in
    let l = c.loop-i-test.true in
    let r = c.run-r.ensures in
    let room = copying_room h l r in
    (omega arith, copying_inside h l r, omega (arith, room))

pub loop-i-preserved : goal.loop-i-preserved
loop-i-preserved c = search copying
