-- `joined_lines` meets its contract: up to the LF at n its lines were read.
use Rattle.std.proofs.lemmas.Result.{err_from_is_err_and}
use native.Mathlib.Omega.{arith}
use mathlib.Core.Path.{refl, ◌∙◌}
use Rattle.blocktext.proofs.PartLaws.{part_first}
use Rattle.blocktext.proofs.JoinedLaws.{lines_done, lines_ready, lines_stop, lines_on, lines_further}
use Rattle.blocktext.proofs.quotes.joined_lines.Goals as goal

pub loop-far-init : goal.loop-far-init
loop-far-init c = (part_first _ _ _ _ _ _ _ _ _ _ c.requires, refl, refl, refl)

pub returns-in-Err : goal.returns-in-Err
returns-in-Err c = lines_done c.args.doc.now c.args.c c.args.col c.args.e c.args.x c.loop-far.n c.args.text.now c.loop-far.text c.loop-far.invariant.0 c.next_line.result c.next_line.ensures c.args.parent _ c.put_leaf.result c.args.rows.now c.put_leaf.new.rows c.in-Err.is (rw c.loop-far.invariant.2 at c.put_leaf.ensures)

pub joined_line-requires : goal.joined_line-requires
joined_line-requires c = lines_ready c.args.doc.now c.args.c c.args.col c.args.e c.args.x _ _ _ c.loop-far.invariant.0 _ c.next_line.ensures _ c.in-Ok.is

pub returns-in_err-n-in-Ok : goal.returns-in_err-n-in-Ok
returns-in_err-n-in-Ok c =
    let p = err_from_is_err_and c.from_residual.result c.from_residual.ensures.1 in
    rw (p.1, p.2) (lines_stop c.args.doc.now c.args.c c.args.col c.args.e c.args.x c.loop-far.n c.args.text.now c.loop-far.text c.loop-far.invariant.0 c.next_line.result c.next_line.ensures _ c.in-Ok.is c.joined_line.result c.joined_line.new.text c.joined_line.ensures c.args.parent _ c.args.rows.now c.loop-far.rows c.in_err-n-in-Ok.was)

pub loop-far-smaller : goal.loop-far-smaller
loop-far-smaller c = omega (arith, lines_further c.args.doc.now c.args.c c.args.col c.args.e c.args.x _ _ _ c.loop-far.invariant.0 _ c.next_line.ensures _ c.in-Ok.is _ _ c.joined_line.ensures _ c.in_ok-n-in-Ok.was)

pub loop-far-preserved : goal.loop-far-preserved
loop-far-preserved c = (lines_on c.args.doc.now c.args.c c.args.col c.args.e c.args.x _ _ _ c.loop-far.invariant.0 _ c.next_line.ensures _ c.in-Ok.is _ _ c.joined_line.ensures _ c.in_ok-n-in-Ok.was, c.joined_line.auto.text ∙ c.loop-far.invariant.1, c.loop-far.invariant.2, c.loop-far.invariant.3)
