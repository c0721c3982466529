-- `joined_more` meets its contract.
use Rattle.std.proofs.lemmas.Result.{err_from_is_err_and}
use Rattle.blocktext.proofs.JoinedLaws.{more_none, more_ready, more_stop, more_begun, more_went}
use Rattle.blocktext.proofs.quotes.joined_more.Goals as goal

pub returns-in_err-s : goal.returns-in_err-s
returns-in_err-s c =
    let p = err_from_is_err_and c.from_residual.result c.from_residual.ensures.1 in
    rw (p.1, p.2) (more_none c.args.doc.now c.args.c c.args.col c.args.e c.args.x c.requires c.next_line.result c.next_line.ensures c.args.parent _ c.args.rows.now c.args.text.now c.in_err-s.was)

pub joined_line-requires : goal.joined_line-requires
joined_line-requires c = more_ready _ _ _ _ _ c.requires _ c.next_line.ensures _ c.in_ok-s.was

pub returns-in_err-n : goal.returns-in_err-n
returns-in_err-n c =
    let p = err_from_is_err_and c.from_residual-in_err-n.result c.from_residual-in_err-n.ensures.1 in
    rw (p.1, p.2) (more_stop c.args.doc.now c.args.c c.args.col c.args.e c.args.x c.requires c.next_line.result c.next_line.ensures _ c.in_ok-s.was c.joined_line.result c.args.text.now c.joined_line.new.text c.joined_line.ensures c.args.parent _ c.args.rows.now c.in_err-n.was)

pub joined_lines-requires : goal.joined_lines-requires
joined_lines-requires c = more_begun _ _ _ _ _ c.requires _ c.next_line.ensures _ c.in_ok-s.was _ _ _ c.joined_line.ensures _ c.in_ok-n.was

pub returns : goal.returns
returns c = more_went c.args.doc.now c.args.c c.args.col c.args.e c.args.x c.requires c.next_line.result c.next_line.ensures _ c.in_ok-s.was c.joined_line.result c.args.text.now c.joined_line.new.text c.joined_line.ensures _ c.in_ok-n.was c.args.parent c.joined_lines.result c.args.rows.now c.joined_lines.new.rows c.joined_lines.new.text c.joined_lines.ensures
