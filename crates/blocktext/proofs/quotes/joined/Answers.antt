-- `joined` meets its contract.
use Rattle.std.proofs.lemmas.Result.{err_from_is_err_and}
use Rattle.blocktext.proofs.JoinedLaws.{joined_stop, joined_begun, joined_block}
use Rattle.blocktext.proofs.quotes.joined.Goals as goal

pub returns-in_err-n : goal.returns-in_err-n
returns-in_err-n c =
    let p = err_from_is_err_and c.from_residual.result c.from_residual.ensures.1 in
    rw (p.1, p.2) (joined_stop c.args.doc.now c.args.c c.args.col c.requires.ready c.requires.col_le_columns c.joined_line.result c.args.text.now c.joined_line.new.text c.joined_line.ensures c.args.parent _ c.args.rows.now c.in_err-n.was)

pub joined_more-requires : goal.joined_more-requires
joined_more-requires c = joined_begun _ _ _ c.requires.ready c.requires.col_le_columns _ _ _ c.joined_line.ensures _ c.in_ok-n.was

pub returns : goal.returns
returns c = joined_block c.args.doc.now c.args.c c.args.col c.requires.ready c.requires.col_le_columns c.joined_line.result c.args.text.now c.joined_line.new.text c.joined_line.ensures _ c.in_ok-n.was c.args.parent c.joined_more.result c.args.rows.now c.joined_more.new.rows c.joined_more.new.text c.joined_more.ensures
