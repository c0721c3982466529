-- `below` meets its contract.
use Rattle.std.proofs.lemmas.Result.{err_from_is_err_and}
use Rattle.blocktext.proofs.StringLaws.{below_bad, below_known, below_small, below_went}
use Rattle.blocktext.proofs.text.below.Goals as goal

pub returns-in_err-b : goal.returns-in_err-b
returns-in_err-b c =
    let p = err_from_is_err_and c.from_residual.result c.from_residual.ensures.1 in
    rw (p.1, p.2) (below_bad c.args.doc.now c.args.c c.args.e c.args.x c.args.col c.requires c.body.result c.body.ensures c.args.parent _ c.args.rows.now c.args.text.now c.in_err-b.was)

pub put_body-y-requires : goal.put_body-y-requires
put_body-y-requires c = let b = c.in_ok-b.b in below_known _ _ _ _ _ c.requires _ c.body.ensures b.at b.far b.last b.least c.in_ok-b.was

pub put_leaf-requires : goal.put_leaf-requires
put_leaf-requires c = let b = c.in_ok-b.b in below_small _ _ _ _ _ c.requires _ c.body.ensures b.at b.far b.last b.least c.in_ok-b.was _ _ _ c.put_body-y.ensures

pub returns : goal.returns
returns c =
    let b = c.in_ok-b.b in
    below_went c.args.doc.now c.args.c c.args.e c.args.x c.args.col c.requires c.body.result c.body.ensures b.at b.far b.last b.least c.in_ok-b.was c.put_body-y.result c.args.text.now c.put_body-y.new.text c.put_body-y.ensures c.args.parent c.put_leaf.result c.args.rows.now c.put_leaf.new.rows c.put_leaf.ensures
