-- `rest_apart` seeks each key that is cut and not in the window. The loop's invariant: all are alone exactly if those from p on are, and the one at p stands where it is said to.
use borrow.Author.Rules.{rules}
use Rattle.cutkeys.specs.CutsWindow.{rest_inside, rest_on}
use Rattle.cutkeys.proofs.cuts.rest_apart.Goals.{else-not-is_told-via-then-not-is_told+else-among, else-not-is_told-via-else-not-is_told}
use Rattle.cutkeys.proofs.cuts.rest_apart.Goals as goal

pub loop-p-preserved : goal.loop-p-preserved
loop-p-preserved c =
    let g = c.loop-p.invariant.0 in
    let l = c.loop-p-test.true in
    let k = c.key_at-k in
    let t = c.is_told in (
      elim c.else-not-is_told.branch [
        | else-not-is_told-via-then-not-is_told+else-among w ↦ rest_on _ _ _ _ _ _ g l k.result k.ensures.0 t.result t.ensures (search rules) w.among.result w.among.ensures w.if-among.false
        | else-not-is_told-via-else-not-is_told w ↦ rest_inside _ _ _ _ _ _ g l k.result k.ensures.0 t.result t.ensures (search rules)
      ],
      k.ensures.1,
    )
