-- `window` marks the keys of a window.
use Rattle.lay.specs.Windows.{window_done, windowing}
use Rattle.lay.proofs.windows.window.Goals as goal

pub word-stop-requires : goal.word-stop-requires
word-stop-requires c = search windowing

pub window_matches-requires : goal.window_matches-requires
window_matches-requires c = search windowing

pub returns : goal.returns
returns c =
    let w = c.word-stop in
    let m = c.min-room in
    let g = c.gather-n in
    window_done c.args.table.now.rows.now c.args.table.now.text.now c.args.q c.args.end c.args.other.now.rows.now c.args.other.now.text.now c.args.s c.requires.0 c.args.marks.now c.args.most c.requires.1 c.requires.2 c.args.froms.now c.args.tos.now c.args.heads.now c.args.links.now c.requires.3 m.result m.ensures _ _ _ g.result g.ensures w.result w.ensures.0 _ c.window_matches.ensures
