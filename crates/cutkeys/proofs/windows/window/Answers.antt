-- `window` tells of the keys in a window, by chains or where one is too long by the order of texts.
use borrow.Author.Rules.{rules}
use Rattle.cutkeys.proofs.WholeLaws.{room_again, wide_again}
use Rattle.cutkeys.proofs.windows.window.Goals as goal

pub ranked_window-requires : goal.ranked_window-requires
ranked_window-requires c =
    let s = c.requires in
    let r = s.2 in
    (s.0, s.1, search (r, room_again, rules), search (r, wide_again, rules))
