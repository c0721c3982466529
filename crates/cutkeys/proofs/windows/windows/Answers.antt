-- `windows` tells whether no two keys that stand whole have one text. The loop's invariant: none have exactly if none from here on have.
use Rattle.distinct.specs.Windows.{onwards}
use Rattle.cutkeys.proofs.WholeLaws.{windows_first, window_falls}
use Rattle.cutkeys.proofs.windows.windows.Goals as goal

pub loop-p-init : goal.loop-p-init
loop-p-init c = search (windows_first, window_falls, onwards)
