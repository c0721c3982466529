-- `windows` tells whether no two keys that stand whole have one text. The loop's invariant: none have exactly if none from here on have.
use Prim.Native.Nat.{◌-◌}
use Rattle.distinct.specs.Roads.{Apart}
use Rattle.distinct.specs.Windows.{Going}
use Rattle.views.specs.Contents.{all}
use Rattle.cutkeys.specs.Places.{text_at}
use Rattle.cutkeys.specs.Content.{wholes_of, whole_from}
use Rattle.cutkeys.proofs.windows.windows.Given as goal

abbrev pub invariant-loop-p : goal.invariant-loop-p
invariant-loop-p l = Going (wholes_of l.v) (Apart (text_at (all l.v))) (whole_from l.v 0) l.p

abbrev pub decreases-loop-p : goal.decreases-loop-p
decreases-loop-p l = l.v.n - l.p
