-- `chained_behind` seeks the keys behind the window in its chains. The loop's invariant: one is there exactly if one from here on is.
use Prim.Native.Nat.{◌-◌}
use Rattle.distinct.specs.Window.{Touched}
use Rattle.distinct.specs.Windows.{Going}
use Rattle.cutkeys.specs.Found.{Seeing, place_in}
use Rattle.cutkeys.specs.Content.{wholes_of}
use Rattle.cutkeys.proofs.after.chained_behind.Given as goal

abbrev pub invariant-loop-found : goal.invariant-loop-found
invariant-loop-found l = Going (wholes_of l.v) (Touched (wholes_of l.v) l.text l.froms l.tos l.n) l.from (place_in l.v.n l.found) × Seeing l.v.stored.now l.v.starts.now l.v.d l.v.n l.found

abbrev pub decreases-loop-found : goal.decreases-loop-found
decreases-loop-found l = l.v.n - place_in l.v.n l.found
