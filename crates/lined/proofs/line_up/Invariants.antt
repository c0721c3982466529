-- `line_up` fills the rows' last two words. The loop's invariant: r rows are filled, and the walk stands at the last of them. Assumes nothing.
use Prim.Native.Nat.{◌*◌}
use Rattle.language.specs.Tree.{width}
use Rattle.lined.specs.Going.{Going}
use Rattle.lined.proofs.line_up.Given as goal

abbrev pub invariant-loop-r : goal.invariant-loop-r
invariant-loop-r l = Going l.doc l.initial.table l.n l.table (width * l.r) l.w
