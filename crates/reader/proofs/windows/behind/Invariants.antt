-- `behind` goes on by half a log of keys until one has a repeated key, or none are left. Assumes nothing.
use mathlib.Core.Path.{◌≡◌}
use Prim.Native.Nat.{◌-◌}
use lib.ListN.{length}
use Rattle.language.specs.Answered.{limit}
use Rattle.reader.specs.Windows.{list_of, Sweeping}
use Rattle.reader.proofs.windows.behind.Given as goal

abbrev pub invariant-loop-j : goal.invariant-loop-j
invariant-loop-j l = Sweeping l.doc (list_of l.doc l.initial.keys) l.keys l.j × (length l.keys ≡ length l.initial.keys)

abbrev pub decreases-loop-j : goal.decreases-loop-j
decreases-loop-j l = limit - l.j
