-- `across` looks half a log of keys through beside every half before it. Assumes nothing.
use mathlib.Core.Path.{◌≡◌}
use Prim.Native.Nat.{◌*◌}
use lib.ListN.{length}
use Rattle.reader.specs.Windows.{half, list_of, Crossing}
use Rattle.reader.proofs.windows.across.Given as goal

abbrev pub invariant-loop-k : goal.invariant-loop-k
invariant-loop-k l = Crossing l.doc (list_of l.doc l.initial.keys) l.keys l.j (l.k * half) l.best × (length l.keys ≡ length l.initial.keys)
