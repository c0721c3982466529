-- `joined_lines` meets its contract: up to the LF at n its lines were read.
use mathlib.Core.Path.{◌≡◌}
use Prim.Native.Nat.{◌-◌}
use lib.ListN.{length}
use Rattle.blocktext.proofs.JoinedLaws.{JoinedLining}
use Rattle.blocktext.proofs.quotes.joined_lines.Given as goal

abbrev pub invariant-loop-far : goal.invariant-loop-far
invariant-loop-far l = JoinedLining l.doc l.c l.col l.e l.x l.n l.initial.text l.text × (length l.text ≡ length l.initial.text) × (l.rows ≡ l.initial.rows) × (length l.rows ≡ length l.initial.rows)

abbrev pub decreases-loop-far : goal.decreases-loop-far
decreases-loop-far l = length l.doc - l.n.at
