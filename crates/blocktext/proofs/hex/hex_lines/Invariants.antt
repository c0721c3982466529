-- `hex_lines` meets its contract: up to the LF at n its lines were read.
use mathlib.Core.Path.{◌≡◌}
use Prim.Native.Nat.{◌-◌}
use lib.ListN.{length}
use Rattle.blocktext.proofs.HexLaws.{HexLining}
use Rattle.blocktext.proofs.hex.hex_lines.Given as goal

abbrev pub invariant-loop-rows : goal.invariant-loop-rows
invariant-loop-rows l = HexLining l.doc l.c l.col l.e l.x l.n l.initial.text l.text × (length l.text ≡ length l.initial.text) × (l.rows ≡ l.initial.rows) × (length l.rows ≡ length l.initial.rows)

abbrev pub decreases-loop-rows : goal.decreases-loop-rows
decreases-loop-rows l = length l.doc - l.n.at
