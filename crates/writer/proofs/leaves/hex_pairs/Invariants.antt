-- `hex_pairs` writes the pairs of bytes.
use mathlib.Core.Path.{◌≡◌}
use Prim.Native.Nat.{◌+◌, ◌*◌}
use lib.ListN.{length, drop}
use lib.Seq.{sets}
use Rattle.language.specs.House.{hex_pairs}
use Rattle.writer.proofs.leaves.hex_pairs.Given as goal

abbrev pub invariant-loop-i : goal.invariant-loop-i
invariant-loop-i l = (sets l.initial.out l.x (hex_pairs l.s) ≡ sets l.out (l.x + 2 * l.i) (hex_pairs (drop l.i l.s))) × (length l.out ≡ length l.initial.out)
