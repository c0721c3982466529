-- `plain_blocks` answers a place up to which plain bytes stand. The loop's invariant: they stand up to the block at i.
use Prim.Native.Nat.{◌+◌, ◌*◌}
use Rattle.characters.specs.Plains.{plain_of, Passing}
use Rattle.characters.proofs.plain.plain_blocks.Given as goal

abbrev pub invariant-loop-i : goal.invariant-loop-i
invariant-loop-i l = Passing (plain_of l.quote) l.doc l.at (l.at + 64 * l.i)
