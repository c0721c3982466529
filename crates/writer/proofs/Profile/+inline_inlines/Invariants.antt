-- The cycle of a row and its children on one line meets its contracts: the rows below become fewer, and in the loop those that are left.
use mathlib.Core.Path.{◌≡◌}
use lib.ListN.{length, get_or}
use Rattle.language.specs.Tree.{width}
use Rattle.writer.specs.Flat.{Inlines}
use Rattle.writer.specs.Children.{Left}
use Prim.Native.Nat.{◌+◌, ◌-◌, ◌*◌, ◌≤◌}
use Rattle.writer.proofs.Profile.+inline_inlines.Given as goal

abbrev pub invariant-inlines-loop-at : goal.invariant-inlines-loop-at
invariant-inlines-loop-at l =
    ((h : Inlines l.self.table.now l.self.text.now l.from l.stop l.x) → Left l.self.table.now l.self.text.now l.x l.stop h.trees l.at l.y l.initial.out l.out) × (length l.out ≡ length l.initial.out) × (l.from ≤ l.at)

abbrev pub decreases-inlines-loop-at : goal.decreases-inlines-loop-at
decreases-inlines-loop-at l = l.stop - l.at

abbrev pub decreases-inline : goal.decreases-inline
decreases-inline l = 2 * (get_or l.self.now.table.now (width * l.r + 6) 0 - l.r)

abbrev pub decreases-inlines : goal.decreases-inlines
decreases-inlines l = 2 * (l.stop - l.from) + 1
