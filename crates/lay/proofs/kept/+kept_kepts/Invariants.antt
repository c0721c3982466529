-- The cycle of a row and those below it meets its contracts: the rows below become fewer, and in the loop those that are left.
use Rattle.lay.specs.Keeping.{Keeps, Left}
use mathlib.Core.Path.{◌≡◌}
use lib.ListN.{length, get_or}
use Rattle.language.specs.Tree.{width}
use Prim.Native.Nat.{◌+◌, ◌-◌, ◌*◌, ◌≤◌}
use Rattle.lay.proofs.kept.+kept_kepts.Given as goal

abbrev pub invariant-kepts-loop-r : goal.invariant-kepts-loop-r
invariant-kepts-loop-r l = ((h : Keeps l.table.rows.now l.table.text.now l.from l.stop l.initial.y) → Left l.table.rows.now l.table.text.now l.parent l.stop h.trees l.initial.y l.r l.y l.initial.rows l.rows l.initial.room l.room) × (length l.rows ≡ length l.initial.rows) × (length l.room ≡ length l.initial.room) × (l.from ≤ l.r)

abbrev pub decreases-kepts-loop-r : goal.decreases-kepts-loop-r
decreases-kepts-loop-r l = l.stop - l.r

abbrev pub decreases-kept : goal.decreases-kept
decreases-kept l = 2 * (get_or l.table.now.rows.now (width * l.r + 6) 0 - l.r)

abbrev pub decreases-kepts : goal.decreases-kepts
decreases-kepts l = 2 * (l.stop - l.from) + 1
