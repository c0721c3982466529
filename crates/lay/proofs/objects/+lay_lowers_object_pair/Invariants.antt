-- The cycle of one value over another meets its contracts: the containers that may still stand one inside another become fewer, and in the loop the keys that are left.
use Rattle.lay.specs.Laying.{Lowers}
use Rattle.lay.specs.Lowering.{Going}
use mathlib.Core.Path.{◌≡◌}
use lib.ListN.{length, get_or}
use Rattle.language.specs.Tree.{width}
use Prim.Native.Nat.{◌+◌, ◌-◌, ◌*◌, ◌≤◌}
use Rattle.lay.proofs.objects.+lay_lowers_object_pair.Given as goal

abbrev pub invariant-lowers-loop-q : goal.invariant-lowers-loop-q
invariant-lowers-loop-q l = ((h : Lowers l.lower.rows.now l.lower.text.now l.r l.upper.rows.now l.upper.text.now l.s l.allow l.initial.y) → (e : l.stop ≡ get_or l.lower.rows.now (width * l.r + 6) 0) → Going l.lower.rows.now l.lower.text.now l.r l.upper.rows.now l.upper.text.now l.s l.allow l.initial.y h l.stop e l.parent l.q l.y l.initial.rows l.rows l.initial.room l.room l.marks l.left.end l.left.start) × (length l.rows ≡ length l.initial.rows) × (length l.room ≡ length l.initial.room) × (length l.marks ≡ length l.initial.marks) × (l.left.end ≤ l.most) × (l.left.start ≤ l.left.end) × (l.most + 16 * l.allow ≤ length l.initial.marks)

abbrev pub decreases-lowers-loop-q : goal.decreases-lowers-loop-q
decreases-lowers-loop-q l = l.stop - l.q

abbrev pub decreases-lay : goal.decreases-lay
decreases-lay l = 4 * l.allow + 2

abbrev pub decreases-lowers : goal.decreases-lowers
decreases-lowers l = 4 * l.allow + 4

abbrev pub decreases-object : goal.decreases-object
decreases-object l = 4 * l.allow + 1

abbrev pub decreases-pair : goal.decreases-pair
decreases-pair l = 4 * l.allow + 3
