-- `news` stores the upper's new pairs: each turn, one key less is left.
use Rattle.lay.specs.Laying.{News}
use Rattle.lay.specs.Lowering.{Newing}
use mathlib.Core.Path.{◌≡◌}
use Prim.Native.Nat.{◌+◌, ◌*◌, ◌-◌, ◌≤◌}
use lib.ListN.{length, get_or}
use Rattle.language.specs.Tree.{width}
use Rattle.lay.proofs.objects.news.Given as goal

abbrev pub invariant-loop-q : goal.invariant-loop-q
invariant-loop-q l = ((h : News l.upper.rows.now l.upper.text.now l.s l.lower.rows.now l.lower.text.now l.r l.allow l.initial.g.at) → (e : l.stop ≡ get_or l.upper.rows.now (width * l.s + 6) 0) → Newing l.upper.rows.now l.upper.text.now l.s l.lower.rows.now l.lower.text.now l.r l.allow l.initial.g.at h l.stop e l.parent l.q l.g l.initial.rows l.rows l.initial.room l.room l.marks l.left.end l.left.start) × (length l.rows ≡ length l.initial.rows) × (length l.room ≡ length l.initial.room) × (length l.marks ≡ length l.initial.marks) × (l.left.end ≤ l.most) × (l.left.start ≤ l.left.end)

abbrev pub decreases-loop-q : goal.decreases-loop-q
decreases-loop-q l = l.stop - l.q
