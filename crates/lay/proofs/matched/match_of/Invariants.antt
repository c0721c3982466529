-- `match_of` finds the row of a key's match: each turn, one key less is left.
use Rattle.lay.specs.Matching.{Seek, Seeking}
use Rattle.sound.specs.Keys.{text_at}
use Rattle.overlay.specs.Overlay.{pairs_of}
use Prim.Native.Nat.{◌-◌, ◌≤◌}
use Rattle.lay.proofs.matched.match_of.Given as goal

abbrev pub invariant-loop-r : goal.invariant-loop-r
invariant-loop-r l = ((h : Seek l.other.rows.now l.other.text.now l.from l.stop) → Seeking l.other.rows.now l.other.text.now (text_at l.table.rows.now l.table.text.now l.q) l.from l.stop (pairs_of h.trees) l.r) × (l.from ≤ l.r)

abbrev pub decreases-loop-r : goal.decreases-loop-r
decreases-loop-r l = l.stop - l.r
