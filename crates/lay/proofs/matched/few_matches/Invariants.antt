-- `few_matches` marks the keys of an object one after another: each turn, one key less is left.
use Rattle.lay.specs.Matching.{Match, Filling}
use mathlib.Core.Path.{◌≡◌}
use lib.ListN.{length}
use Prim.Native.Nat.{◌-◌, ◌≤◌, ◌<◌}
use Rattle.lay.proofs.matched.few_matches.Given as goal

abbrev pub invariant-loop-r : goal.invariant-loop-r
invariant-loop-r l = ((h : Match l.table.rows.now l.table.text.now l.q l.end l.other.rows.now l.other.text.now l.s) → Filling l.table.rows.now l.table.text.now l.q l.end l.other.rows.now l.other.text.now l.s h l.marks l.n l.r) × (length l.marks ≡ length l.initial.marks) × (l.n ≤ l.most) × (l.q < l.r → 0 < l.n) × (l.q ≤ l.r)

abbrev pub decreases-loop-r : goal.decreases-loop-r
decreases-loop-r l = l.end - l.r
