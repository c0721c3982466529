-- `near` finds the least key. The loop's invariant: no LF stands before the least of those up to i. Assumes nothing.
use Rattle.lined.specs.Searching.{Near}
use Rattle.lined.proofs.near.Given as goal

abbrev pub invariant-loop-i : goal.invariant-loop-i
invariant-loop-i l = Near l.doc l.a l.i l.m
