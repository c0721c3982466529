-- `by_chains` tells what clashes with a key of the window, by chains.
use Rattle.std.proofs.Common.{ap, Ok, rules}
use Rattle.distinct.specs.Chains.{linked_in}
use Rattle.distinct.specs.Window.{clash_met, clash_past}
use Rattle.cutkeys.specs.CutsWindow.{chains_first, clash_broken}
use Rattle.cutkeys.proofs.copies.by_chains.Goals as goal

pub chained_all-requires : goal.chained_all-requires
chained_all-requires c = search (chains_first, rules)

pub chained_behind-requires : goal.chained_behind-requires
chained_behind-requires c =
    (linked_in _ _ _ _ _ _ _ c.in_ok-chained_all.ensures _ _ (chains_first _ _ _ _ c.requires.0 c.requires.1) c.chained_all.auto.links (ap Ok c.if-branch.false), c.requires.2)

pub returns-in_err-chained_all : goal.returns-in_err-chained_all
returns-in_err-chained_all c = clash_broken _ _ _ _ _ _ _ c.from_residual.ensures.0

pub returns-then-branch : goal.returns-then-branch
returns-then-branch c = clash_met _ _ _ _ _ _ _ _ _ c.in_ok-chained_all.ensures (ap Ok c.if-branch.true)

pub returns : goal.returns
returns c = clash_past _ _ _ _ _ _ _ _ _ c.in_ok-chained_all.ensures (ap Ok c.if-branch.false) _ c.chained_behind.ensures
