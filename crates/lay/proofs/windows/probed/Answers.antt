-- `probed` seeks each key of the other object in the window. The loop's invariant: each key of the window has its match among those sought, or none there.
use mathlib.Core.Path.{refl, ap, ◌∙◌}
use Rattle.std.specs.Prelude.{Ok}
use lib.ListN.{length-set}
use Prim.Native.Nat.{◌<◌}
use lib.ListN.{length}
use Rattle.lay.specs.Windows.{probe_mark, probe_value, probe_met, probe_past, probing}
use borrow.Author.Rules.{rules}
use Rattle.lay.proofs.windows.probed.Goals as goal

pub loop-r-init : goal.loop-r-init
loop-r-init c = search probing

pub seek-requires : goal.seek-requires
seek-requires c = search probing

pub returns : goal.returns
returns c = search probing

pub loop-r-smaller : goal.loop-r-smaller
loop-r-smaller c = search probing

pub loop-r-preserved : goal.loop-r-preserved
loop-r-preserved c =
    let l = c.loop-r in
    let e = c.in-Ok-None.is ∙ ap Ok c.in-Ok-None.field-0-is in
    (probe_past c.args.text.now c.args.froms.now c.args.tos.now c.args.heads.now c.args.links.now c.args.n c.args.other.now.rows.now c.args.other.now.text.now c.args.from c.args.stop c.args.marks.now c.args.ranked c.requires l.marks l.r l.invariant.0 c.loop-r-test.true c.seek.result c.seek.ensures e _ c.word-r-in-Ok-None.ensures.0, l.invariant.1)

pub loop-r-smaller-in-Ok-Some : goal.loop-r-smaller-in-Ok-Some
loop-r-smaller-in-Ok-Some c = search probing

pub loop-r-preserved-in-Ok-Some : goal.loop-r-preserved-in-Ok-Some
loop-r-preserved-in-Ok-Some c =
    let l = c.loop-r in
    let e = c.in-Ok-Some.is ∙ ap Ok c.in-Ok-Some.field-0-is in
    (probe_met c.args.text.now c.args.froms.now c.args.tos.now c.args.heads.now c.args.links.now c.args.n c.args.other.now.rows.now c.args.other.now.text.now c.args.from c.args.stop c.args.marks.now c.args.ranked c.requires l.marks l.r l.invariant.0 c.loop-r-test.true c.seek.result c.seek.ensures c.in-Ok-Some.k e _ c.word-r.ensures.0, simp length-set l.invariant.1)

pub returns-in-Err : goal.returns-in-Err
returns-in-Err c = search probing

pub offset_bounds-marks-k : goal.offset_bounds-marks-k
offset_bounds-marks-k c =
    let l = c.loop-r in
    let f = probe_mark c.args.text.now c.args.froms.now c.args.tos.now c.args.heads.now c.args.links.now c.args.n c.args.other.now.rows.now c.args.other.now.text.now c.args.from c.args.stop c.args.marks.now c.args.ranked c.requires l.marks l.r l.invariant.0 c.loop-r-test.true c.seek.result c.seek.ensures in
    let i : c.in-Ok-Some.k < length l.marks = search (f, rules) in
    search rules

pub bounds-marks-k : goal.bounds-marks-k
bounds-marks-k c =
    let l = c.loop-r in
    let f = probe_mark c.args.text.now c.args.froms.now c.args.tos.now c.args.heads.now c.args.links.now c.args.n c.args.other.now.rows.now c.args.other.now.text.now c.args.from c.args.stop c.args.marks.now c.args.ranked c.requires l.marks l.r l.invariant.0 c.loop-r-test.true c.seek.result c.seek.ensures in
    let i : c.in-Ok-Some.k < length l.marks = search (f, rules) in
    search rules

pub word-r-requires : goal.word-r-requires
word-r-requires c = let l = c.loop-r in probe_value c.args.text.now c.args.froms.now c.args.tos.now c.args.heads.now c.args.links.now c.args.n c.args.other.now.rows.now c.args.other.now.text.now c.args.from c.args.stop c.args.marks.now c.args.ranked c.requires l.marks l.r l.invariant.0 c.loop-r-test.true 6 refl

pub word-r-requires-in-Ok-None : goal.word-r-requires-in-Ok-None
word-r-requires-in-Ok-None c = let l = c.loop-r in probe_value c.args.text.now c.args.froms.now c.args.tos.now c.args.heads.now c.args.links.now c.args.n c.args.other.now.rows.now c.args.other.now.text.now c.args.from c.args.stop c.args.marks.now c.args.ranked c.requires l.marks l.r l.invariant.0 c.loop-r-test.true 6 refl
