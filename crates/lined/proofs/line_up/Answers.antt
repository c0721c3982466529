-- `line_up` fills the rows' last two words. The loop's invariant: r rows are filled, and the walk stands at the last of them. Assumes nothing.
use native.Mathlib.Omega.{arith}
use Prim.Native.Nat.{◌*◌}
use Rattle.language.specs.Tree.{width}
use Rattle.lined.specs.Going.{lined_none, last_room, last_inside, last_small, going_first, going_room, going_small, going_stands, going_next, going_done}
use Rattle.lined.proofs.line_up.Goals as goal

pub returns-then-n-eq0 : goal.returns-then-n-eq0
returns-then-n-eq0 c =
    let s = c.before in
    lined_none s.args.doc.now s.args.table.now s.args.n c.if-n-eq0.true

pub bounds-table-n : goal.bounds-table-n
bounds-table-n c = let s = c.before in omega (arith, last_room s.args.doc.now s.args.table.now s.args.n s.requires (omega arith))

pub overflow_cast-end : goal.overflow_cast-end
overflow_cast-end c =
    let s = c.before in
    omega (arith, last_small s.args.doc.now s.args.table.now s.args.n s.requires (omega arith))

pub feed-requires : goal.feed-requires
feed-requires c =
    let s = c.before in
    (omega arith, last_inside s.args.doc.now s.args.table.now s.args.n s.requires (omega arith))

pub early-requires : goal.early-requires
early-requires c =
    let s = c.before in
    last_inside s.args.doc.now s.args.table.now s.args.n s.requires (omega arith)

pub loop-r-init : goal.loop-r-init
loop-r-init c =
    let s = c.before in
    going_first s.args.doc.now s.args.table.now s.args.n s.requires (omega arith) c.feed.result c.early.result c.feed.ensures c.early.ensures

pub bounds-table-i : goal.bounds-table-i
bounds-table-i c =
    let s = c.before in
    let l = c.loop-r in
    omega (arith, going_room s.args.doc.now s.args.table.now s.args.n s.requires l.table (width * l.r) l.w l.invariant (omega arith))

pub overflow_cast-p : goal.overflow_cast-p
overflow_cast-p c =
    let s = c.before in
    let l = c.loop-r in
    omega (arith, going_small s.args.doc.now s.args.table.now s.args.n s.requires l.table (width * l.r) l.w l.invariant (omega arith))

pub reach-w-requires : goal.reach-w-requires
reach-w-requires c =
    let s = c.before in
    let l = c.loop-r in
    going_stands s.args.doc.now s.args.table.now s.args.n s.requires l.table (width * l.r) l.w l.invariant (omega arith)

pub bounds-table-i-in-loop-r : goal.bounds-table-i-in-loop-r
bounds-table-i-in-loop-r c =
    let s = c.before in
    let l = c.loop-r in
    omega (arith, going_room s.args.doc.now s.args.table.now s.args.n s.requires l.table (width * l.r) l.w l.invariant (omega arith))

pub loop-r-preserved : goal.loop-r-preserved
loop-r-preserved c =
    let s = c.before in
    let l = c.loop-r in
    going_next s.args.doc.now s.args.table.now s.args.n s.requires l.table l.r l.w l.invariant (omega arith) c.reach-w.result c.reach-w.ensures

pub returns : goal.returns
returns c =
    let s = c.before in
    let l = c.loop-r in
    going_done s.args.doc.now s.args.table.now s.args.n s.requires l.table (width * l.r) l.w l.invariant (omega arith)
