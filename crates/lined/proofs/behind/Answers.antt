-- `behind` goes back to an LF by blocks. The loop's invariant: none stands from i on. Assumes nothing.
use native.Mathlib.Omega.{arith}
use Rattle.lined.specs.Between.{between_none}
use Rattle.lined.specs.Searching.{before_clear, block_here, block_more, behind_on}
use Prim.Native.Nat.{◌-◌}
use Rattle.lined.specs.Counted.{range}
use Rattle.lined.proofs.behind.Goals as goal

pub loop-i-init : goal.loop-i-init
loop-i-init c = let s = c.args in (between_none (range 10 10) s.doc.now s.e, omega arith, omega arith)

pub returns-then-k-gt0 : goal.returns-then-k-gt0
returns-then-k-gt0 c =
    let s = c.before in
    let l = c.loop-i in
    let k = c.last-k in
    block_here s.args.doc.now s.args.a s.args.e l.i k.result l.invariant.1 l.invariant.2 s.requires.1 (omega arith) s.requires.2 l.invariant.0 k.ensures c.if-k-gt0.true

pub loop-i-preserved : goal.loop-i-preserved
loop-i-preserved c =
    let s = c.before in
    let l = c.loop-i in
    let k = c.last-k in
    let z = block_more s.args.doc.now s.args.e l.i k.result l.invariant.2 s.requires.1 (omega arith) l.invariant.0 k.ensures c.if-k-gt0.false in
    (z, before_clear (range 10 10) s.args.doc.now s.args.a (l.i - 64) s.args.e (omega arith) (omega arith) (omega arith) s.requires.2 z, omega arith)

pub returns : goal.returns
returns c =
    let s = c.before in
    let l = c.loop-i in
    behind_on s.args.doc.now s.args.a s.args.e l.i c.back-2.result l.invariant.2 s.requires.1 l.invariant.0 c.back-2.ensures
