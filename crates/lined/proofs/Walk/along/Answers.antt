-- `Walk::along` goes on in the line. Assumes nothing.
use native.Mathlib.Omega.{arith}
use Rattle.language.specs.Lines.{tail}
use Rattle.lined.specs.Searching.{clear_first}
use Rattle.lined.specs.Walking.{stands_here, start_fits, stands_along}
use Rattle.lined.proofs.Walk.along.Goals as goal

pub returns-then-p-self : goal.returns-then-p-self
returns-then-p-self c = let s = c.before in stands_here s.args.doc.now s.args.end s.args.p s.args.self s.requires.0 s.requires.1 c.if-p-self.true

pub overflow_add-start : goal.overflow_add-start
overflow_add-start c =
    let s = c.before in
    let n = c.tails-more in
    omega (arith, start_fits s.args.doc.now s.args.end s.args.p s.args.self s.requires.0 s.requires.1 c.if-p-self.false n.result n.ensures)

pub returns-then-more-gt0 : goal.returns-then-more-gt0
returns-then-more-gt0 c =
    let s = c.before in
    let n = c.tails-more in
    let t = clear_first tail s.args.doc.now s.args.p s.requires.0.inside in
    stands_along s.args.doc.now s.args.end s.args.p n.result s.args.p s.args.self s.requires.0 s.requires.1 c.if-p-self.false n.ensures t

pub returns : goal.returns
returns c =
    let s = c.before in
    let n = c.tails-more in
    let t = c.next-tail in
    stands_along s.args.doc.now s.args.end s.args.p n.result t.result s.args.self s.requires.0 s.requires.1 c.if-p-self.false n.ensures t.ensures.none
