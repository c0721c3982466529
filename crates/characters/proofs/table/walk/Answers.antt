-- `walk` answers where the character ends, or the byte that refuses it. The loop's invariant: on the way through a character's bytes.
use native.Mathlib.Omega.{arith}
use Rattle.characters.proofs.Chars.{wide_none, wide_ends, walking}
use Rattle.characters.proofs.table.walk.Goals as goal

pub returns-in-0 : goal.returns-in-0
returns-in-0 c =
    let s = c.args in
    let p = c.requires in
    let l = c.loop-i in
    wide_none
    s.doc.now
    s.table.now
    s.at
    l.i
    l.state
    c.step-state.result
    p.table_value
    p.at_in_bounds
    p.bound
    l.invariant.0
    (omega arith)
    c.step-state.ensures
    c.in-0.is

pub returns-in-1 : goal.returns-in-1
returns-in-1 c =
    let s = c.args in
    let p = c.requires in
    let l = c.loop-i in
    wide_ends
    s.doc.now
    s.table.now
    s.at
    l.i
    l.state
    c.step-state.result
    p.table_value
    p.at_in_bounds
    p.bound
    l.invariant.0
    (omega arith)
    c.step-state.ensures
    c.in-1.is

pub returns : goal.returns
returns c = search walking
