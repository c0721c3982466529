-- `Cursor::indent` counts the spaces that stand at the cursor, up to a number.
use native.Mathlib.Omega.{arith}
use mathlib.Core.Path.{◌∙◌}
use lib.ListN.{drop}
use Rattle.rooms.specs.Indent.{indent_first, indent_done, indent_other, indent_more, spaces_lead}
use Rattle.rooms.proofs.Cursor.indent.Goals as goal

pub loop-i-init : goal.loop-i-init
loop-i-init c = let s = c.args in (indent_first s.doc.now s.self.at s.n, omega arith, omega arith)

pub returns-then-doc-at-ne32 : goal.returns-then-doc-at-ne32
returns-then-doc-at-ne32 c = let s = c.args in let l = c.loop-i in (indent_other s.doc.now s.self.at s.n l.i l.invariant.0 (omega arith) (omega arith) c.if-doc-at-ne32.true ∙ spaces_lead s.n (drop s.self.at s.doc.now), omega arith, omega arith)

pub loop-i-preserved : goal.loop-i-preserved
loop-i-preserved c = let s = c.args in let l = c.loop-i in (indent_more s.doc.now s.self.at s.n l.i l.invariant.0 (omega arith) (omega arith) c.if-doc-at-ne32.false, omega arith, omega arith)

pub returns : goal.returns
returns c =
    let s = c.args in
    let l = c.loop-i in
    let z = indent_done s.doc.now s.self.at s.n l.i l.invariant.0 c.requires (omega arith) ∙ spaces_lead s.n (drop s.self.at s.doc.now) in
    (omega (arith, z), omega arith, omega arith)
