-- `is_told` tells of a key that is whole, or short and before the place.
use mathlib.Core.Path.{◌≡◌, ◌∙◌}
use mathlib.Core.Bool.{false}
use lib.Dec.{ltb}
use borrow.Author.Rules.{rules}
use Rattle.cutkeys.specs.Shorts.{told_whole, told_behind, told_window}
use Rattle.cutkeys.proofs.copies.is_told.Goals as goal

pub returns-then-whole : goal.returns-then-whole
returns-then-whole c =
    let a = c.args in
    c.if-whole.true ∙ told_whole a.v.stored.now a.v.starts.now a.v.d a.v.n a.p c.requires.0 a.whole c.requires.1 a.next c.if-whole.true

pub returns-then-p-next : goal.returns-then-p-next
returns-then-p-next c =
    let a = c.args in
    told_window a.v.stored.now a.v.starts.now a.v.d a.v.n a.p c.requires.0 a.whole c.requires.1 c.if-whole.false c.size_of.result c.size_of.ensures a.next c.if-p-next.true

pub returns-else-p-next : goal.returns-else-p-next
returns-else-p-next c =
    let a = c.args in
    let e : ltb a.p a.next ≡ false = search rules in
    e ∙ told_behind a.v.stored.now a.v.starts.now a.v.d a.v.n a.p c.requires.0 a.whole c.requires.1 a.next c.if-whole.false c.if-p-next.false
