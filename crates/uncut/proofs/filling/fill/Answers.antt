-- `fill` fills the rooms from the root's field.
use borrow.Author.Rules.{rules}
use Rattle.uncut.specs.Children.{root_room, root_filled}
use Rattle.uncut.proofs.filling.fill.Goals as goal

pub children-requires : goal.children-requires
children-requires c = search (root_room, rules)

pub returns : goal.returns
returns c = λ h. root_filled _ c.requires c.children.ensures h
