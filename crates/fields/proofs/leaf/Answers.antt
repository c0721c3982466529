-- `leaf` writes the text of a row.
use Rattle.fields.specs.Fields.{leafing, leaf_fits}
use borrow.Author.Rules.{rules}
use Rattle.fields.proofs.leaf.Goals as goal

pub word-from-requires : goal.word-from-requires
word-from-requires c = search (leafing, rules)

pub word-to-requires : goal.word-to-requires
word-to-requires c = search (leafing, rules)

pub part-requires : goal.part-requires
part-requires c = search (leafing, rules)

pub overflow_sub-result : goal.overflow_sub-result
overflow_sub-result c = search (leafing, rules)

pub overflow_add-result : goal.overflow_add-result
overflow_add-result c =
    let k = leaf_fits _ _ c.requires c.word-from.ensures c.word-to.ensures in
    search rules

pub returns : goal.returns
returns c = search (leafing, rules)
