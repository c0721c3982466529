-- `extent` passes parts, until an end stands there.
use borrow.Author.Rules.{rules}
use Rattle.views.specs.Contents.{content_lies}
use Rattle.views.specs.Spans.{going_start, going}
use Rattle.views.proofs.parts.extent.Goals as goal

pub loop-p-init : goal.loop-p-init
loop-p-init c = going_start _ _ _ (content_lies c.args.v.content c.requires)

pub returns-then-v-p : goal.returns-then-v-p
returns-then-v-p c = search (going, rules)

pub returns-then-tag-ne11 : goal.returns-then-tag-ne11
returns-then-tag-ne11 c = search (going, rules)

pub returns-then-m-ne-WIDEST : goal.returns-then-m-ne-WIDEST
returns-then-m-ne-WIDEST c = search (going, rules)

pub loop-p-preserved : goal.loop-p-preserved
loop-p-preserved c = search (going, rules)

pub returns : goal.returns
returns c = search (going, rules)
