-- `yay_text` answers as `text_number` does, and where the text stands.
use borrow.Author.Rules.{rules}
use Rattle.yay.proofs.Exporting.{text_inside, text_at, text_bad}
use Rattle.yay.proofs.yay_text.Goals as goal

pub word-requires : goal.word-requires
word-requires c = search (text_inside, rules)

pub word-requires-then-text_number-eq0 : goal.word-requires-then-text_number-eq0
word-requires-then-text_number-eq0 c = search (text_inside, rules)

pub returns-then-text_number-eq0 : goal.returns-then-text_number-eq0
returns-then-text_number-eq0 c = search (text_at, rules)

pub returns : goal.returns
returns c = search (text_bad, rules)
