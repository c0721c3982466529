-- `comment_line` meets its contract.
use Rattle.judge.proofs.Documents.{heading}
use Rattle.judge.proofs.whole.comment_line.Goals as goal

pub feed-requires : goal.feed-requires
feed-requires c = search heading

pub returns-in_err-comment : goal.returns-in_err-comment
returns-in_err-comment c = search heading

pub returns : goal.returns
returns c = search heading
