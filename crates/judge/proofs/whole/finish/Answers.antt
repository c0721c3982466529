-- `finish` meets its contract.
use Rattle.judge.proofs.Documents.{finishing}
use Rattle.judge.proofs.whole.finish.Goals as goal

pub returns-then-e-doc : goal.returns-then-e-doc
returns-then-e-doc c = search finishing

pub returns-else-e-doc : goal.returns-else-e-doc
returns-else-e-doc c = search finishing
