-- A byte of a content, 0 behind its end. Assumes nothing.
use Rattle.views.specs.Runs.{content_peeked, content_past}
use Rattle.views.proofs.view.ViewText.byte.Goals as goal

pub returns-then-at-self : goal.returns-then-at-self
returns-then-at-self c = content_peeked c.args.self.now.content c.if-at-self.true c.byte_at.ensures

pub returns : goal.returns
returns c = content_past c.args.self.now.content c.if-at-self.false
