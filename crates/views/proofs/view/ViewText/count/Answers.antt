-- A content has n bytes, each one of those stored. Assumes nothing.
use Rattle.views.specs.Runs.{content_counted}
use Rattle.views.proofs.view.ViewText.count.Goals as goal

pub returns : goal.returns
returns c = content_counted c.args.self.now.content c.counted.ensures.0 c.counted.ensures.1
