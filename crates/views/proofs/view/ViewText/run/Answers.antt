-- The bytes of a content before the nearest cut. Assumes nothing.
use native.Mathlib.Omega.{arith}
use Rattle.views.specs.Runs.{run_inside, content_run, contents}
use Rattle.views.proofs.view.ViewText.run.Goals as goal

pub overflow_add-result : goal.overflow_add-result
overflow_add-result c = omega (arith, run_inside c.args.self.now.content c.requires c.run-r.ensures)

pub slice_bounds-result-end : goal.slice_bounds-result-end
slice_bounds-result-end c = run_inside c.args.self.now.content c.requires c.run-r.ensures

pub returns : goal.returns
returns c = content_run c.args.self.now.content c.requires c.run-r.ensures
