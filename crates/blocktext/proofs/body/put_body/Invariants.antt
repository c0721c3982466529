-- `put_body` meets its contract: with the lines that are left the text would be the body's.
use mathlib.Core.Path.{◌≡◌}
use Prim.Native.Nat.{◌+◌, ◌-◌}
use lib.ListN.{length}
use lib.Seq.{sets}
use Rattle.language.specs.BlockText.{body_text}
use Rattle.blocktext.specs.Contract.{body_lines}
use Rattle.blocktext.proofs.PutLaws.{Putting}
use Rattle.blocktext.proofs.body.put_body.Given as goal

abbrev pub invariant-loop-n : goal.invariant-loop-n
invariant-loop-n l = Putting l.doc l.col l.least l.last (l.from + length (body_text (body_lines l.doc l.e l.col))) (sets l.initial.text l.from (body_text (body_lines l.doc l.e l.col))) l.n l.text × (length l.text ≡ length l.initial.text)

abbrev pub decreases-loop-n : goal.decreases-loop-n
decreases-loop-n l = l.last - l.n.at
