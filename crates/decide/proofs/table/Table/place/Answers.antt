-- `place` gives the text of a place, and `0` where it is missing.
use Rattle.std.proofs.Common.{sym, ◌∙◌, arith}
use Rattle.decide.specs.Deciding.{place_there, place_missing}
use Rattle.decide.proofs.table.Table.place.Goals as goal

pub returns-then-i-count : goal.returns-then-i-count
returns-then-i-count c = c.text.ensures ∙ sym (place_there c.args.self.now.words.now c.args.self.now.rows c.args.self.now.room.now c.args.r c.args.i (omega arith))

pub returns-else-i-count : goal.returns-else-i-count
returns-else-i-count c = sym (place_missing c.args.self.now.words.now c.args.self.now.rows c.args.self.now.room.now c.args.r c.args.i (omega arith))
