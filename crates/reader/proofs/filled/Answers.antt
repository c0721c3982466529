-- `filled` answers as the first repeated key and the rooms lent allow, and reads the document into them.
use borrow.Author.Rules.{rules}
use Rattle.reader.specs.Judged.{no_total}
use Rattle.reader.specs.Lent.{filled_repeat, filled_rows, filled_bytes, filled_ranked, filled_all, filled_total}
use Rattle.reader.proofs.filled.Goals as goal

pub returns-in-Some : goal.returns-in-Some
returns-in-Some c = record { answered = search (filled_repeat, rules); totals = search (no_total, rules) }

pub returns-then-table-counts : goal.returns-then-table-counts
returns-then-table-counts c = record { answered = search (filled_rows, rules); totals = search (no_total, rules) }

pub returns-then-text-counts : goal.returns-then-text-counts
returns-then-text-counts c = record { answered = search (filled_bytes, rules); totals = search (no_total, rules) }

pub line_up-requires : goal.line_up-requires
line_up-requires c =
    let asked = c.requires in
    filled_ranked _ _ _ _ asked.0 c.args.first asked.1 _ _ c.if-table-counts.false _ _ c.pass.ensures.filled

pub returns : goal.returns
returns c = record { answered = search (filled_all, rules); totals = search (filled_total, rules) }
