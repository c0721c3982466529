-- `key` writes a key bare where it can be.
use Rattle.writer.specs.Leaves.{key_quoted, quoted_room, keying}
use borrow.Author.Rules.{rules}
use Rattle.writer.proofs.leaves.key.Goals as goal

pub quoted-requires : goal.quoted-requires
quoted-requires c = let r = c.requires in (r.0, quoted_room _ c.key_bytes-run.ensures _ r.1 c.then-run-eq0.either)

pub returns-then-run-eq0 : goal.returns-then-run-eq0
returns-then-run-eq0 c = key_quoted _ c.key_bytes-run.ensures c.then-run-eq0.either c.quoted.ensures

pub all-requires : goal.all-requires
all-requires c = search (keying, rules)

pub returns : goal.returns
returns c = search (keying, rules)
