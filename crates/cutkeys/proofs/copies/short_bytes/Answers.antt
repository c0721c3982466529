-- `short_bytes` gives the bytes of a key that is cut and short.
use Rattle.cutkeys.specs.Shorts.{counting}
use Rattle.cutkeys.proofs.copies.short_bytes.Goals as goal

pub returns-then-whole : goal.returns-then-whole
returns-then-whole c = search counting

pub returns-then-n-le-LONGEST : goal.returns-then-n-le-LONGEST
returns-then-n-le-LONGEST c = search counting

pub returns : goal.returns
returns c = search counting
