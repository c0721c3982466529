-- `copied` tells of the keys in the window.
use Rattle.cutkeys.specs.CutsWindow.{windowed}
use Rattle.cutkeys.proofs.copies.copied.Goals as goal

pub returns-then-clashes : goal.returns-then-clashes
returns-then-clashes c = search windowed

pub returns : goal.returns
returns c = search windowed
