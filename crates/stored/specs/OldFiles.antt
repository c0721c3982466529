-- OLD STORED FILES READ AS BEFORE (`old_files`): a file that one field holds, as all were, keeps a tree exactly if it is the tree's form of Ticket 4. Assumes nothing.
use Rattle.std.specs.Prelude.{◌≡◌, ◌↔◌, List, ℕ, ◌+◌, ◌≤◌, length}
use Rattle.std.proofs.Common.{sym, ap, subst, ◌∙◌, arith}
use Rattle.language.specs.Tree.{Tree}
use Rattle.language.specs.Lent.{lent}
use Rattle.language.specs.Sound.{Profile}
use Rattle.stored.specs.Form.{head, widest, form}
use Rattle.stored.specs.Loaded.{Kept}
use Rattle.stored.specs.Old as old

pub widest_few : head + widest ≤ lent
unfolding widest
widest_few = omega arith
