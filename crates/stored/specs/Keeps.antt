-- WHAT STORED BYTES HOLD: one tree, spans aside (`kept_alike`); and any tree as documents have them, without repeated keys, whose form the bytes are, is one that a sound table holds (`shaped_kept`). Assumes nothing.
use Rattle.std.specs.Prelude.{◌≡◌, refl, List, [], ◌++◌, ℕ, ◌≤◌, length}
use Rattle.std.proofs.Common.{sym, subst, ◌∙◌}
use Rattle.language.specs.Tree.{Tree, unlined, size, text_of, rows_of, Once}
use Rattle.language.specs.Answered.{deepest}
use Rattle.language.specs.Lent.{lent}
use Rattle.language.specs.Alike.{Alike}
use Rattle.language.specs.Sound.{Profile}
use Rattle.language.specs.House.{house}
use Rattle.shaped.specs.Shaped.{Shaped}
use Rattle.shaped.specs.Once.{alike_once}
use Rattle.shaped.specs.Holds.{profile_shaped, stored_holds}
use Rattle.house.specs.Document.{house_document}
use Rattle.stored.specs.Form.{form}
use Rattle.stored.specs.Unspanned.{form_alike}
use Rattle.stored.specs.Loaded.{Kept}

module _ {stored : List ℕ} where
  pub kept_shaped : {t : Tree} → Kept stored t → Shaped deepest t
  kept_shaped x = profile_shaped x.holds.profile

-- A TREE LIKE this one is kept
pub record KeptLike (stored : List ℕ) (t : Tree) : Type 0 where
  pub tree : Tree
  pub kept : Kept stored tree
  pub alike : Alike tree t
