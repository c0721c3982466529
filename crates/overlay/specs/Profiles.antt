-- THE TREES OF WHICH THE THEOREMS ON OVERLAYS SPEAK (`ProfileTree`): those that documents without repeated keys have, spans aside; so what an overlay gives is one again. Assumes nothing.
use Rattle.std.specs.Prelude.{refl}
use Rattle.std.proofs.Common.{sym}
use Rattle.language.specs.Tree.{Tree}
use Rattle.language.specs.Alike.{Alike}
use Rattle.language.specs.Answered.{deepest}
use Rattle.language.specs.House.{house}
use Rattle.language.specs.Sound.{Profile}
use Rattle.shaped.specs.Once.{alike_once}
use Rattle.shaped.specs.Holds.{profile_shaped}
use Rattle.house.specs.Document.{house_document}
use Rattle.sound.specs.Members.{Sane}
use Rattle.overlay.specs.Unspanned.{sane_alike}

-- some document "of any length, with at most 32 nested containers and no repeated key" has this tree, spans aside
pub record ProfileTree (t : Tree) : Type 0 where
  pub tree : Tree
  pub profile : Profile tree
  pub alike : Alike t tree

pub profile_tree : {t : Tree} → Profile t → ProfileTree t
profile_tree {t} p = record { tree = t; profile = p; alike = refl }

-- that is, the trees that are `Sane`
pub profile_sane : {t : Tree} → Profile t → Sane deepest t
profile_sane p = record { shaped = profile_shaped p; once = p.once }

pub tree_sane : {t : Tree} → ProfileTree t → Sane deepest t
tree_sane {t} p = sane_alike p.tree t (sym p.alike) (profile_sane p.profile)

pub sane_tree : (t : Tree) → Sane deepest t → ProfileTree t
sane_tree t x =
    let h = house_document deepest t x.shaped in
    let a = sym h.alike in
    record { tree = h.tree; profile = record { document = house t; word = h.word; once = alike_once t h.tree a x.once }; alike = a }
