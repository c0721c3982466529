-- THE THEOREMS OF OVERLAYS IN ANY GROUPING (02, Ticket 12), by name: of trees that documents without repeated keys have, spans aside. What they say stands in `overlay` (Overlay, Profiles, Grouping).
use Rattle.std.specs.Prelude.{◌≡◌, true, [], ℕ}
use Rattle.language.specs.Tree.{Tree, object_tree}
use Rattle.language.specs.Alike.{unspan}
use Rattle.overlay.specs.Overlay.{is_object, laid, overlay}
use Rattle.overlay.specs.Profiles.{ProfileTree}
use Rattle.overlay.specs.Grouping.{lower_two_first, upper_two_first}
use Rattle.overlay.specs.Grouping as grouping
use Rattle.overlay.proofs.GroupingLaws as grouping_laws
use Rattle.overlay.specs.Unchanged as unchanged
use Rattle.overlay.proofs.UnchangedLaws as unchanged_laws

-- ANY GROUPING: "both groupings clash, or both give equal trees, key order included"; equal are two that are both `clash`, or both `laid` with equal trees
pub any_grouping : (fleet region site : Tree) → ProfileTree fleet → ProfileTree region → ProfileTree site → lower_two_first fleet region site ≡ upper_two_first fleet region site
any_grouping = grouping_laws.any_grouping

-- "The empty object changes nothing on either side": the tree is given, its spans set to zero
pub empty_below : (t : Tree) → ProfileTree t → is_object t ≡ true → (a e : ℕ) → overlay (object_tree a e []) t ≡ laid (unspan t)
empty_below t x o a e = unchanged_laws.empty_below t x o a e

pub empty_above : (t : Tree) → ProfileTree t → is_object t ≡ true → (a e : ℕ) → overlay t (object_tree a e []) ≡ laid (unspan t)
empty_above t x o a e = unchanged_laws.empty_above t x o a e

-- "a tree laid over itself gives itself"
pub over_itself : (t : Tree) → ProfileTree t → overlay t t ≡ laid (unspan t)
over_itself t x = unchanged_laws.over_itself t x
