-- OVERLAYS IN ANY GROUPING (02, Ticket 12): of three trees both groupings clash, or both give equal trees, key order included (`any_grouping`). Assumes nothing.
use Rattle.std.specs.Prelude.{◌≡◌, refl, ◌⊎◌, Bool, true, false, ℕ}
use Rattle.std.proofs.Common.{sym, ap, ◌∙◌, inl, inr}
use Rattle.language.specs.Tree.{Tree}
use Rattle.language.specs.Alike.{unspan}
use Rattle.language.specs.Answered.{deepest}
use Rattle.exact.specs.Tells.{Tells}
use Rattle.sound.specs.Members.{Sane}
use Rattle.overlay.specs.Overlay.{Laid, laid, clash, onward, overlay}
use Rattle.overlay.specs.Over.{clashes, over, clash_or_over}
use Rattle.overlay.specs.Unspanned.{sane_unspan}
use Rattle.overlay.specs.Profiles.{ProfileTree, tree_sane}
use Rattle.overlay.specs.Clash.{Clash, clash_sym}

-- the site over what fleet and region give; what region and site give over the fleet. "A grouping clashes if either of its steps does"
abbrev pub lower_two_first : Tree → Tree → Tree → Laid
lower_two_first fleet region site = onward (overlay fleet region) (λ t. overlay t site)

abbrev pub upper_two_first : Tree → Tree → Tree → Laid
upper_two_first fleet region site = onward (overlay region site) (λ t. overlay fleet t)

-- what was given has no spans
pub onward_same : (l : Laid) (f g : Tree → Laid) → ((t : Tree) → l ≡ laid t → f t ≡ g t) → onward l f ≡ onward l g
onward_same (laid t) f g h = h t refl
onward_same clash f g h = refl
