-- AN OVERLAY IS A CLASH exactly if one object stands against one other value, at the roots or at a key that is in both (`overlay_clashes`). Assumes nothing.
use Rattle.std.specs.Prelude.{◌≡◌, refl, ◌↔◌, List, Bool, true, false, ℕ}
use Rattle.std.proofs.Common.{sym, ap, ◌∙◌}
use Rattle.language.specs.Tree.{Tree}
use Rattle.language.specs.Alike.{unspan}
use Rattle.language.specs.Answered.{deepest}
use Rattle.exact.specs.Tells.{Tells}
use Rattle.overlay.specs.Overlay.{is_object, pairs, Value, value, absent, value_of, clash, overlay}
use Rattle.overlay.specs.Over.{clashes}
use Rattle.overlay.specs.Lists.{no_value}
use Rattle.overlay.specs.Objects.{same_value}
use Rattle.overlay.specs.Unspanned.{bare_value, plain_value, unspan_object, sane_unspan}
use Rattle.overlay.specs.Profiles.{ProfileTree, tree_sane}
use Rattle.overlay.specs.Result.{no_tree}
use Rattle.overlay.proofs.ResultLaws.{overlay_laid, overlay_clash}
use Rattle.overlay.specs.Clash.{Clash, lower_object, upper_object, below}
use Rattle.overlay.proofs.ClashLaws.{clashes_tells}
use Rattle.overlay.specs.Clashed.{clash_back, clash_unspan}

-- THE LAW
pub overlay_clashes : (t u : Tree) → ProfileTree t → ProfileTree u → overlay t u ≡ clash ↔ Clash t u
overlay_clashes t u x y = by (clashes (unspan t) (unspan u)) refl (clashes_tells deepest (unspan t) (unspan u) (sane_unspan t (tree_sane x)) (sane_unspan u (tree_sane y)))
  where
    by : (b : Bool) → clashes (unspan t) (unspan u) ≡ b → Tells (Clash (unspan t) (unspan u)) b → overlay t u ≡ clash ↔ Clash t u
    by true p c = (λ e. clash_back c t u refl refl, λ d. overlay_clash t u p)
    by false p n = (λ e. absurd (no_tree (overlay_laid t u p) e), λ d. absurd (n (clash_unspan d)))
