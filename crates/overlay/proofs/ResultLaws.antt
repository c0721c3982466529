-- THE RESULT OF AN OVERLAY has no spans, and of two trees that documents without repeated keys have, it is one again, spans aside (`overlay_profile`). Assumes nothing.
use Rattle.std.specs.Prelude.{◌≡◌, refl, Bool, true, false, ℕ}
use Rattle.std.proofs.Common.{sym, ap, ap₂, subst, ◌∙◌}
use Rattle.language.specs.Tree.{Tree}
use Rattle.language.specs.Alike.{unspan, Alike}
use Rattle.sound.specs.Members.{Sane}
use Rattle.overlay.specs.Overlay.{is_object, Laid, laid, clash, overlay}
use Rattle.overlay.specs.Over.{clashes, over, clash_or_over}
use Rattle.overlay.proofs.ListsLaws.{over_objects}
use Rattle.overlay.proofs.WholeLaws.{over_sane}
use Rattle.overlay.specs.Unspanned.{unspan_twice, unspan_object, sane_unspan}
use Rattle.overlay.proofs.UnspannedLaws.{over_unspan}
use Rattle.overlay.proofs.WalkedLaws.{overlay_either}
use Rattle.overlay.specs.Profiles.{ProfileTree, tree_sane, sane_tree}
use Rattle.overlay.specs.Result.{clash_given, laid_over, over_given}

-- spans are not looked at
pub overlay_alike : (t t' u u' : Tree) → Alike t t' → Alike u u' → overlay t u ≡ overlay t' u'
overlay_alike t t' u u' p q = overlay_either t u ∙ (ap₂ clash_or_over p q ∙ sym (overlay_either t' u'))

-- A CLASH, OR THE ONE OVER THE OTHER
module _ (t u : Tree) where
  pub overlay_laid : clashes (unspan t) (unspan u) ≡ false → overlay t u ≡ laid (over (unspan t) (unspan u))
  overlay_laid e = overlay_either t u ∙ over_given (unspan t) (unspan u) e

  pub overlay_clash : clashes (unspan t) (unspan u) ≡ true → overlay t u ≡ clash
  overlay_clash e = overlay_either t u ∙ clash_given (unspan t) (unspan u) e

-- THE RESULT
module _ (t u : Tree) {r : Tree} (e : overlay t u ≡ laid r) where
  pub overlay_over : (clashes (unspan t) (unspan u) ≡ false) × (r ≡ over (unspan t) (unspan u))
  overlay_over = laid_over (unspan t) (unspan u) (sym (overlay_either t u) ∙ e)

  pub overlay_bare : unspan r ≡ r
  overlay_bare =
      let p = overlay_over.1 in
      ap unspan p ∙ (sym (over_unspan (unspan t) (unspan u)) ∙ (ap₂ over (unspan_twice t) (unspan_twice u) ∙ sym p))

  pub overlay_object : is_object t ≡ true → is_object u ≡ true → is_object r ≡ true
  overlay_object p q = ap is_object (overlay_over.1 ∙ over_objects (unspan t) (unspan u) (unspan_object t ∙ p) (unspan_object u ∙ q))

  pub overlay_sane : {k : ℕ} → Sane k t → Sane k u → Sane k r
  overlay_sane {k} x y = subst (Sane k) (sym overlay_over.1) (over_sane k (unspan t) (unspan u) (sane_unspan t x) (sane_unspan u y))

  pub overlay_profile : ProfileTree t → ProfileTree u → ProfileTree r
  overlay_profile p q = sane_tree r (overlay_sane (tree_sane p) (tree_sane q))
