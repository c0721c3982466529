-- WHAT AN OVERLAY LEAVES AS IT IS (02, Ticket 12), spans aside: the empty object changes nothing on either side, and a tree laid over itself gives itself. Assumes nothing.
use Rattle.std.specs.Prelude.{◌≡◌, Bool, true, false, ℕ, zero, suc}
use Rattle.std.proofs.Math.Path.{refl, ap₂}
use Rattle.std.proofs.Common.{sym, ap, ◌∙◌}
use mathlib.Core.List.{List, [], ◌∷◌, ◌++◌, append-nil}
use Rattle.language.specs.Kind.{OBJECT, KEY}
use Rattle.language.specs.Tree.{Tree, leaf, node, Field, field, object_tree, text_of, first, after}
use Rattle.language.specs.Alike.{unspan, Alike}
use Rattle.language.specs.Answered.{deepest}
use Rattle.exact.specs.Class.{clash}
use Rattle.shaped.specs.Shaped.{Shaped, shaped_leaf, shaped_array, shaped_object}
use Rattle.sound.specs.Members.{Sane}
use Rattle.overlay.specs.Overlay.{is_object, pairs_of, pairs, Value, value, value_of, new_ones, laid, overlay}
use Rattle.overlay.specs.Over.{over, clash_or_over}
use Rattle.overlay.specs.Lists.{no_value, value_here, value_later, new_left, topped, mended, laid_pairs}
use Rattle.overlay.proofs.ListsLaws.{over_objects, over_other}
use Rattle.overlay.specs.Objects.{Props, props_none, props_more, same_value, pairs_forest, pairs_count, props_sane}
use Rattle.overlay.proofs.ObjectsLaws.{sane_props, sane_other}
use Rattle.overlay.specs.Unspanned.{unspan_object, sane_unspan, bare, bare_pairs_lem, bare_append, bare_object}
use Rattle.overlay.proofs.UnspannedLaws.{over_unspan}
use Rattle.overlay.proofs.WalkedLaws.{overlay_either}
use Rattle.overlay.specs.Profiles.{ProfileTree, tree_sane}
use Rattle.overlay.specs.Clash.{Clash, lower_object, upper_object, below, clash_sym}
use Rattle.overlay.proofs.ClashLaws.{over_told}
use Rattle.overlay.specs.Unchanged.{clash_none, clash_self, empty, empty_object, empty_pairs, laid_self, none_above, none_below, root, unspan_span}

-- AN OBJECT is made of its pairs
object_again : {k : ℕ} {t : Tree} → Shaped k t → is_object t ≡ true → object_tree (first t) (after t) (pairs t) ≡ t
object_again (shaped_leaf x) o = absurd (clash o refl)
object_again (shaped_array x) o = absurd (clash o refl)
object_again (shaped_object {a = a} {e = e} x) o = ap₂ (node OBJECT a e) (pairs_count x) (pairs_forest x)

bare_again : {k : ℕ} (t : Tree) → Sane k t → is_object t ≡ true → object_tree 0 0 (pairs (unspan t)) ≡ unspan t
bare_again t x o =
    let z = unspan_span t in
    ap₂ (λ (a e : ℕ). object_tree a e (pairs (unspan t))) (sym z.0) (sym z.1) ∙ object_again (sane_unspan t x).shaped (unspan_object t ∙ o)

over_self : (k : ℕ) (t : Tree) → Sane k t → Alike (over t t) t
over_self zero t x = ap unspan (over_other t t (sane_other x))
over_self (suc k) t x = by (is_object t) refl (λ v. over_self k v)
  where
    by : (a : Bool) → is_object t ≡ a → ((v : Tree) → Sane k v → Alike (over v v) v) → Alike (over t t) t
    by true o f =
        ap unspan (over_objects t t o o)
        ∙ (sym (bare_object (laid_pairs (pairs t) (pairs t)))
        ∙ (ap (object_tree 0 0) (laid_self f (sane_props x o) ∙ sym (bare_pairs_lem t)) ∙ bare_again t x o))
    by false o f = ap unspan (over_other t t o)

module _ (k : ℕ) (t : Tree) (x : Sane (suc k) t) (o : is_object t ≡ true) where
  empty_lower : clash_or_over empty_object (unspan t) ≡ laid (unspan t)
  empty_lower =
      over_told (suc k) empty_object (unspan t) (empty k t x o) (sane_unspan t x) (clash_none refl (root k t x o) empty_pairs)
      ∙ ap laid
      (over_objects empty_object (unspan t) refl (root k t x o)
      ∙ (ap (object_tree 0 0) (ap (λ (l : List Field). laid_pairs l (pairs (unspan t))) empty_pairs ∙ none_below (pairs (unspan t))) ∙ bare_again t x o))

  empty_upper : clash_or_over (unspan t) empty_object ≡ laid (unspan t)
  empty_upper =
      over_told (suc k) (unspan t) empty_object (sane_unspan t x) (empty k t x o) (λ c. clash_none refl (root k t x o) empty_pairs (clash_sym c))
      ∙ ap laid
      (over_objects (unspan t) empty_object (root k t x o) refl
      ∙ (ap (object_tree 0 0) (ap (laid_pairs (pairs (unspan t))) empty_pairs ∙ none_above (pairs (unspan t))) ∙ bare_again t x o))

module _ (t : Tree) (x : ProfileTree t) where
  -- "a tree laid over itself gives itself"
  pub over_itself : overlay t t ≡ laid (unspan t)
  over_itself =
      let y = sane_unspan t (tree_sane x) in
      overlay_either t t ∙ (over_told deepest (unspan t) (unspan t) y y (λ c. clash_self c refl) ∙ ap laid (over_unspan t t ∙ over_self deepest t (tree_sane x)))

  module _ (o : is_object t ≡ true) where
    some_depth : {A : Type 0} → ((k : ℕ) → Sane (suc k) t → A) → A
    some_depth {A} f = by deepest (tree_sane x)
      where
        by : (k : ℕ) → Sane k t → A
        by zero y = absurd (clash o (sane_other y))
        by (suc k) y = f k y

    -- "The empty object changes nothing on either side"
    pub empty_below : (a e : ℕ) → overlay (object_tree a e []) t ≡ laid (unspan t)
    unfolding unspan
    empty_below a e = overlay_either (object_tree a e []) t ∙ some_depth (λ k y. empty_lower k t y o)

    pub empty_above : (a e : ℕ) → overlay t (object_tree a e []) ≡ laid (unspan t)
    unfolding unspan
    empty_above a e = overlay_either t (object_tree a e []) ∙ some_depth (λ k y. empty_upper k t y o)
