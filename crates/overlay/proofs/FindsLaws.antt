-- FINDING A KEY IN THE RESULT (`overlay_finds`): the upper's value, or the lower's where the upper has none, or the two laid over each other. Assumes nothing.
use Rattle.std.specs.Prelude.{◌≡◌, Bool, ℕ, zero, suc}
use Rattle.std.proofs.Math.Path.{refl, subst₂}
use Rattle.std.proofs.Common.{sym, ap, ap₂, subst, ◌∙◌}
use mathlib.Core.List.{List}
use Rattle.std.proofs.Math.Bool.{true, false}
use Rattle.notation.specs.Class.{pick}
use Rattle.language.specs.Kind.{OBJECT, KEY}
use Rattle.language.specs.Tree.{Tree, leaf, node, Forest, more, Field, fields, forest, text_of}
use Rattle.language.specs.Alike.{unspan}
use Rattle.language.specs.Answered.{deepest}
use Rattle.exact.specs.Class.{clash}
use Rattle.exact.specs.Tells.{Tells, tells_no}
use Rattle.shaped.specs.Shaped.{Shaped, shaped_leaf, shaped_array, shaped_object, Elements, elements_none, elements_more, Pairs, pairs_none, pairs_more}
use Rattle.sound.specs.Members.{Sane}
use Rattle.overlay.specs.Overlay.{is_object, pairs, same, Value, value, absent, value_of, laid, overlay}
use Rattle.overlay.specs.Over.{clashes, over}
use Rattle.overlay.specs.Lists.{same_tells, no_value, value_here, value_later, merged}
use Rattle.overlay.proofs.ListsLaws.{over_other, over_value}
use Rattle.overlay.specs.Objects.{Props, props_none, props_more, same_value, props_value, pairs_forest}
use Rattle.overlay.proofs.ObjectsLaws.{sane_props, sane_other}
use Rattle.overlay.specs.Unspanned.{bare_value, plain_value, unspan_object, sane_unspan}
use Rattle.overlay.proofs.WalkedLaws.{overlay_either}
use Rattle.overlay.specs.Profiles.{ProfileTree, tree_sane, sane_tree}
use Rattle.overlay.proofs.ResultLaws.{overlay_over, overlay_object, overlay_sane}
use Rattle.overlay.specs.Clash.{Clash, lower_object, upper_object, below}
use Rattle.overlay.proofs.ClashLaws.{clashes_tells, over_told}
use Rattle.overlay.specs.Finds.{Finds, KeyOver, Lacks, Property, both_objects, both_others, finds, finds_object, lower_only, neither, of_value, to_value, upper_only, wider}

module _ {k : ℕ} (s : List ℕ) (t : Tree) (x : Sane (suc k) t) where
  found_value : {v : Tree} → Finds s v t → value_of s (pairs t) ≡ value v
  found_value {v} h = by x.shaped (sane_props x (finds_object h)) h
    where
      by : {t : Tree} → Shaped (suc k) t → Props k (pairs t) → Finds s v t → value_of s (pairs t) ≡ value v
      by (shaped_leaf y) ps f = elim f [ ]
      by (shaped_array y) ps f = elim f [ ]
      by (shaped_object y) ps (finds p) = to_value s ps (subst (Property s v) (sym (pairs_forest y)) p)

  value_found : {v : Tree} → is_object t ≡ true → value_of s (pairs t) ≡ value v → Finds s v t
  value_found {v} o e = by x.shaped (sane_props x o) o e
    where
      by : {t : Tree} → Shaped (suc k) t → Props k (pairs t) → is_object t ≡ true → value_of s (pairs t) ≡ value v → Finds s v t
      by (shaped_leaf y) ps o e = absurd (clash o refl)
      by (shaped_array y) ps o e = absurd (clash o refl)
      by (shaped_object y) ps o e = finds (subst (Property s v) (pairs_forest y) (of_value s ps e))

  value_lacks : value_of s (pairs t) ≡ absent → Lacks s t
  value_lacks e v h = no_value (found_value h) e

module _ (k : ℕ) (t u : Tree) (x : Sane (suc k) t) (y : Sane (suc k) u) (o : is_object t ≡ true) (q : is_object u ≡ true) {r : Tree} (e : overlay t u ≡ laid r) where
  result_value : (s : List ℕ) → value_of s (pairs r) ≡ merged (bare_value (value_of s (pairs t))) (bare_value (value_of s (pairs u)))
  result_value s =
      ap (λ (w : Tree). value_of s (pairs w)) (overlay_over t u e).1
      ∙ (over_value s (unspan t) (unspan u) (unspan_object t ∙ o) (unspan_object u ∙ q) ∙ ap₂ merged (plain_value s t) (plain_value s u))

  sane : Sane (suc k) r
  sane = overlay_sane t u e x y

  root : is_object r ≡ true
  root = overlay_object t u e o q

  result_found : (s : List ℕ) {a b : Value} {w : Tree} → value_of s (pairs t) ≡ a → value_of s (pairs u) ≡ b → merged (bare_value a) (bare_value b) ≡ value w → Finds s w r
  result_found s p i h = value_found s r sane root (result_value s ∙ (ap₂ (λ (a b : Value). merged (bare_value a) (bare_value b)) p i ∙ h))

  module _ (s : List ℕ) (v w : Tree) (p : value_of s (pairs t) ≡ value v) (i : value_of s (pairs u) ≡ value w) where
    agree : Clash (unspan t) (unspan u) → ⊥
    agree = tells_no (clashes (unspan t) (unspan u)) (overlay_over t u e).0 (clashes_tells (suc k) (unspan t) (unspan u) (sane_unspan t x) (sane_unspan u y))

    below_agree : Clash (unspan v) (unspan w) → ⊥
    below_agree c = agree (below s (unspan_object t ∙ o) (unspan_object u ∙ q) (plain_value s t ∙ ap bare_value p) (plain_value s u ∙ ap bare_value i) c)

    below_laid : overlay v w ≡ laid (over (unspan v) (unspan w))
    below_laid =
        overlay_either v w
        ∙ over_told k (unspan v) (unspan w) (sane_unspan v (props_value s (sane_props x o) p)) (sane_unspan w (props_value s (sane_props y q) i)) below_agree

    -- two others, two objects, and never one of each
    both_over : (a b : Bool) → is_object v ≡ a → is_object w ≡ b → KeyOver t u r s
    both_over true true g h =
        both_objects v w (over (unspan v) (unspan w)) (value_found s t x o p) (value_found s u y q i) g h below_laid (result_found s p i refl)
    both_over false false g h =
        both_others v w (value_found s t x o p) (value_found s u y q i) g h
        (result_found s p i (ap value (over_other (unspan v) (unspan w) (unspan_object v ∙ g))))
    both_over true false g h = absurd (below_agree (lower_object (unspan_object v ∙ g) (unspan_object w ∙ h)))
    both_over false true g h = absurd (below_agree (upper_object (unspan_object v ∙ g) (unspan_object w ∙ h)))

  key_over : (s : List ℕ) → KeyOver t u r s
  key_over s = by (value_of s (pairs t)) (value_of s (pairs u)) refl refl
    where
      by : (a b : Value) → value_of s (pairs t) ≡ a → value_of s (pairs u) ≡ b → KeyOver t u r s
      by (value v) (value w) p i = both_over s v w p i (is_object v) (is_object w) refl refl
      by (value v) absent p i = lower_only v (value_found s t x o p) (value_lacks s u y i) (result_found s p i refl)
      by absent (value w) p i = upper_only w (value_lacks s t x p) (value_found s u y q i) (result_found s p i refl)
      by absent absent p i = neither (value_lacks s t x p) (value_lacks s u y i) (value_lacks s r sane (result_value s ∙ ap₂ (λ (a b : Value). merged (bare_value a) (bare_value b)) p i))

-- one value for a key
pub finds_one : {k : ℕ} (t : Tree) → Sane k t → (s : List ℕ) {v w : Tree} → Finds s v t → Finds s w t → v ≡ w
finds_one {k = zero} t x s h g = absurd (clash (finds_object h) (sane_other x))
finds_one {k = suc k} t x s h g = same_value (sym (found_value s t x h) ∙ found_value s t x g)

pub finds_profile : {t v : Tree} (s : List ℕ) → ProfileTree t → Finds s v t → ProfileTree v
finds_profile {t} {v} s x h = sane_tree v (by deepest (tree_sane x))
  where
    by : (k : ℕ) → Sane k t → Sane k v
    by zero y = absurd (clash (finds_object h) (sane_other y))
    by (suc k) y = let z = props_value s (sane_props y (finds_object h)) (found_value s t y h) in record { shaped = wider z.shaped; once = z.once }

-- THE LAW
pub overlay_finds : (t u r : Tree) → ProfileTree t → ProfileTree u → is_object t ≡ true → is_object u ≡ true → overlay t u ≡ laid r → (s : List ℕ) → KeyOver t u r s
overlay_finds t u r x y o q e = by deepest (tree_sane x) (tree_sane y)
  where
    by : (k : ℕ) → Sane k t → Sane k u → (s : List ℕ) → KeyOver t u r s
    by zero i j = absurd (clash o (sane_other i))
    by (suc k) i j = key_over k t u i j o q e
