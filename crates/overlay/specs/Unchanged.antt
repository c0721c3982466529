-- WHAT AN OVERLAY LEAVES AS IT IS (02, Ticket 12), spans aside: the empty object changes nothing on either side, and a tree laid over itself gives itself. Assumes nothing.
use Rattle.std.specs.Prelude.{◌≡◌, Bool, true, false, ℕ, zero, suc}
use Rattle.std.proofs.Math.Path.{refl, ap₂}
use Rattle.std.proofs.Common.{sym, ap, ◌∙◌}
use mathlib.Core.List.{List, [], ◌∷◌, ◌++◌, append-nil}
use Rattle.language.specs.Kind.{OBJECT, KEY}
use Rattle.language.specs.Tree.{Tree, leaf, node, Field, field, object_tree, text_of, first, after}
use Rattle.language.specs.Alike.{unspan, Alike}
use Rattle.language.specs.Answered.{deepest}
use Rattle.exact.specs.Class.{clash}
use Rattle.shaped.specs.Shaped.{Shaped, shaped_leaf, shaped_array, shaped_object}
use Rattle.sound.specs.Members.{Sane}
use Rattle.overlay.specs.Overlay.{is_object, pairs_of, pairs, Value, value, value_of, new_ones, laid, overlay}
use Rattle.overlay.specs.Over.{over, clash_or_over}
use Rattle.overlay.specs.Lists.{no_value, value_here, value_later, new_left, topped, mended, laid_pairs}
use Rattle.overlay.specs.Objects.{Props, props_none, props_more, same_value, pairs_forest, pairs_count, props_sane}
use Rattle.overlay.specs.Unspanned.{unspan_object, sane_unspan, bare, bare_pairs_lem, bare_append, bare_object}
use Rattle.overlay.specs.Profiles.{ProfileTree, tree_sane}
use Rattle.overlay.specs.Clash.{Clash, lower_object, upper_object, below, clash_sym}

pub unspan_span : (t : Tree) → (first (unspan t) ≡ 0) × (after (unspan t) ≡ 0)
unfolding unspan
unspan_span (leaf k a e s) = (refl, refl)
unspan_span (node k a e c ts) = (refl, refl)

-- THE EMPTY OBJECT, below and above
pub new_to_none : (gs : List Field) → new_ones [] gs ≡ gs
unfolding new_ones value_of
new_to_none [] = refl
new_to_none (field k w ∷ gs) = ap (λ (l : List Field). field k w ∷ l) (new_to_none gs)

pub none_below : (gs : List Field) → laid_pairs [] gs ≡ gs
unfolding laid_pairs mended
none_below gs = new_to_none gs

pub mended_none : (fs : List Field) → mended fs [] ≡ fs
unfolding mended value_of
mended_none [] = refl
mended_none (field k v ∷ fs) = ap (λ (l : List Field). field k v ∷ l) (mended_none fs)

pub none_above : (fs : List Field) → laid_pairs fs [] ≡ fs
unfolding laid_pairs new_ones
none_above fs = append-nil (mended fs []) ∙ mended_none fs

-- nothing clashes with an object that has no pairs
pub clash_none : {t u : Tree} → is_object t ≡ true → is_object u ≡ true → pairs t ≡ [] → Clash t u → ⊥
unfolding value_of
clash_none o q h (lower_object i j) = clash q j
clash_none o q h (upper_object i j) = clash o i
clash_none o q h (below s i j x y c) = no_value x (ap (value_of s) h)

-- ITSELF: pairs that all stand in others
pub Part : List Field → List Field → Type 0
Part fs gs = (s : List ℕ) (v : Tree) → value_of s fs ≡ value v → value_of s gs ≡ value v

module _ {k : ℕ} (gs : List Field) where
  part_new : {fs : List Field} → Props k fs → Part fs gs → new_ones gs fs ≡ []
  unfolding new_ones text_of Part
  part_new props_none f = refl
  part_new (props_more {a = a} {e = e} {d = d} {v = v} {fs = fs} x y n ps) f =
      let key = leaf KEY a e d in
      new_left gs key v fs (f d.bytes v (value_here d.bytes key v fs refl)) ∙ part_new ps (λ s w h. f s w (value_later s key v fs n h))

  part_mended : {fs : List Field} → ((v : Tree) → Sane k v → Alike (over v v) v) → Props k fs → Part fs gs → bare (mended fs gs) ≡ bare fs
  unfolding bare mended text_of Part
  part_mended deeper props_none f = refl
  part_mended deeper (props_more {a = a} {e = e} {d = d} {v = v} {fs = fs} x y n ps) f =
      let key = leaf KEY a e d in
      ap₂
      (λ (w : Tree) (l : List Field). field (unspan key) w ∷ l)
      (ap (λ (z : Value). unspan (topped v z)) (f d.bytes v (value_here d.bytes key v fs refl)) ∙ deeper v y)
      (part_mended deeper ps (λ s w h. f s w (value_later s key v fs n h)))

pub laid_self : {k : ℕ} {fs : List Field} → ((v : Tree) → Sane k v → Alike (over v v) v) → Props k fs → bare (laid_pairs fs fs) ≡ bare fs
unfolding laid_pairs bare Part
laid_self {fs = fs} deeper ps =
    bare_append (mended fs fs) (new_ones fs fs)
    ∙ (ap₂ (λ (l m : List Field). l ++ m) (part_mended fs deeper ps (λ s v h. h)) (ap bare (part_new fs ps (λ s v h. h))) ∙ append-nil (bare fs))

-- nothing clashes with itself
pub clash_self : {t u : Tree} → Clash t u → t ≡ u → ⊥
clash_self (lower_object p q) e = clash p (ap is_object e ∙ q)
clash_self (upper_object p q) e = clash q (sym (ap is_object e) ∙ p)
clash_self (below s p q i j c) e = clash_self c (same_value (sym i ∙ (ap (λ (t : Tree). value_of s (pairs t)) e ∙ j)))

-- THE THEOREMS
abbrev pub empty_object : Tree
empty_object = object_tree 0 0 []

pub empty_pairs : pairs empty_object ≡ []
unfolding pairs_of
empty_pairs = refl

module _ (k : ℕ) (t : Tree) (x : Sane (suc k) t) (o : is_object t ≡ true) where
  pub empty : Sane (suc k) empty_object
  empty = props_sane 0 0 props_none

  pub root : is_object (unspan t) ≡ true
  root = unspan_object t ∙ o
