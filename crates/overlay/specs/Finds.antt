-- FINDING A KEY IN THE RESULT (`overlay_finds`): the upper's value, or the lower's where the upper has none, or the two laid over each other. Assumes nothing.
use Rattle.std.specs.Prelude.{◌≡◌, Bool, ℕ, zero, suc}
use Rattle.std.proofs.Math.Path.{refl, subst₂}
use Rattle.std.proofs.Common.{sym, ap, ap₂, subst, ◌∙◌}
use mathlib.Core.List.{List}
use Rattle.std.proofs.Math.Bool.{true, false}
use Rattle.notation.specs.Class.{pick}
use Rattle.language.specs.Kind.{OBJECT, KEY}
use Rattle.language.specs.Tree.{Tree, leaf, node, Forest, more, Field, fields, forest, text_of}
use Rattle.language.specs.Alike.{unspan}
use Rattle.language.specs.Answered.{deepest}
use Rattle.exact.specs.Class.{clash}
use Rattle.exact.specs.Tells.{Tells, tells_no}
use Rattle.shaped.specs.Shaped.{Shaped, shaped_leaf, shaped_array, shaped_object, Elements, elements_none, elements_more, Pairs, pairs_none, pairs_more}
use Rattle.sound.specs.Members.{Sane}
use Rattle.overlay.specs.Overlay.{is_object, pairs, same, Value, value, absent, value_of, laid, overlay}
use Rattle.overlay.specs.Over.{clashes, over}
use Rattle.overlay.specs.Lists.{same_tells, no_value, value_here, value_later, merged}
use Rattle.overlay.specs.Objects.{Props, props_none, props_more, same_value, props_value, pairs_forest}
use Rattle.overlay.specs.Unspanned.{bare_value, plain_value, unspan_object, sane_unspan}
use Rattle.overlay.specs.Profiles.{ProfileTree, tree_sane, sane_tree}
use Rattle.overlay.specs.Clash.{Clash, lower_object, upper_object, below}

-- an object's children: one of its pairs has the key s, with the value v
pub data Property (s : List ℕ) (v : Tree) : Forest → Type 0 where
  here : {a e n : ℕ} {ts : Forest} → Property s v (more (leaf KEY a e (record { bytes = s; escapes = n })) (more v ts))
  later : {k w : Tree} {ts : Forest} → Property s v ts → Property s v (more k (more w ts))

pub data Finds (s : List ℕ) (v : Tree) : Tree → Type 0 where
  finds : {a e c : ℕ} {ts : Forest} → Property s v ts → Finds s v (node OBJECT a e c ts)

pub finds_object : {s : List ℕ} {v t : Tree} → Finds s v t → is_object t ≡ true
finds_object (finds p) = refl

abbrev pub Lacks : List ℕ → Tree → Type 0
Lacks s t = (v : Tree) → Finds s v t → ⊥

-- IN AN OBJECT as documents without repeated keys have it, that is the value of the key
module _ {k : ℕ} (s : List ℕ) where
  pub to_value : {fs : List Field} {v : Tree} → Props k fs → Property s v (forest (fields fs)) → value_of s fs ≡ value v
  unfolding text_of
  to_value props_none h = elim h [ ]
  to_value (props_more {a = a} {e = e} {d = d} {v = v} {fs = fs} x y n ps) here = value_here d.bytes (leaf KEY a e d) v fs refl
  to_value (props_more {a = a} {e = e} {d = d} {v = v} {fs = fs} x y n ps) (later h) = value_later s (leaf KEY a e d) v fs n (to_value ps h)

  pub of_value : {fs : List Field} {v : Tree} → Props k fs → value_of s fs ≡ value v → Property s v (forest (fields fs))
  unfolding value_of text_of
  of_value props_none h = absurd (no_value h refl)
  of_value {v = v} (props_more {a = a} {e = e} {d = d} {v = w} {fs = fs} x y n ps) h = by (same s d.bytes) (same_tells s d.bytes) h (λ g. of_value ps g)
    where
      by : (c : Bool) → Tells (s ≡ d.bytes) c → pick c (value w) (value_of s fs) ≡ value v → (value_of s fs ≡ value v → Property s v (forest (fields fs)))
          → Property s v (more (leaf KEY a e d) (more w (forest (fields fs))))
      by true p g f = subst₂ (λ (l : List ℕ) (z : Tree). Property l z (more (leaf KEY a e d) (more w (forest (fields fs))))) (sym p) (same_value g) here
      by false p g f = later (f g)

-- THE RESULT r of two trees t and u, for the key s, spans aside
pub data KeyOver (t u r : Tree) (s : List ℕ) : Type 0 where
  lower_only : (v : Tree) → Finds s v t → Lacks s u → Finds s (unspan v) r → KeyOver t u r s
  upper_only : (w : Tree) → Lacks s t → Finds s w u → Finds s (unspan w) r → KeyOver t u r s
  both_others : (v w : Tree) → Finds s v t → Finds s w u → is_object v ≡ false → is_object w ≡ false → Finds s (unspan w) r → KeyOver t u r s
  both_objects : (v w x : Tree) → Finds s v t → Finds s w u → is_object v ≡ true → is_object w ≡ true → overlay v w ≡ laid x → Finds s x r → KeyOver t u r s
  neither : Lacks s t → Lacks s u → Lacks s r → KeyOver t u r s

-- the value of a key is a tree as documents without repeated keys have it
mutual
  pub wider : {k : ℕ} {t : Tree} → Shaped k t → Shaped (suc k) t
  wider (shaped_leaf x) = shaped_leaf x
  wider (shaped_array x) = shaped_array (wider_elements x)
  wider (shaped_object x) = shaped_object (wider_pairs x)

  wider_elements : {k n : ℕ} {ts : Forest} → Elements k n ts → Elements (suc k) n ts
  wider_elements elements_none = elements_none
  wider_elements (elements_more x y) = elements_more (wider x) (wider_elements y)

  wider_pairs : {k n : ℕ} {ts : Forest} → Pairs k n ts → Pairs (suc k) n ts
  wider_pairs pairs_none = pairs_none
  wider_pairs (pairs_more x y z) = pairs_more x (wider y) (wider_pairs z)
