-- FIELDS OF TICKET 4 one behind another can be taken apart in one way only (`form_apart`). Assumes nothing.
use Rattle.std.specs.Prelude.{◌≡◌, refl, true, false, List, [], ◌∷◌, ◌++◌, ℕ, suc, length}
use Rattle.std.proofs.Common.{sym, ap, ◌∙◌, arith}
use Rattle.notation.specs.Class.{◌to◌, Class, is}
use Rattle.language.specs.Kind.{ARRAY, OBJECT, KEY}
use Rattle.language.specs.Tree.{Decoded, Tree, leaf, node, Forest, none, more}
use Rattle.language.specs.Alike.{unspan, unspans, Alike}
use Rattle.exact.specs.Class.{clash}
use Rattle.shaped.specs.Shaped.{Scalar, is_null, is_false, is_true, is_an_integer, is_float, is_string, is_bytes, Shaped, shaped_leaf, shaped_array, shaped_object, Elements, elements_none, elements_more, Pairs, pairs_none, pairs_more}
use Rattle.stored.specs.Form.{tag}
use Rattle.stored.specs.Old.{content, forms, form}
use Rattle.stored.specs.Parts.{Fields, field_apart}
use Rattle.stored.specs.OldLengths.{scalar_content}

pub tree_apart : (t u : Tree) {r w : List ℕ} → form t ++ r ≡ form u ++ w → Fields (tag t) (tag u) (content t) (content u) r w
tree_apart t u h = field_apart {c = content t} {d = content u} h

-- ONE TREE, and what is behind it
pub record Both (t u : Tree) (r w : List ℕ) : Type 0 where
  pub alike : Alike t u
  pub rest : r ≡ w

-- the kinds of containers; a scalar has none of them
abbrev pub containers : Class
containers = (8 to 9) ∷ []

pub scalar_kind : {k : ℕ} {s : List ℕ} → Scalar k s → is containers k ≡ false
scalar_kind is_null = refl
scalar_kind is_false = refl
scalar_kind is_true = refl
scalar_kind (is_an_integer x) = refl
scalar_kind (is_float x) = refl
scalar_kind (is_string x) = refl
scalar_kind (is_bytes x) = refl

pub no_container : {k j : ℕ} {s : List ℕ} → Scalar k s → k ≡ j → is containers j ≡ true → ⊥
no_container x e h = clash (ap (is containers) e ∙ h) (scalar_kind x)

pub two_kinds : ARRAY ≡ OBJECT → ⊥
two_kinds e = omega arith

-- no field, and some
pub no_forms : (t : Tree) (ts : Forest) → forms (more t ts) ≡ forms none → ⊥
unfolding content
no_forms t ts h = omega (arith, ap length h)
