-- THE STORED FORM TELLS THE TREE but for spans (`form_tells`): fields one behind another can be taken apart in one way only (`form_apart`). Assumes nothing.
use Rattle.std.specs.Prelude.{◌≡◌, refl, true, false, List, [], ◌∷◌, ◌++◌, ℕ, suc, length}
use Rattle.std.proofs.Common.{sym, ap, ◌∙◌, arith}
use Rattle.notation.specs.Class.{◌to◌, Class, is}
use Rattle.language.specs.Kind.{ARRAY, OBJECT, KEY}
use Rattle.language.specs.Tree.{Decoded, Tree, leaf, node, Forest, none, more}
use Rattle.language.specs.Alike.{unspan, unspans, Alike}
use Rattle.exact.specs.Class.{clash}
use Rattle.shaped.specs.Shaped.{Scalar, is_null, is_false, is_true, is_an_integer, is_float, is_string, is_bytes, Shaped, shaped_leaf, shaped_array, shaped_object, Elements, elements_none, elements_more, Pairs, pairs_none, pairs_more}
use Rattle.stored.specs.Form.{PART, tag, content, forms, form}
use Rattle.stored.specs.Parts.{Fields}
use Rattle.stored.specs.Lengths.{scalar_content}

-- ONE TREE, and what is behind it
pub record Both (t u : Tree) (r w : List ℕ) : Type 0 where
  pub alike : Alike t u
  pub rest : r ≡ w

-- the kinds of containers; a scalar has none of them
abbrev pub containers : Class
containers = (8 to 9) ∷ []

pub scalar_kind : {k : ℕ} {s : List ℕ} → Scalar k s → is containers k ≡ false
scalar_kind is_null = refl
scalar_kind is_false = refl
scalar_kind is_true = refl
scalar_kind (is_an_integer x) = refl
scalar_kind (is_float x) = refl
scalar_kind (is_string x) = refl
scalar_kind (is_bytes x) = refl

pub scalar_true : {k : ℕ} {s : List ℕ} → Scalar k s → k ≡ PART → ⊥
scalar_true is_null e = omega arith
scalar_true is_false e = omega arith
scalar_true is_true e = omega arith
scalar_true (is_an_integer x) e = omega arith
scalar_true (is_float x) e = omega arith
scalar_true (is_string x) e = omega arith
scalar_true (is_bytes x) e = omega arith

pub array_true : ARRAY ≡ PART → ⊥
array_true e = omega arith

pub object_true : OBJECT ≡ PART → ⊥
object_true e = omega arith

pub key_true : KEY ≡ PART → ⊥
key_true e = omega arith

pub no_container : {k j : ℕ} {s : List ℕ} → Scalar k s → k ≡ j → is containers j ≡ true → ⊥
no_container x e h = clash (ap (is containers) e ∙ h) (scalar_kind x)

pub two_kinds : ARRAY ≡ OBJECT → ⊥
two_kinds e = omega arith
