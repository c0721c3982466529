-- HOW LONG A FORM OF TICKET 4 IS: three bytes for each row, and the text. Where one field holds it, no content is wide, and it is the form of today (`short_old`, `short_now`). Assumes nothing.
use Rattle.std.specs.Prelude.{◌≡◌, refl, List, [], ◌++◌, ℕ, ◌+◌, ◌*◌, ◌≤◌, ◌<◌, length}
use Rattle.std.proofs.Common.{ap, arith, length-append}
use Rattle.language.specs.Kind.{KEY, has_text, pick}
use Rattle.language.specs.Tree.{Decoded, Tree, leaf, node, Forest, none, more, size, sizes, text_of, texts_of}
use Rattle.language.specs.Alike.{unspan, unspans, Alike}
use Rattle.shaped.specs.Shaped.{Scalar, is_null, is_false, is_true, is_an_integer, is_float, is_string, is_bytes, Shaped, shaped_leaf, shaped_array, shaped_object, Elements, elements_none, elements_more, Pairs, pairs_none, pairs_more}
use Rattle.stored.specs.Form as now
use Rattle.stored.specs.Form.{head, widest}
use Rattle.stored.specs.Lengths as lengths
use Rattle.stored.specs.Old.{content, forms, form, placed, placeds, Wide, wide_here, wide_below, Wides, wide_first, wide_later}

-- a scalar's content is its text
pub scalar_text_lem : {k : ℕ} {s : List ℕ} → Scalar k s → pick (has_text k) s [] ≡ s
scalar_text_lem is_null = refl
scalar_text_lem is_false = refl
scalar_text_lem is_true = refl
scalar_text_lem (is_an_integer x) = refl
scalar_text_lem (is_float x) = refl
scalar_text_lem (is_string x) = refl
scalar_text_lem (is_bytes x) = refl

pub scalar_content : (k a e : ℕ) (s : Decoded) → Scalar k s.bytes → content (leaf k a e s) ≡ s.bytes
unfolding content
scalar_content k a e s x = scalar_text_lem x

-- ---- wide trees

-- the tree that an old form holds is like the one stored
mutual
  unfolding unspan placed

  pub placed_like : (a : ℕ) (t : Tree) → Alike (placed a t) t
  placed_like a (leaf k f e s) = refl
  placed_like a (node k f e c ts) = rw (placeds_like (a + head) ts)

  placeds_like : (a : ℕ) (ts : Forest) → unspans (placeds a ts) ≡ unspans ts
  placeds_like a none = refl
  placeds_like a (more t ts) = rw (placed_like a t, placeds_like (a + length (form t)) ts)
