-- THE KEYS OF A TREE in document order, each with the row of its object. Assumes nothing.
use Rattle.std.specs.Prelude.{◌≡◌, refl, List, [], ◌∷◌, ◌++◌, ℕ, ◌+◌, eqb}
use Rattle.std.proofs.Common.{sym, ap, ◌∙◌, append_assoc, append-nil, add-zero, arith}
use Rattle.notation.specs.Class.{pick}
use Rattle.language.specs.Kind.{KEY}
use Rattle.language.specs.Tree.{Tree, leaf, node, Forest, none, more, forest, size, sizes}

-- a key: the row of its object, its first byte, its text
pub data Named : Type 0 where
  named : ℕ → ℕ → List ℕ → Named

-- "A key's row stands just before its value's row, with the object as parent of both" (01, What the reader takes and gives)
unfoldable mutual
  pub flat : ℕ → ℕ → Tree → List Named
  flat r p (leaf k a e s) = pick (eqb k KEY) (named p a s.bytes ∷ []) []
  flat r p (node k a e c ts) = flats (r + 1) r ts

  pub flats : ℕ → ℕ → Forest → List Named
  flats r p none = []
  flats r p (more t ts) = flat r p t ++ flats (r + size t) p ts

-- trees one behind another
pub flats_append : (r p : ℕ) (ts us : List Tree) → flats r p (forest (ts ++ us)) ≡ flats r p (forest ts) ++ flats (r + sizes (forest ts)) p (forest us)
unfolding flat sizes
flats_append r p [] us = rw (add-zero r) refl
flats_append r p (t ∷ ts) us =
    let a : r + size t + sizes (forest ts) ≡ r + (size t + sizes (forest ts)) = omega arith in
    rw (flats_append (r + size t) p ts us, a) (sym (append_assoc (flat r p t) (flats (r + size t) p (forest ts)) (flats (r + (size t + sizes (forest ts))) p (forest us))))

pub flats_one : (r p : ℕ) (t : Tree) → flats r p (forest (t ∷ [])) ≡ flat r p t
unfolding flat
flats_one r p t = append-nil (flat r p t)

-- what is below a node
pub flat_node : (r p k a e c : ℕ) (ts : Forest) → flat r p (node k a e c ts) ≡ flats (r + 1) r ts
unfolding flat
flat_node r p k a e c ts = refl
