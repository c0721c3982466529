-- FORESTS ONE BEHIND ANOTHER (`beside`), as a walk over the children of a container finds them: their rows follow one another too. Assumes nothing.
use Rattle.std.specs.Prelude.{◌≡◌, refl, List, ◌++◌, ℕ, ◌+◌, length}
use Rattle.std.proofs.Common.{sym, ap, subst₂, ◌∙◌, append_assoc}
use native.Mathlib.Omega.{arith}
use Rattle.std.proofs.Math.ListN.{length-append}
use Rattle.language.specs.Tree.{Tree, Forest, none, more, size, sizes, text_of, texts_of}
use Rattle.shaped.specs.RowsAt.{ForestAt, none_at, more_at, first_at, rest_at}

unfoldable pub beside : Forest → Forest → Forest
beside none us = us
beside (more t ts) us = more t (beside ts us)

pub beside_size : (ts us : Forest) → sizes (beside ts us) ≡ sizes ts + sizes us
unfolding beside sizes
beside_size none us = omega arith
beside_size (more t ts) us = omega (arith, beside_size ts us)

pub beside_text : (ts us : Forest) → texts_of (beside ts us) ≡ texts_of ts ++ texts_of us
unfolding beside texts_of
beside_text none us = refl
beside_text (more t ts) us = ap (λ (l : List ℕ). text_of t ++ l) (beside_text ts us) ∙ sym (append_assoc (text_of t) (texts_of ts) (texts_of us))

module _ (table text : List ℕ) where
  moved : {q q' p y y' : ℕ} {us : Forest} → q ≡ q' → y ≡ y' → ForestAt table text q p y us → ForestAt table text q' p y' us
  moved {p = p} {us = us} h k f = subst₂ (λ (i j : ℕ). ForestAt table text i p j us) h k f

  -- rows and text behind one tree and others
  module _ (r x : ℕ) (t : Tree) (ts : Forest) where
    row_behind : r + sizes (more t ts) ≡ r + size t + sizes ts
    unfolding sizes
    row_behind = omega arith

    text_behind : x + length (texts_of (more t ts)) ≡ x + length (text_of t) + length (texts_of ts)
    unfolding texts_of
    text_behind = omega (arith, length-append (text_of t) (texts_of ts))

  pub beside_at : {r p x : ℕ} (ts us : Forest) → ForestAt table text r p x ts → ForestAt table text (r + sizes ts) p (x + length (texts_of ts)) us
      → ForestAt table text r p x (beside ts us)
  unfolding beside sizes texts_of
  beside_at none us f g = moved (omega arith) (omega arith) g
  beside_at {r = r} {p = p} {x = x} (more t ts) us f g =
      more_at table text (first_at table text f) (beside_at {r = r + size t} ts us (rest_at table text f) (moved (row_behind r x t ts) (text_behind r x t ts) g))

  pub beside_left : {r p x : ℕ} (ts us : Forest) → ForestAt table text r p x (beside ts us) → ForestAt table text r p x ts
  unfolding beside
  beside_left {r} {p} {x} none us f = none_at table text (let h = f.text_is.fits in omega arith)
  beside_left {r = r} (more t ts) us f = more_at table text (first_at table text f) (beside_left {r = r + size t} ts us (rest_at table text f))

  pub beside_right : {r p x : ℕ} (ts us : Forest) → ForestAt table text r p x (beside ts us) → ForestAt table text (r + sizes ts) p (x + length (texts_of ts)) us
  unfolding beside sizes texts_of
  beside_right none us f = moved (omega arith) (omega arith) f
  beside_right {r = r} {p = p} {x = x} (more t ts) us f =
      moved (sym (row_behind r x t ts)) (sym (text_behind r x t ts)) (beside_right {r = r + size t} ts us (rest_at table text f))
