-- THE BYTES OF A SPAN ARE THE ROW'S FIELD (`span_field`): of a tree that stored bytes hold, each span runs "from a field's first tag to the end of its last byte", and between them stand the field's bytes, one
-- behind another but for the heads of cuts that fall inside. Assumes nothing.
use Rattle.std.specs.Prelude.{◌≡◌, List, ◌++◌, ℕ, ◌+◌, ◌-◌, ◌*◌, ◌/◌, ◌<◌, length, get_or}
use Rattle.std.proofs.Math.Path.{refl}
use Rattle.std.proofs.Common.{sym, ap, subst, ◌∙◌, length-append, get_or-append-add}
use native.Mathlib.Omega.{arith}
use Rattle.std.proofs.Math.ListN.{get_or-append}
use Rattle.language.specs.Tree.{Tree, leaf, node, Forest, none, more, first, after}
use Rattle.spans.specs.Placed.{Among, among_first, among_later, Child, child, Within, itself, below}
use Rattle.stored.specs.Form.{head, widest, cut, content, forms, form, inside, placed, placeds, loaded}
use Rattle.stored.specs.Parts.{inside_rises}
use Rattle.stored.specs.Unspanned.{placed_like, form_alike}

-- from one place to a later one: as far as the bytes are apart, and so many heads
pub record Apart (at : ℕ → ℕ) (i j : ℕ) : Type 0 where
  pub heads : ℕ
  pub far : at j ≡ at i + (j - i) + head * heads

module _ (stored : List ℕ) where
  -- THE PLACES of bytes inside the stored ones, byte i at the place `at i`: the file itself; the content of a field, behind its heads; some of them, and those behind some
  pub data Around : (ℕ → ℕ) → List ℕ → Type 0 where
    around_file : Around (λ i. i) stored
    around_inside : {at : ℕ → ℕ} (k : ℕ) (c : List ℕ) → Around at (cut k c) → Around (λ i. at (inside i)) c
    around_left : {at : ℕ → ℕ} (s u : List ℕ) → Around at (s ++ u) → Around at s
    around_right : {at : ℕ → ℕ} (s u : List ℕ) → Around at (s ++ u) → Around (λ i. at (length s + i)) u

  -- so each stands in the stored bytes, and whole heads at most between two of them
  pub record Stands (at : ℕ → ℕ) (s : List ℕ) : Type 0 where
    pub in_them : (i : ℕ) → i < length s → at i < length stored
    pub byte : (i : ℕ) → i < length s → get_or stored (at i) 0 ≡ get_or s i 0
    pub apart : (i j : ℕ) → i < j → j < length s → Apart at i j

  -- a content in its parts
  pub inside_apart : {at : ℕ → ℕ} (i j : ℕ) → i < j → Apart at (inside i) (inside j) → Apart (λ n. at (inside n)) i j
  unfolding widest
  inside_apart i j l g = record { heads = g.heads + (j / widest - i / widest); far = g.far ∙ omega arith }

  -- the field of a tree, and the tree as it is placed there
  pub record FieldAt (u : Tree) : Type 0 where
    pub tree : Tree
    pub at : ℕ → ℕ
    pub around : Around at (form tree)
    pub is : u ≡ placed at tree

  -- THE SPAN OF A TREE: from the place of its field's first byte to behind that of its last
  pub record SpanIs (u : Tree) : Type 0 where
    pub at : ℕ → ℕ
    pub around : Around at (form u)
    pub stands : Stands at (form u)
    pub begins : first u ≡ at 0
    pub ends : after u ≡ at (length (form u) - 1) + 1

  pub placed_first : (at : ℕ → ℕ) (t : Tree) → first (placed at t) ≡ at 0
  unfolding placed
  placed_first at (leaf k f e s) = refl
  placed_first at (node k f e c ts) = refl

  pub placed_after : (at : ℕ → ℕ) (t : Tree) → after (placed at t) ≡ at (length (form t) - 1) + 1
  unfolding placed
  placed_after at (leaf k f e s) = refl
  placed_after at (node k f e c ts) = refl
