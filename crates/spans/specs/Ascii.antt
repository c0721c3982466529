-- TREES THAT BEGIN with ASCII bytes of a document, and all that stands in them too. Assumes nothing.
use Rattle.std.specs.Prelude.{List, [], ◌∷◌, ℕ, ◌<◌, get_or}
use Rattle.language.specs.Tree.{Decoded, Tree, leaf, node, forest, first, Field, field, fields, Entry, entry, entries, array_tree, object_tree, block_array, block_object}
use Rattle.spans.specs.Placed.{Among, Child, Within, among_first, among_later, child, itself, below}
use Rattle.spans.specs.Kinds.{has_child}

-- P of each
abbrev pub Each : {X : Type 0} → (X → Type 0) → List X → Type 0
Each P [] = Unit {0}
Each P (x ∷ xs) = P x × Each P xs

module _ (doc : List ℕ) where
  -- the document has a byte at this place, below 128
  abbrev pub Ascii : ℕ → Type 0
  Ascii at = get_or doc at 128 < 128

  -- the tree begins with such a byte, and so does each one below it
  abbrev pub Begin : Tree → Type 0
  Begin t = (u : Tree) → Within u t → Ascii (first u)

  abbrev pub FieldBegins : Field → Type 0
  FieldBegins (field k v) = Begin k × Begin v

  abbrev pub EntryBegins : Entry → Type 0
  EntryBegins (entry d v) = Ascii d × Begin v

  by_children : {t : Tree} → Ascii (first t) → ((u : Tree) → Child u t → Begin u) → Begin t
  by_children h f u itself = h
  by_children h f u (below {t = w} c i) = f w c u i

  pub leaf_begins : {k a e : ℕ} {s : Decoded} → Ascii a → Begin (leaf k a e s)
  leaf_begins h = by_children h (λ u c. absurd (has_child c))

  among_begin : (ts : List Tree) → Each Begin ts → (u : Tree) → Among u (forest ts) → Begin u
  among_begin [] g u x'' = elim x'' [ ]
  among_begin (t ∷ ts) g u among_first = g.0
  among_begin (t ∷ ts) g u (among_later m) = among_begin ts g.1 u m

  node_begins : {k a e c : ℕ} (ts : List Tree) → Ascii a → Each Begin ts → Begin (node k a e c (forest ts))
  node_begins {k} {a} {e} {c} ts h g = by_children h on
    where
      on : (u : Tree) → Child u (node k a e c (forest ts)) → Begin u
      on u (child m) = among_begin ts g u m

  fields_begin : (fs : List Field) → Each FieldBegins fs → Each Begin (fields fs)
  fields_begin [] g = tt
  fields_begin (field k v ∷ fs) g = (g.0.0, (g.0.1, fields_begin fs g.1))

  entries_begin : (es : List Entry) → Each EntryBegins es → Each Begin (entries es)
  entries_begin [] g = tt
  entries_begin (entry d v ∷ es) g = (g.0.1, entries_begin es g.1)

  pub array_begins : {a e : ℕ} (ts : List Tree) → Ascii a → Each Begin ts → Begin (array_tree a e ts)
  array_begins ts h g = node_begins ts h g

  pub object_begins : {a e : ℕ} (fs : List Field) → Ascii a → Each FieldBegins fs → Begin (object_tree a e fs)
  object_begins fs h g = node_begins (fields fs) h (fields_begin fs g)

  -- a block array begins with its first dash, a block object with its first key
  pub block_array_begins : (i : Entry) (is : List Entry) → EntryBegins i → Each EntryBegins is → Begin (block_array (i ∷ is))
  block_array_begins (entry d v) is h g = array_begins (v ∷ entries is) h.0 (h.1, entries_begin is g)

  pub block_object_begins : (f : Field) (fs : List Field) → FieldBegins f → Each FieldBegins fs → Begin (block_object (f ∷ fs))
  block_object_begins (field k v) fs h g = object_begins (field k v ∷ fs) (h.0 k itself) (h, g)
