-- TREES IN THEIR BYTES: a tree that was read from the byte `at` up to the byte at' has its span, its rows, its text with its escapes, and its keys there. Assumes nothing.
use Rattle.std.specs.Prelude.{List, [], ◌∷◌, ◌++◌, ℕ, suc, ◌+◌, ◌*◌, ◌≤◌, ◌<◌, length}
use Rattle.std.proofs.Common.{arith, length-append}
use Rattle.language.specs.Tree.{Decoded, Tree, leaf, node, Forest, forest, count, first, after, Field, field, fields, Entry, entry, entries, end_of, array_tree, object_tree, block_array, block_object, size, sizes, text_of, texts_of, escapes_of, escapes_in}
use Rattle.spans.specs.Placed.{Placed, Along, placed_leaf, placed_node, along_none, along_more, along_wide, along_end, along_le, end_le, span_some}
use Rattle.spans.specs.Formed.{Formed, Elements, Pairs, IsKey, no_element, element, no_pair, pair, formed_array, formed_object}
use Rattle.spans.specs.Keys.{keys_in, keys_among, value_none, key_one}

-- its rows, and its text and its escapes together, are each fewer than the bytes, or as many, with so many bytes to spare; and each of its keys takes four bytes, beside `free` ones.
-- F: what it is by its kinds
pub record LiesIn (F : Tree → Type 0) (spare free at : ℕ) (t : Tree) (at' : ℕ) : Type 0 where
  pub begins : at ≤ first t
  pub ends : after t ≤ at'
  pub placed : Placed t
  pub rows : spare + at + size t ≤ at'
  pub text : spare + at + (length (text_of t) + escapes_of t) ≤ at'
  pub keys : free + at + 4 * keys_in t ≤ at'
  pub formed : F t

-- all but a block object take a byte more than they spare
abbrev pub Lies : (Tree → Type 0) → ℕ → ℕ → Tree → ℕ → Type 0
Lies F n = LiesIn F n (suc n)

-- trees one after another
pub record Lie (at : ℕ) (ts : List Tree) (at' : ℕ) : Type 0 where
  pub along : Along at (forest ts) at'
  pub rows : at + sizes (forest ts) ≤ at'
  pub text : at + (length (texts_of (forest ts)) + escapes_in (forest ts)) ≤ at'
  pub keys : at + 4 * keys_among (forest ts) ≤ at'

-- the elements of an array; the pairs of an object
pub record ElementsLie (at : ℕ) (ts : List Tree) (at' : ℕ) : Type 0 where
  pub lie : Lie at ts at'
  pub all : Elements (count ts) (forest ts)

pub record PairsLie (at : ℕ) (fs : List Field) (at' : ℕ) : Type 0 where
  pub lie : Lie at (fields fs) at'
  pub all : Pairs (count fs) (forest (fields fs))

pub lie_none : (at : ℕ) → Lie at [] at
unfolding sizes texts_of escapes_in keys_among
lie_none at = record { along = along_none {a = at} {e = at} (omega arith); rows = omega arith; text = omega arith; keys = omega arith }

pub elements_none : (at : ℕ) → ElementsLie at [] at
elements_none at = record { lie = lie_none at; all = no_element }

pub pairs_none : (at : ℕ) → PairsLie at [] at
pairs_none at = record { lie = lie_none at; all = no_pair }
