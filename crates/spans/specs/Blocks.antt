-- BLOCKS in their bytes: values on lines, properties, objects, arrays, nested content and items, by the containers that may stand one inside another. Assumes nothing.
use Rattle.std.specs.Prelude.{◌≡◌, List, [], ◌∷◌, ℕ, zero, suc, ◌+◌, ◌≤◌, ◌<◌, true}
use Rattle.std.proofs.Common.{arith}
use Rattle.notation.specs.Lang.{Lang, Indented}
use Rattle.language.specs.Tree.{Tree, Field, field, Entry, entry, entries, block_array, block_object}
use Rattle.language.specs.Blocks.{Lines, ValueLine, Property, Object, Dashed, Array, Open, Nested, Item}
use Rattle.spans.specs.Every.{Every, InFront, Extends, ret_every, here_then, byte_then, bind_every, via, map_every, alt_every, star_every, word_then, indented_every}
use Rattle.spans.specs.Formed.{Formed, IsKey}
use Rattle.spans.specs.Lies.{LiesIn, Lies, ElementsLie, PairsLie, elements_none, pairs_none}
use Rattle.spans.specs.Texts.{option_goes, line_comment_goes}

-- what was read of lines has a byte to spare: an LF, a dash or a colon
abbrev pub OnLines : Lang Tree → Type 0
OnLines A = (at : ℕ) → Every A at (LiesIn Formed 1 1 at)

-- .. and, where it is no object from its first key on, one free byte more
abbrev pub Roomy : Lang Tree → Type 0
Roomy A = (at : ℕ) → Every A at (Lies Formed 1 at)

pub lines_every : {X : Type 0} {A : Lang X} (n : ℕ) (I : ℕ → List X → ℕ → Type 0) → ((at : ℕ) → I at [] at) → Extends I A → {at : ℕ} {R : List X → ℕ → Type 0}
    → Every A at (InFront I R) → Every (Lines n A) at R
lines_every n I none more first =
    bind_every first (λ v m f. bind_every (star_every I none (λ a. indented_every n (λ b h. more a b h)) m) (λ vs e h. ret_every (f vs e h)))

-- a dash, a space, an item
module _ {I : Lang Tree} (g : OnLines I) where
  abbrev pub EntriesLie : ℕ → List Entry → ℕ → Type 0
  EntriesLie at es at' = ElementsLie at (entries es) at'
