-- EVERY TREE OF A DOCUMENT begins with an ASCII byte, at any depth, keys too: so its span begins with a whole character. Assumes nothing.
use Rattle.std.specs.Prelude.{List, [], ◌∷◌, Bool, true, false, refl, ℕ, zero, suc, ◌<◌, get_or}
use Rattle.notation.specs.Class.{only}
use Rattle.notation.specs.Lang.{Lang, End, end}
use Rattle.language.specs.Tree.{Tree, first}
use Rattle.language.specs.Inline.{Listed, InlineArray, InlinePair, InlineObject, Value}
use Rattle.language.specs.Blocks.{ValueLine, Property, Object, Dashed, Array, Nested, Item}
use Rattle.language.specs.Document.{RootLine, Root, Whole, Document}
use Rattle.spans.specs.Onward.{onward_none}
use Rattle.spans.specs.Every.{Every}
use Rattle.spans.specs.Placed.{Within}
use Rattle.spans.specs.Formed.{Formed}
use Rattle.spans.specs.Lies.{Lies}
use Rattle.spans.specs.Texts.{option_goes, line_comment_goes}
use Rattle.spans.specs.Blocks.{OnLines, Roomy}
use Rattle.spans.specs.Document.{comments_go}
use Rattle.spans.specs.Words.{Moves, alt_words, ret_values, skip, moves_by, extends_moves, seq_moves, byte_moves, word_moves}
use Rattle.spans.specs.Starts.{byte_starts, seq_starts, word_starts}
use Rattle.spans.specs.Ascii.{Each, Begin, FieldBegins, EntryBegins, array_begins, object_begins, block_array_begins, block_object_begins}
use Rattle.spans.specs.Gives.{Gives, always, behind, bind, last, here_gives, star_gives, indented_gives, lines_gives}
use Rattle.spans.specs.Leaves.{key_begins, scalar_begins, open_string_begins, property_string_begins, property_bytes_begins, open_begins, joined_begins}

module _ (doc : List ℕ) where
  -- each tree that an A gives begins with an ASCII byte, and so does all that stands in it
  abbrev pub Trees : Lang Tree → Type 0
  Trees A = Gives doc A (Begin doc)

  -- ---- inline

  pub listed_begins : {X : Type 0} {A : Lang X} {P : X → Type 0} (close : ℕ) → Moves A → Gives doc A P → Gives doc (Listed close A) (Each P)
  listed_begins close m g =
      alt_words
      (always doc (skip (λ b. ret_values tt)))
      (bind
      doc
      m
      g
      (λ v h. last
      doc
      (star_gives doc (seq_moves (word_moves (44 ∷ 32 ∷ [])) (λ w. m)) (behind doc (word_moves (44 ∷ 32 ∷ [])) (λ w. g)))
      (λ vs hs. skip (λ b. ret_values (h, hs)))))

  module _ {A : Lang Tree} (l : (at : ℕ) → Every A at (Lies Formed 0 at)) (g : Trees A) where
    pub inline_array_begins : Trees (InlineArray A)
    inline_array_begins =
        here_gives
        doc
        (λ a. seq_starts (byte_starts (only 91) refl))
        (λ a h. behind
        doc
        byte_moves
        (λ b. last doc (listed_begins 93 (moves_by l) g) (λ vs hs. skip (λ e. ret_values (array_begins doc vs h hs)))))

  -- ---- blocks

  module _ {I : Lang Tree} (l : OnLines I) (g : Trees I) where
    pub dashed_begins : Gives doc (Dashed I) (EntryBegins doc)
    dashed_begins =
        here_gives
        doc
        (λ a. seq_starts (word_starts (45 ∷ 32 ∷ []) refl))
        (λ a h. behind doc (word_moves (45 ∷ 32 ∷ [])) (λ w. last doc g (λ v hv. ret_values (h, hv))))
    -- ---- documents
