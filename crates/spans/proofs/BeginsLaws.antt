-- EVERY TREE OF A DOCUMENT begins with an ASCII byte, at any depth, keys too: so its span begins with a whole character. Assumes nothing.
use Rattle.std.specs.Prelude.{List, [], ◌∷◌, Bool, true, false, refl, ℕ, zero, suc, ◌<◌, get_or}
use Rattle.notation.specs.Class.{only}
use Rattle.notation.specs.Lang.{Lang, End, end}
use Rattle.language.specs.Tree.{Tree, first}
use Rattle.language.specs.Inline.{Listed, InlineArray, InlinePair, InlineObject, Value}
use Rattle.language.specs.Blocks.{ValueLine, Property, Object, Dashed, Array, Nested, Item}
use Rattle.language.specs.Document.{RootLine, Root, Whole, Document}
use Rattle.spans.specs.Onward.{onward_none}
use Rattle.spans.specs.Every.{Every}
use Rattle.spans.specs.Placed.{Within}
use Rattle.spans.specs.Formed.{Formed}
use Rattle.spans.specs.Lies.{Lies}
use Rattle.spans.specs.Texts.{option_goes, line_comment_goes}
use Rattle.spans.proofs.StringsLaws.{key_lies}
use Rattle.spans.proofs.InlineLaws.{pairs_extend, value_lies}
use Rattle.spans.specs.Blocks.{OnLines, Roomy}
use Rattle.spans.proofs.BlocksLaws.{properties_extend, entries_extend, nested_lies, item_lies}
use Rattle.spans.specs.Document.{comments_go}
use Rattle.spans.specs.Words.{Moves, alt_words, ret_values, skip, moves_by, extends_moves, seq_moves, byte_moves, word_moves}
use Rattle.spans.specs.Starts.{byte_starts, seq_starts, word_starts}
use Rattle.spans.specs.Ascii.{Each, Begin, FieldBegins, EntryBegins, array_begins, object_begins, block_array_begins, block_object_begins}
use Rattle.spans.specs.Gives.{Gives, always, behind, bind, last, here_gives, star_gives, indented_gives, lines_gives}
use Rattle.spans.specs.Leaves.{key_begins, scalar_begins, open_string_begins, property_string_begins, property_bytes_begins, open_begins, joined_begins}
use Rattle.spans.specs.Begins.{Trees, dashed_begins, inline_array_begins, listed_begins}

module _ (doc : List ℕ) where
  module _ {A : Lang Tree} (l : (at : ℕ) → Every A at (Lies Formed 0 at)) (g : (Trees doc) A) where
    inline_pair_begins : Gives doc (InlinePair A) (FieldBegins doc)
    inline_pair_begins =
        bind
        doc
        (moves_by key_lies)
        (key_begins doc)
        (λ k hk. behind doc (word_moves (58 ∷ 32 ∷ [])) (λ w. last doc g (λ v hv. ret_values (hk, hv))))

    inline_object_begins : (Trees doc) (InlineObject A)
    inline_object_begins =
        here_gives
        doc
        (λ a. seq_starts (byte_starts (only 123) refl))
        (λ a h. behind
        doc
        byte_moves
        (λ b. last doc ((listed_begins doc) 125 (extends_moves (pairs_extend l)) inline_pair_begins) (λ fs hs. skip (λ e. ret_values (object_begins doc fs h hs)))))

  value_begins : (spaced : Bool) (k : ℕ) → (Trees doc) (Value spaced k)
  value_begins spaced zero = scalar_begins doc spaced
  value_begins spaced (suc k) =
      alt_words
      (scalar_begins doc spaced)
      (alt_words ((inline_array_begins doc) (value_lies false k) (value_begins false k)) (inline_object_begins (value_lies false k) (value_begins false k)))

  value_line_begins : (k : ℕ) → (Trees doc) (ValueLine k)
  value_line_begins k = last doc (value_begins true k) (λ v h. skip (λ c. skip (λ f. ret_values h)))

  module _ (k n : ℕ) {N : Lang Tree} (l : Roomy N) (g : (Trees doc) N) where
    property_begins : Gives doc (Property k n N) (FieldBegins doc)
    property_begins =
        bind
        doc
        (moves_by key_lies)
        (key_begins doc)
        (λ ky hk. behind
        doc
        byte_moves
        (λ b. last
        doc
        (alt_words
        (behind doc byte_moves (λ c. alt_words (value_line_begins k) (alt_words (property_string_begins doc n) (property_bytes_begins doc n))))
        (behind doc (moves_by (λ at. option_goes at (line_comment_goes at))) (λ c. behind doc byte_moves (λ f. g))))
        (λ v hv. ret_values (hk, hv))))

    object_block_begins : (Trees doc) (Object k n N)
    object_block_begins = last doc (lines_gives doc n (extends_moves (properties_extend k n l)) property_begins (block_object_begins doc)) (λ fs h. ret_values h)

  module _ {I : Lang Tree} (l : OnLines I) (g : (Trees doc) I) where
    array_block_begins : (n : ℕ) → (Trees doc) (Array n I)
    array_block_begins n = last doc (lines_gives doc n (extends_moves (entries_extend l)) (dashed_begins doc l g) (block_array_begins doc)) (λ es h. ret_values h)

  mutual
    nested_begins : (k m : ℕ) → (Trees doc) (Nested k (suc m))
    nested_begins zero m = indented_gives doc (suc m) (alt_words (open_string_begins doc (suc m)) (joined_begins doc (suc m)))
    nested_begins (suc k) m =
        indented_gives
        doc
        (suc m)
        (alt_words
        (alt_words
        (array_block_begins (item_lies k (suc (suc (suc m)))) (item_begins k (suc (suc (suc m)))) (suc m))
        (object_block_begins k (suc m) (nested_lies k (suc (suc m))) (nested_begins k (suc (suc m)))))
        (alt_words (open_string_begins doc (suc m)) (joined_begins doc (suc m))))

    item_begins : (k c : ℕ) → (Trees doc) (Item k c)
    item_begins zero c = alt_words (value_line_begins zero) (open_begins doc c)
    item_begins (suc k) c =
        alt_words
        (alt_words (value_line_begins (suc k)) (open_begins doc c))
        (alt_words
        (last doc ((dashed_begins doc) (item_lies k (suc (suc c))) (item_begins k (suc (suc c)))) (λ i h. ret_values (block_array_begins doc i [] h tt)))
        (object_block_begins k c (nested_lies k (suc c)) (nested_begins k (suc c))))

  root_line_begins : (k : ℕ) → (Trees doc) (RootLine k)
  root_line_begins k = last doc (value_begins true k) (λ v h. skip (λ f. ret_values h))

  root_begins : (k : ℕ) → (Trees doc) (Root k)
  root_begins zero = alt_words (root_line_begins zero) (open_begins doc 0)
  root_begins (suc k) =
      alt_words
      (alt_words (root_line_begins (suc k)) (open_begins doc 0))
      (alt_words (array_block_begins (item_lies k 2) (item_begins k 2) 0) (object_block_begins k 0 (nested_lies k 1) (nested_begins k 1)))

  whole_begins : (k : ℕ) → (Trees doc) (Whole k)
  whole_begins k = behind doc (moves_by comments_go) (λ cs. last doc (root_begins k) (λ v h. skip (λ fs. ret_values h)))

-- the byte at the first place of any tree in the document's is there, and below 128
pub begins_ascii : (k : ℕ) (doc : List ℕ) (t : Tree) → Document k doc t → (u : Tree) → Within u t → get_or doc (first u) 128 < 128
unfolding Document
begins_ascii k doc t d = by d.others ((whole_begins doc k).has d.first (onward_none 0 doc))
  where
    by : {v : Tree} {m : ℕ} {s : List ℕ} → End v m s t → Begin doc v → Begin doc t
    by end h = h
