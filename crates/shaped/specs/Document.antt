-- THE TREE OF A DOCUMENT is shaped, with as many containers one inside another as the document was allowed. Assumes nothing.
use Rattle.std.specs.Prelude.{List, [], ◌∷◌, Bool, false, true, ℕ, zero, suc}
use Rattle.notation.specs.Lang.{Lang, End, end}
use Rattle.language.specs.Tree.{Tree}
use Rattle.language.specs.Scalars.{null_word, true_word, false_word, nan_word, infinity_word, Keyword, Keywords}
use Rattle.language.specs.Inline
use Rattle.language.specs.Inline.{InlineArray, InlinePair, InlineObject, Value}
use Rattle.language.specs.Blocks.{ValueLine, Property, Object, Dashed, Array, Nested, Item}
use Rattle.language.specs.Document.{RootLine, Root, Whole, Document}
use Rattle.spans.specs.Words.{Values, alt_words, ret_values, skip}
use Rattle.shaped.specs.Shaped.{Scalar, is_null, is_false, is_true, is_float, no_number, infinite, less_infinite, Shaped, shaped_leaf}
use Rattle.shaped.specs.Given.{bind_values, map_values, indented_values, listed_values, lines_values}
use Rattle.shaped.specs.Numbers.{integer_shaped, float_shaped}
use Rattle.shaped.specs.Quoted.{string_shaped, key_given}
use Rattle.shaped.specs.Hex.{inline_bytes_shaped}
use Rattle.shaped.specs.Containers.{FieldShaped, EntryShaped, array_of, object_of, block_array_of, block_object_of}
use Rattle.shaped.specs.Lines.{open_string_shaped, property_string_shaped, property_bytes_shaped, joined_shaped, open_shaped}

-- ---- inline

keyword_shaped : (k : ℕ) (word : List ℕ) {kind : ℕ} {text : List ℕ} → Scalar kind text → Values (Keyword kind word text) (Shaped k)
keyword_shaped k word h = skip (λ a. skip (λ w. skip (λ e. ret_values (shaped_leaf h))))

keywords_shaped : (k : ℕ) → Values Keywords (Shaped k)
keywords_shaped k =
    alt_words
    (alt_words (keyword_shaped k null_word is_null) (alt_words (keyword_shaped k true_word is_true) (keyword_shaped k false_word is_false)))
    (alt_words
    (keyword_shaped k nan_word (is_float no_number))
    (alt_words (keyword_shaped k infinity_word (is_float infinite)) (keyword_shaped k (45 ∷ infinity_word) (is_float less_infinite))))

scalar_shaped : (spaced : Bool) (k : ℕ) → Values (Inline.Scalar spaced) (Shaped k)
scalar_shaped spaced k =
    alt_words (alt_words (keywords_shaped k) (alt_words (integer_shaped k spaced) (float_shaped k spaced))) (alt_words (string_shaped k) (inline_bytes_shaped k))

module _ {A : Lang Tree} {k : ℕ} (f : Values A (Shaped k)) where
  inline_array_shaped : Values (InlineArray A) (Shaped (suc k))
  inline_array_shaped = skip (λ a. skip (λ b. bind_values (listed_values 93 f) (λ vs h. skip (λ e. ret_values (array_of a e vs h)))))

  inline_pair_shaped : Values (InlinePair A) (FieldShaped k)
  inline_pair_shaped = bind_values key_given (λ ky h. skip (λ w. bind_values f (λ v l. ret_values (h, l))))

  inline_object_shaped : Values (InlineObject A) (Shaped (suc k))
  inline_object_shaped = skip (λ a. skip (λ b. bind_values (listed_values 125 inline_pair_shaped) (λ fs h. skip (λ e. ret_values (object_of a e fs h)))))

value_shaped : (spaced : Bool) (k : ℕ) → Values (Value spaced k) (Shaped k)
value_shaped spaced zero = scalar_shaped spaced zero
value_shaped spaced (suc k) =
    alt_words (scalar_shaped spaced (suc k)) (alt_words (inline_array_shaped (value_shaped false k)) (inline_object_shaped (value_shaped false k)))

-- ---- blocks

value_line_shaped : (k : ℕ) → Values (ValueLine k) (Shaped k)
value_line_shaped k = bind_values (value_shaped true k) (λ v h. skip (λ c. skip (λ f. ret_values h)))

module _ (k n : ℕ) {N : Lang Tree} (f : Values N (Shaped k)) where
  property_shaped : Values (Property k n N) (FieldShaped k)
  property_shaped =
      bind_values
      key_given
      (λ ky h. skip
      (λ b. bind_values
      (alt_words
      (skip (λ s. alt_words (value_line_shaped k) (alt_words (property_string_shaped k n) (property_bytes_shaped k n))))
      (skip (λ c. skip (λ d. f))))
      (λ v l. ret_values (h, l))))

  object_shaped : Values (Object k n N) (Shaped (suc k))
  object_shaped = map_values (lines_values n property_shaped) (λ fs h. block_object_of fs h)

module _ {k : ℕ} {I : Lang Tree} (f : Values I (Shaped k)) where
  dashed_shaped : Values (Dashed I) (EntryShaped k)
  dashed_shaped = skip (λ d. skip (λ w. bind_values f (λ v h. ret_values h)))

  array_shaped : (n : ℕ) → Values (Array n I) (Shaped (suc k))
  array_shaped n = map_values (lines_values n dashed_shaped) (λ es h. block_array_of es h)

mutual
  nested_shaped : (k m : ℕ) → Values (Nested k m) (Shaped k)
  nested_shaped zero m = indented_values (alt_words (open_string_shaped zero m) (joined_shaped zero m)) m
  nested_shaped (suc k) m =
      indented_values
      (alt_words
      (alt_words (array_shaped (item_shaped k (suc (suc m))) m) (object_shaped k m (nested_shaped k (suc (suc m)))))
      (alt_words (open_string_shaped (suc k) m) (joined_shaped (suc k) m)))
      m

  item_shaped : (k c : ℕ) → Values (Item k c) (Shaped k)
  item_shaped zero c = alt_words (value_line_shaped zero) (open_shaped zero c)
  item_shaped (suc k) c =
      alt_words
      (alt_words (value_line_shaped (suc k)) (open_shaped (suc k) c))
      (alt_words
      (map_values (dashed_shaped (item_shaped k (suc (suc c)))) (λ i h. block_array_of (i ∷ []) (h, tt)))
      (object_shaped k c (nested_shaped k (suc (suc c)))))

-- ---- documents

root_line_shaped : (k : ℕ) → Values (RootLine k) (Shaped k)
root_line_shaped k = bind_values (value_shaped true k) (λ v h. skip (λ f. ret_values h))

root_shaped : (k : ℕ) → Values (Root k) (Shaped k)
root_shaped zero = alt_words (root_line_shaped zero) (open_shaped zero 0)
root_shaped (suc k) =
    alt_words
    (alt_words (root_line_shaped (suc k)) (open_shaped (suc k) 0))
    (alt_words (array_shaped (item_shaped k 2) 0) (object_shaped k 0 (nested_shaped k 2)))

whole_shaped : (k : ℕ) → Values (Whole k) (Shaped k)
whole_shaped k = skip (λ cs. bind_values (root_shaped k) (λ v h. skip (λ fs. ret_values h)))

pub document_shaped : (k : ℕ) (doc : List ℕ) (t : Tree) → Document k doc t → Shaped k t
unfolding Document
document_shaped k doc t d = by d.others ((whole_shaped k).has d.first)
  where
    by : {v : Tree} {m : ℕ} {s : List ℕ} → End v m s t → Shaped k v → Shaped k t
    by end h = h
