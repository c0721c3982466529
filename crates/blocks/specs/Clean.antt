-- EVERY DOCUMENT is a sequence of allowed characters.
use Rattle.std.specs.Prelude.{refl, List, [], ◌∷◌, true, ℕ, zero, suc}
use Rattle.notation.specs.Lang.{Lang, Begins, End}
use Rattle.language.specs.Tree.{Tree, field, entry, block_array, block_object}
use Rattle.language.specs.Characters.{Allowed}
use Rattle.language.specs.Blocks.{Lines, ValueLine, Property, Object, Dashed, Array, Open, Nested, Item}
use Rattle.language.specs.Document.{RootLine, Root, Whole, Document}
use Rattle.exact.specs.Class.{only}
use Rattle.utf8.specs.Clean.{Clean, ret_clean, here_clean, byte_clean, seq_clean, alt_clean, star_clean, map_clean, indented_clean, word_clean, end_clean}
use Rattle.utf8.proofs.CleanLaws.{clean_begins}
use Rattle.characters.specs.Comments.{comment_clean, optional_comment_clean}
use Rattle.strings.specs.Clean.{key_clean}
use Rattle.inline.specs.Clean.{value_clean}
use Rattle.blocktext.specs.Clean.{open_string_clean, property_string_clean, open_bytes_clean, property_bytes_clean, joined_clean, space_clean, feed_clean}

lines_clean : {X : Type 0} (n : ℕ) {A : Lang X} → Clean A → Clean (Lines n A)
lines_clean n c = seq_clean c λ v. seq_clean (star_clean (indented_clean n c)) λ vs. ret_clean (v ∷ vs)

value_line_clean : (k : ℕ) → Clean (ValueLine k)
value_line_clean k = seq_clean (value_clean true k) λ v. seq_clean optional_comment_clean λ _. seq_clean feed_clean λ _. ret_clean v

property_clean : (k n : ℕ) {N : Lang Tree} → Clean N → Clean (Property k n N)
property_clean k n c =
    seq_clean key_clean λ ky.
    seq_clean (byte_clean (only 58) refl) λ _.
    seq_clean
    (alt_clean
    (seq_clean space_clean λ _. alt_clean (value_line_clean k) (alt_clean (property_string_clean n) (property_bytes_clean n)))
    (seq_clean optional_comment_clean λ _. seq_clean feed_clean λ _. c))
    λ v. ret_clean (field ky v)

object_clean : (k n : ℕ) {N : Lang Tree} → Clean N → Clean (Object k n N)
object_clean k n c = map_clean block_object (lines_clean n (property_clean k n c))

dashed_clean : {I : Lang Tree} → Clean I → Clean (Dashed I)
dashed_clean c = seq_clean here_clean λ d. seq_clean (word_clean (45 ∷ 32 ∷ []) refl) λ _. seq_clean c λ v. ret_clean (entry d v)

array_clean : (n : ℕ) {I : Lang Tree} → Clean I → Clean (Array n I)
array_clean n c = map_clean block_array (lines_clean n (dashed_clean c))

open_clean : (c : ℕ) → Clean (Open c)
open_clean c = alt_clean (open_string_clean c) (open_bytes_clean c)

mutual
  nested_clean : (k m : ℕ) → Clean (Nested k m)
  nested_clean zero m = indented_clean m (alt_clean (open_string_clean m) (joined_clean m))
  nested_clean (suc k) m =
      indented_clean
      m
      (alt_clean
      (alt_clean (array_clean m (item_clean k (suc (suc m)))) (object_clean k m (nested_clean k (suc (suc m)))))
      (alt_clean (open_string_clean m) (joined_clean m)))

  item_clean : (k c : ℕ) → Clean (Item k c)
  item_clean zero c = alt_clean (value_line_clean zero) (open_clean c)
  item_clean (suc k) c =
      alt_clean
      (alt_clean (value_line_clean (suc k)) (open_clean c))
      (alt_clean (map_clean (λ i. block_array (i ∷ [])) (dashed_clean (item_clean k (suc (suc c))))) (object_clean k c (nested_clean k (suc (suc c)))))

root_line_clean : (k : ℕ) → Clean (RootLine k)
root_line_clean k = seq_clean (value_clean true k) λ v. seq_clean feed_clean λ _. ret_clean v

root_clean : (k : ℕ) → Clean (Root k)
root_clean zero = alt_clean (root_line_clean zero) (open_clean 0)
root_clean (suc k) = alt_clean (alt_clean (root_line_clean (suc k)) (open_clean 0)) (alt_clean (array_clean 0 (item_clean k 2)) (object_clean k 0 (nested_clean k 2)))

whole_clean : (k : ℕ) → Clean (Whole k)
whole_clean k = seq_clean (star_clean (seq_clean comment_clean λ _. feed_clean)) λ _. seq_clean (root_clean k) λ v. seq_clean (star_clean feed_clean) λ _. ret_clean v

pub document_allowed : (k : ℕ) (u : List ℕ) → Begins (Document k) u → Begins Allowed u
unfolding Document
document_allowed k u b = clean_begins End 0 u (whole_clean k) (λ v a t w x. end_clean x) b
