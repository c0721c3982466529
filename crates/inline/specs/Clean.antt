-- Inline values are sequences of allowed characters.
use Rattle.std.specs.Prelude.{◌≡◌, refl, [], ◌∷◌, Bool, true, false, ℕ, zero, suc}
use Rattle.notation.specs.Class.{only}
use Rattle.notation.specs.Lang.{Lang}
use Rattle.language.specs.Tree.{Tree, field, array_tree, object_tree}
use Rattle.language.specs.Characters.{ascii}
use Rattle.language.specs.Inline.{Listed, InlineArray, InlinePair, InlineObject, Scalar, Value}
use Rattle.exact.specs.Class.{sub}
use Rattle.utf8.specs.Clean.{Clean, ret_clean, here_clean, byte_clean, word_clean, seq_clean, alt_clean, star_clean}
use Rattle.numbers.specs.Clean.{plain_clean}
use Rattle.strings.specs.Clean.{string_clean, key_clean, inline_bytes_clean}

listed_clean : {X : Type 0} {A : Lang X} (close : ℕ) → sub (only close) ascii ≡ true → Clean A → Clean (Listed close A)
listed_clean close h c =
    alt_clean
    (seq_clean (byte_clean (only close) h) λ _. ret_clean [])
    (seq_clean c λ v. seq_clean (star_clean (seq_clean (word_clean (44 ∷ 32 ∷ []) refl) λ _. c)) λ vs. seq_clean (byte_clean (only close) h) λ _. ret_clean (v ∷ vs))

inline_array_clean : {A : Lang Tree} → Clean A → Clean (InlineArray A)
inline_array_clean c =
    seq_clean here_clean λ a.
    seq_clean (byte_clean (only 91) refl) λ _. seq_clean (listed_clean 93 refl c) λ vs. seq_clean here_clean λ e. ret_clean (array_tree a e vs)

inline_pair_clean : {A : Lang Tree} → Clean A → Clean (InlinePair A)
inline_pair_clean c = seq_clean key_clean λ k. seq_clean (word_clean (58 ∷ 32 ∷ []) refl) λ _. seq_clean c λ v. ret_clean (field k v)

inline_object_clean : {A : Lang Tree} → Clean A → Clean (InlineObject A)
inline_object_clean c =
    seq_clean here_clean λ a.
    seq_clean (byte_clean (only 123) refl) λ _.
    seq_clean (listed_clean 125 refl (inline_pair_clean c)) λ fs. seq_clean here_clean λ e. ret_clean (object_tree a e fs)

pub scalar_clean : (spaced : Bool) → Clean (Scalar spaced)
scalar_clean spaced = alt_clean (plain_clean spaced) (alt_clean string_clean inline_bytes_clean)

pub value_clean : (spaced : Bool) (k : ℕ) → Clean (Value spaced k)
value_clean spaced zero = scalar_clean spaced
value_clean spaced (suc k) = alt_clean (scalar_clean spaced) (alt_clean (inline_array_clean (value_clean false k)) (inline_object_clean (value_clean false k)))
