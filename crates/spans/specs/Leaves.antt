-- LEAVES BEGIN with ASCII bytes: keywords, numbers, strings, keys and bytes. Assumes nothing.
use Rattle.std.specs.Prelude.{◌≡◌, refl, List, [], ◌∷◌, Bool, true, ℕ}
use Rattle.notation.specs.Class.{Class, only}
use Rattle.notation.specs.Lang.{Lang, Here, Seq}
use Rattle.language.specs.Kind.{NULL, FALSE, TRUE, FLOAT}
use Rattle.language.specs.Tree.{Decoded, Tree}
use Rattle.language.specs.Scalars.{Keyword, Keywords, Digits, digit, One, Integer, Pointed, Float, null_word, true_word, false_word, nan_word, infinity_word}
use Rattle.language.specs.Strings.{Quoted, Spanned, Key, keybyte}
use Rattle.language.specs.BlockText.{OpenString, PropertyString, OpenBytes, PropertyBytes}
use Rattle.language.specs.Blocks.{Joined, Open}
use Rattle.language.specs.Inline.{Scalar}
use Rattle.spans.specs.Words.{Values, alt_words, ret_values, skip}
use Rattle.spans.specs.Starts.{Starts, low, low_word, byte_starts, seq_starts, word_starts, option_starts}
use Rattle.spans.specs.Ascii.{Ascii, Begin, leaf_begins}
use Rattle.spans.specs.Gives.{Gives, always, here_gives}

one_starts : (c : Class) → low c ≡ true → Starts (One c)
one_starts c l = seq_starts (byte_starts c l)

digits_start : (spaced : Bool) → Starts (Digits spaced)
digits_start spaced = seq_starts (byte_starts digit refl)

pointed_starts : (spaced : Bool) → Starts (Pointed spaced)
pointed_starts spaced = alt_words (seq_starts (digits_start spaced)) (seq_starts (one_starts (only 46) refl))

quoted_starts : Starts Quoted
quoted_starts = alt_words (seq_starts (byte_starts (only 34) refl)) (seq_starts (byte_starts (only 39) refl))

module _ (doc : List ℕ) where
  -- a leaf whose span begins where it was read
  leaf_gives : {B : ℕ → Lang Tree} → ((a : ℕ) → Starts (B a)) → ((a : ℕ) → Ascii doc a → Values (B a) (Begin doc)) → Gives doc (Seq Here B) (Begin doc)
  leaf_gives f g = here_gives doc f (λ a h. always doc (g a h))

  keyword_begins : (kind : ℕ) (word text : List ℕ) → low_word word ≡ true → Gives doc (Keyword kind word text) (Begin doc)
  keyword_begins kind word text l = leaf_gives (λ a. seq_starts (word_starts word l)) (λ a h. skip (λ w. skip (λ e. ret_values (leaf_begins doc h))))

  keywords_begin : Gives doc Keywords (Begin doc)
  keywords_begin =
      alt_words
      (alt_words (keyword_begins NULL null_word [] refl) (alt_words (keyword_begins TRUE true_word [] refl) (keyword_begins FALSE false_word [] refl)))
      (alt_words (keyword_begins FLOAT nan_word nan_word refl) (alt_words (keyword_begins FLOAT infinity_word infinity_word refl) (keyword_begins FLOAT (45 ∷ infinity_word) (45 ∷ infinity_word) refl)))

  integer_begins : (spaced : Bool) → Gives doc (Integer spaced) (Begin doc)
  integer_begins spaced =
      leaf_gives (λ a. option_starts (one_starts (only 45) refl) (λ m. seq_starts (digits_start spaced)))
      (λ a h. skip (λ m. skip (λ ds. skip (λ e. ret_values (leaf_begins doc h)))))

  float_begins : (spaced : Bool) → Gives doc (Float spaced) (Begin doc)
  float_begins spaced =
      leaf_gives (λ a. option_starts (one_starts (only 45) refl) (λ m. seq_starts (alt_words (seq_starts (pointed_starts spaced)) (seq_starts (digits_start spaced)))))
      (λ a h. skip (λ m. skip (λ w. skip (λ e. ret_values (leaf_begins doc h)))))

  spanned_begins : (kind : ℕ) {A : Lang Decoded} → Starts A → Gives doc (Spanned kind A) (Begin doc)
  spanned_begins kind f = leaf_gives (λ a. seq_starts f) (λ a h. skip (λ s. skip (λ e. ret_values (leaf_begins doc h))))

  pub key_begins : Gives doc Key (Begin doc)
  key_begins = spanned_begins _ (alt_words (seq_starts (seq_starts (byte_starts keybyte refl))) quoted_starts)

  pub scalar_begins : (spaced : Bool) → Gives doc (Scalar spaced) (Begin doc)
  scalar_begins spaced =
      alt_words
      (alt_words keywords_begin (alt_words (integer_begins spaced) (float_begins spaced)))
      (alt_words (spanned_begins _ quoted_starts) (spanned_begins _ (seq_starts (byte_starts (only 60) refl))))

  -- what stands on several lines begins with a grave, with `>` or with a quote
  pub open_string_begins : (c : ℕ) → Gives doc (OpenString c) (Begin doc)
  open_string_begins c =
      leaf_gives (λ a. seq_starts (byte_starts (only 96) refl))
      (λ a h. skip (λ b. skip (λ t. skip (λ e. skip (λ f. skip (λ ls. ret_values (leaf_begins doc h)))))))

  pub property_string_begins : (n : ℕ) → Gives doc (PropertyString n) (Begin doc)
  property_string_begins n =
      leaf_gives (λ a. seq_starts (byte_starts (only 96) refl))
      (λ a h. skip (λ b. skip (λ e. skip (λ f. skip (λ ls. ret_values (leaf_begins doc h))))))

  open_bytes_begins : (c : ℕ) → Gives doc (OpenBytes c) (Begin doc)
  open_bytes_begins c =
      leaf_gives (λ a. seq_starts (word_starts (62 ∷ 32 ∷ []) refl))
      (λ a h. skip (λ b. skip (λ p. skip (λ ps. ret_values (leaf_begins doc h)))))

  pub property_bytes_begins : (n : ℕ) → Gives doc (PropertyBytes n) (Begin doc)
  property_bytes_begins n =
      leaf_gives (λ a. seq_starts (byte_starts (only 62) refl))
      (λ a h. skip (λ b. skip (λ c. skip (λ f. skip (λ ps. ret_values (leaf_begins doc h))))))

  pub open_begins : (c : ℕ) → Gives doc (Open c) (Begin doc)
  open_begins c = alt_words (open_string_begins c) (open_bytes_begins c)

  pub joined_begins : (m : ℕ) → Gives doc (Joined m) (Begin doc)
  joined_begins m =
      leaf_gives (λ a. seq_starts (seq_starts quoted_starts)) (λ a h. skip (λ p. skip (λ ps. ret_values (leaf_begins doc h))))
