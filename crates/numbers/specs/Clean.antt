-- Keywords and numbers are whole allowed characters. Assumes nothing.
use Rattle.std.specs.Prelude.{refl, List, [], ◌∷◌, ◌++◌, Bool, true, false, ℕ}
use Rattle.notation.specs.Class.{◌to◌, only}
use Rattle.utf8.specs.Clean.{Clean, ret_clean, here_clean, byte_clean, word_clean, seq_clean, alt_clean, star_clean}
use Rattle.language.specs.Kind.{NULL, FALSE, TRUE, INTEGER, FLOAT}
use Rattle.language.specs.Tree.{unescaped, leaf}
use Rattle.language.specs.Scalars.{null_word, true_word, false_word, nan_word, infinity_word, Keyword, Keywords, digit, Further, Digits, signed, Integer, Pointed, Exponent, Float, Plain}

further_clean : (spaced : Bool) → Clean (Further spaced)
further_clean false = byte_clean digit refl
further_clean true = alt_clean (byte_clean digit refl) (seq_clean (byte_clean (only 32) refl) λ _. byte_clean digit refl)

module _ (spaced : Bool) where
  digits_clean : Clean (Digits spaced)
  digits_clean = seq_clean (byte_clean digit refl) λ d. seq_clean (star_clean (further_clean spaced)) λ ds. ret_clean (d ∷ ds)

  exponent_clean : Clean (Exponent spaced)
  exponent_clean =
      seq_clean (seq_clean (byte_clean (only 101) refl) λ b. ret_clean (b ∷ [])) λ x.
      seq_clean (alt_clean (seq_clean (byte_clean ((43 to 43) ∷ (45 to 45) ∷ []) refl) λ b. ret_clean (b ∷ [])) (ret_clean [])) λ s.
      seq_clean digits_clean λ ds. ret_clean (x ++ s ++ ds)

  pointed_clean : Clean (Pointed spaced)
  pointed_clean =
      alt_clean
      (seq_clean digits_clean λ ds.
      seq_clean (seq_clean (byte_clean (only 46) refl) λ b. ret_clean (b ∷ [])) λ p.
      seq_clean (alt_clean digits_clean (ret_clean [])) λ fs. ret_clean (ds ++ p ++ fs))
      (seq_clean (seq_clean (byte_clean (only 46) refl) λ b. ret_clean (b ∷ [])) λ p. seq_clean digits_clean λ fs. ret_clean (p ++ fs))

  integer_clean : Clean (Integer spaced)
  integer_clean =
      seq_clean here_clean λ a.
      seq_clean (alt_clean (seq_clean (byte_clean (only 45) refl) λ b. ret_clean (b ∷ [])) (ret_clean [])) λ m.
      seq_clean digits_clean λ ds. seq_clean here_clean λ e. ret_clean (leaf INTEGER a e (unescaped (signed m ds)))

  float_clean : Clean (Float spaced)
  float_clean =
      seq_clean here_clean λ a.
      seq_clean (alt_clean (seq_clean (byte_clean (only 45) refl) λ b. ret_clean (b ∷ [])) (ret_clean [])) λ m.
      seq_clean
      (alt_clean
      (seq_clean pointed_clean λ p. seq_clean (alt_clean exponent_clean (ret_clean [])) λ x. ret_clean (p ++ x))
      (seq_clean digits_clean λ ds. seq_clean exponent_clean λ x. ret_clean (ds ++ x)))
      λ w. seq_clean here_clean λ e. ret_clean (leaf FLOAT a e (unescaped (m ++ w)))

keywords_clean : Clean Keywords
keywords_clean =
    alt_clean
    (alt_clean (said NULL null_word [] (word_clean null_word refl))
    (alt_clean (said TRUE true_word [] (word_clean true_word refl)) (said FALSE false_word [] (word_clean false_word refl))))
    (alt_clean (said FLOAT nan_word nan_word (word_clean nan_word refl))
    (alt_clean
    (said FLOAT infinity_word infinity_word (word_clean infinity_word refl))
    (said FLOAT (45 ∷ infinity_word) (45 ∷ infinity_word) (word_clean (45 ∷ infinity_word) refl))))
  where
    said : (kind : ℕ) (word text : List ℕ) → Clean (Rattle.notation.specs.Lang.Word word) → Clean (Keyword kind word text)
    said kind word text c = seq_clean here_clean λ a. seq_clean c λ _. seq_clean here_clean λ e. ret_clean (leaf kind a e (unescaped text))

pub plain_clean : (spaced : Bool) → Clean (Plain spaced)
plain_clean spaced = alt_clean keywords_clean (alt_clean (integer_clean spaced) (float_clean spaced))
