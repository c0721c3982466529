-- A LINE VALUE THAT BEGINS AS A BARE KEY MAY is a keyword or a number, and has neither colon nor LF in it. Assumes nothing.
use Rattle.std.specs.Prelude.{◌≡◌, refl, List, [], ◌∷◌, ◌++◌, Bool, true, false, ℕ, zero, suc}
use Rattle.language.specs.Kind.{NULL, FALSE, TRUE, INTEGER, FLOAT}
use Rattle.language.specs.Tree.{Tree, leaf, unescaped}
use Rattle.language.specs.Characters.{Option}
use Rattle.language.specs.Scalars.{null_word, true_word, false_word, nan_word, infinity_word, Keyword, Keywords, digit, Further, Digits, One, signed, Integer, Pointed, Exponent, Float, Plain}
use Rattle.language.specs.Strings.{keybyte}
use Rattle.language.specs.Inline.{Scalar, LineValue}
use Rattle.exact.specs.Class.{Starts, ◌to◌, Class, is, apart, starts_none, sub, only}
use Rattle.exact.specs.Lang.{Lang}
use Rattle.exact.specs.Comb.{one, two}
use Rattle.strings.proofs.QuotedLaws.{string_ll}
use Rattle.strings.specs.Bytes.{inline_bytes_ll}
use Rattle.inline.specs.Values.{container_ll, value_ll}
use Rattle.blocktext.specs.Opens.{Opens, ll_opens}
use Rattle.blocks.specs.Through.{Through, Bytes, ret_bytes, here_bytes, byte_bytes, seq_bytes, alt_bytes, star_bytes, word_bytes, all}

-- space, `+`, `-`, `.`, digits, letters
abbrev pub plainbyte : Class
plainbyte = (32 to 32) ∷ (43 to 43) ∷ (45 to 46) ∷ (48 to 57) ∷ (97 to 122) ∷ []

keyword_bytes : (kind : ℕ) (word text : List ℕ) → all plainbyte word ≡ true → Bytes plainbyte (Keyword kind word text)
keyword_bytes kind word text h = seq_bytes here_bytes λ a. seq_bytes (word_bytes word h) λ _. seq_bytes here_bytes λ e. ret_bytes (leaf kind a e (unescaped text))

keywords_bytes : Bytes plainbyte Keywords
keywords_bytes =
    alt_bytes
    (alt_bytes (keyword_bytes NULL null_word [] refl) (alt_bytes (keyword_bytes TRUE true_word [] refl) (keyword_bytes FALSE false_word [] refl)))
    (alt_bytes
    (keyword_bytes FLOAT nan_word nan_word refl)
    (alt_bytes (keyword_bytes FLOAT infinity_word infinity_word refl) (keyword_bytes FLOAT (45 ∷ infinity_word) (45 ∷ infinity_word) refl)))

option_bytes : {A : Lang (List ℕ)} → Bytes plainbyte A → Bytes plainbyte (Option A)
option_bytes x = alt_bytes x (ret_bytes [])

one_bytes : (c : Class) → sub c plainbyte ≡ true → Bytes plainbyte (One c)
one_bytes c h = seq_bytes (byte_bytes c h) λ b. ret_bytes (b ∷ [])

further_bytes : (spaced : Bool) → Bytes plainbyte (Further spaced)
further_bytes false = byte_bytes digit refl
further_bytes true = alt_bytes (byte_bytes digit refl) (seq_bytes (byte_bytes (only 32) refl) λ _. byte_bytes digit refl)

digits_bytes : (spaced : Bool) → Bytes plainbyte (Digits spaced)
digits_bytes spaced = seq_bytes (byte_bytes digit refl) λ d. seq_bytes (star_bytes (further_bytes spaced)) λ ds. ret_bytes (d ∷ ds)

integer_bytes : (spaced : Bool) → Bytes plainbyte (Integer spaced)
integer_bytes spaced =
    seq_bytes here_bytes λ a.
    seq_bytes (option_bytes (one_bytes (only 45) refl)) λ m. seq_bytes (digits_bytes spaced) λ ds. seq_bytes here_bytes λ e. ret_bytes (leaf INTEGER a e (unescaped (signed m ds)))

pointed_bytes : (spaced : Bool) → Bytes plainbyte (Pointed spaced)
pointed_bytes spaced =
    alt_bytes
    (seq_bytes (digits_bytes spaced) λ ds. seq_bytes (one_bytes (only 46) refl) λ p. seq_bytes (option_bytes (digits_bytes spaced)) λ fs. ret_bytes (ds ++ p ++ fs))
    (seq_bytes (one_bytes (only 46) refl) λ p. seq_bytes (digits_bytes spaced) λ fs. ret_bytes (p ++ fs))

exponent_bytes : (spaced : Bool) → Bytes plainbyte (Exponent spaced)
exponent_bytes spaced =
    seq_bytes (one_bytes (only 101) refl) λ x.
    seq_bytes (option_bytes (one_bytes ((43 to 43) ∷ (45 to 45) ∷ []) refl)) λ s. seq_bytes (digits_bytes spaced) λ ds. ret_bytes (x ++ s ++ ds)

float_bytes : (spaced : Bool) → Bytes plainbyte (Float spaced)
float_bytes spaced =
    seq_bytes here_bytes λ a.
    seq_bytes (option_bytes (one_bytes (only 45) refl)) λ m.
    seq_bytes
    (alt_bytes
    (seq_bytes (pointed_bytes spaced) λ p. seq_bytes (option_bytes (exponent_bytes spaced)) λ x. ret_bytes (p ++ x))
    (seq_bytes (digits_bytes spaced) λ ds. seq_bytes (exponent_bytes spaced) λ x. ret_bytes (ds ++ x)))
    λ w. seq_bytes here_bytes λ e. ret_bytes (leaf FLOAT a e (unescaped (m ++ w)))

plain_bytes : (spaced : Bool) → Bytes plainbyte (Plain spaced)
plain_bytes spaced = alt_bytes keywords_bytes (alt_bytes (integer_bytes spaced) (float_bytes spaced))

-- THE OTHER LINE VALUES begin with bytes that no bare key has
module _ (at : ℕ) (s : List ℕ) (v : Tree) (at' : ℕ) (t : List ℕ) (e : Starts (is keybyte) s) where
  other : {A : Lang Tree} {c : Class} → apart c keybyte ≡ true → Opens c A → A at s v at' t → Through plainbyte s t
  other {c = c} h o x = absurd (starts_none c keybyte s h (o.opens at s v at' t x) e)

  scalar_plain : Scalar true at s v at' t → Through plainbyte s t
  scalar_plain (one x) = (plain_bytes true).bytes x
  scalar_plain (two (one x)) = other refl (ll_opens refl string_ll) x
  scalar_plain (two (two x)) = other refl (ll_opens refl inline_bytes_ll) x

  pub value_plain : (k : ℕ) → LineValue k at s v at' t → Through plainbyte s t
  value_plain zero x = scalar_plain x
  value_plain (suc k) (one x) = scalar_plain x
  value_plain (suc k) (two x) = other refl (ll_opens refl (container_ll (value_ll k))) x
