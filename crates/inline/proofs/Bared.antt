-- No scalar has a key in it: whatever the readers of keywords, numbers, strings and bytes give is a leaf of another kind.
use mathlib.Core.Path.{refl}
use mathlib.Core.List.{List, [], ◌∷◌, ◌++◌}
use mathlib.Core.Bool.{Bool}
use Prim.Native.Nat.{ℕ}
use Rattle.language.specs.Kind.{NULL, FALSE, TRUE, INTEGER, FLOAT, STRING, BYTES}
use Rattle.language.specs.Scalars.{true_word, false_word, nan_word, infinity_word, digit, signed}
use Rattle.exact.specs.Class.{is, only}
use Rattle.exact.specs.Lang.{byte_r}
use Rattle.exact.specs.Comb.{option_r}
use Rattle.exact.specs.Ll.{word_r}
use Rattle.numbers.specs.Same.{Found, found, leaf_of}
use Rattle.numbers.specs.Digits.{digits_r}
use Rattle.numbers.specs.Plain.{plain_first, said_r, one_r, exponent_r, fraction_r, dotted_r, after_r, unsigned_r, nan_r, signed_r, body_r, plain_r}
use Rattle.strings.specs.Bytes.{angled_r, inline_bytes_r}
use Rattle.strings.specs.Quoted.{quoted_r, string_s, string_r}
use Rattle.notes.specs.Flat.{flat}
use Rattle.notes.specs.Bare.{Always, every_ok, every_bind, every_with, every_alt, Bare, spanned_bare}
use Rattle.inline.specs.Values.{quotes_r, scalar_r}

-- ---- keywords and numbers

record Plainly (f : Found) : Type 0 where
  is : (a e : ℕ) → Bare (leaf_of a e f)

floats : (w : List ℕ) → Plainly (found FLOAT w)
unfolding flat
floats w = record { is = λ a e. record { none = λ r p. refl } }

integers : (w : List ℕ) → Plainly (found INTEGER w)
unfolding flat
integers w = record { is = λ a e. record { none = λ r p. refl } }

nulls : Plainly (found NULL [])
unfolding flat
nulls = record { is = λ a e. record { none = λ r p. refl } }

trues : Plainly (found TRUE [])
unfolding flat
trues = record { is = λ a e. record { none = λ r p. refl } }

falses : Plainly (found FALSE [])
unfolding flat
falses = record { is = λ a e. record { none = λ r p. refl } }

said : (kind : ℕ) (word text : List ℕ) → Plainly (found kind text) → (at : ℕ) (s : List ℕ) → Always Plainly (said_r kind word text at s)
said kind word text h at s = every_bind (word_r word at s) _ (λ _ a t. every_ok h)

module _ (spaced : Bool) where
  fraction : (m : List ℕ) (at : ℕ) (s : List ℕ) → Always Plainly (fraction_r spaced m at s)
  unfolding fraction_r
  fraction m at s =
      every_bind (one_r (only 46) at s) _ (λ p a t.
      every_bind (digits_r spaced a t) _ (λ fs a t. every_bind (option_r (only 101) (exponent_r spaced) a t) _ (λ x a t. every_ok (floats (m ++ ((p ++ fs) ++ x))))))

  dotted : (m ds : List ℕ) (at : ℕ) (s : List ℕ) → Always Plainly (dotted_r spaced m ds at s)
  unfolding dotted_r
  dotted m ds at s =
      every_bind (one_r (only 46) at s) _ (λ p a t.
      every_bind (option_r digit (digits_r spaced) a t) _ (λ fs a t. every_bind (option_r (only 101) (exponent_r spaced) a t) _ (λ x a t. every_ok (floats (m ++ ((ds ++ p ++ fs) ++ x))))))

  after : (m ds : List ℕ) (at : ℕ) (s : List ℕ) → Always Plainly (after_r spaced m ds at s)
  unfolding after_r
  after m ds at s =
      every_alt (is (only 46)) _ _ at s (dotted m ds) (λ at s.
      every_alt (is (only 101)) _ _ at s (λ at s. every_bind (exponent_r spaced at s) _ (λ x a t. every_ok {a = a} {s = t} (floats (m ++ (ds ++ x))))) (λ at s. every_ok {a = at} {s = s} (integers (signed m ds))))

  unsigned : (m : List ℕ) (at : ℕ) (s : List ℕ) → Always Plainly (unsigned_r spaced m at s)
  unfolding unsigned_r
  unsigned m at s = every_alt (is (only 46)) _ _ at s (fraction m) (λ at s. every_bind (digits_r spaced at s) _ (λ ds. after m ds))

  nan : (at : ℕ) (s : List ℕ) → Always Plainly (nan_r at s)
  unfolding nan_r
  nan at s =
      every_bind (byte_r (is (only 110)) at s) _ (λ _ a t.
      every_alt (is (only 97)) _ _ a t (said FLOAT (97 ∷ 110 ∷ []) nan_word (floats nan_word)) (said NULL (117 ∷ 108 ∷ 108 ∷ []) [] nulls))

  negative : (at : ℕ) (s : List ℕ) → Always Plainly (signed_r spaced at s)
  unfolding signed_r
  negative at s =
      every_bind (one_r (only 45) at s) _ (λ m a t. every_alt (is (only 105)) _ _ a t (said FLOAT infinity_word (45 ∷ infinity_word) (floats (45 ∷ infinity_word))) (unsigned m))

  body : (at : ℕ) (s : List ℕ) → Always Plainly (body_r spaced at s)
  unfolding body_r
  body at s =
      every_alt (is (only 110)) _ _ at s nan (λ at s.
      every_alt (is (only 116)) _ _ at s (said TRUE true_word [] trues) (λ at s.
      every_alt (is (only 102)) _ _ at s (said FALSE false_word [] falses) (λ at s.
      every_alt (is (only 105)) _ _ at s (said FLOAT infinity_word infinity_word (floats infinity_word)) (λ at s.
      every_alt (is (only 45)) _ _ at s negative (unsigned [])))))

  pub plain_bare : (at : ℕ) (s : List ℕ) → Always Bare (plain_r spaced at s)
  unfolding plain_r
  plain_bare at s = every_with (body_r spaced at s) _ (body at s) (λ f e h t. every_ok (h.is at e))

-- ---- strings and bytes

pub string_bare : (at : ℕ) (s : List ℕ) → Always Bare (string_r at s)
unfolding string_r flat
string_bare at s = spanned_bare STRING quoted_r at s (λ a e w. record { none = λ r p. refl })

pub bytes_bare : (at : ℕ) (s : List ℕ) → Always Bare (inline_bytes_r at s)
unfolding inline_bytes_r flat
bytes_bare at s = spanned_bare BYTES angled_r at s (λ a e w. record { none = λ r p. refl })

pub scalar_bare : (spaced : Bool) (at : ℕ) (s : List ℕ) → Always Bare (scalar_r spaced at s)
unfolding scalar_r quotes_r
scalar_bare spaced at s = every_alt (is plain_first) _ _ at s (plain_bare spaced) (λ at s. every_alt (is string_s.first) _ _ at s string_bare bytes_bare)
