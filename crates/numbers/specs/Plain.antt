-- THE READER of keywords and numbers, and that it is exact: by first bytes alone inside `[` and `{`, by a look behind a space outside. Assumes nothing.
use Rattle.std.specs.Prelude.{◌≡◌, List, [], ◌∷◌, ◌++◌, Bool, true, false, ℕ}
use Rattle.std.proofs.Math.Path.{refl}
use Rattle.exact.specs.Class.{Starts, ◌to◌, Class, is, only}
use Rattle.exact.specs.Out.{Reader}
use Rattle.exact.specs.Lang.{bar, Exact, ret_r, byte_r}
use Rattle.exact.specs.Comb.{seq_r, map_r, alt_r, option_r}
use Rattle.exact.specs.Ll.{Shape, Ll, ret_s, ret_ll, byte_s, byte_ll, byte₁, seq_s, seq_ll, alt_ll, relax, here_r, here_ll, word_r, word_s, word_ll, begun_starts}
use Rattle.language.specs.Kind.{NULL, FALSE, TRUE, INTEGER, FLOAT}
use Rattle.language.specs.Tree.{Tree}
use Rattle.language.specs.Characters.{Option}
use Rattle.language.specs.Scalars.{true_word, false_word, nan_word, infinity_word, digit, One, signed, Exponent, Plain}
use Rattle.numbers.specs.Looked.{On, Looked, of_ll, seq_looked, alt_looked, relax_looked, looked_iff, to_ll}
use Rattle.numbers.specs.Digits.{gap, digits_r, digits_looked}
use Rattle.numbers.specs.Same.{Found, found, leaf_of, Spanned}
use Rattle.numbers.specs.Common.{Said, Fraction, Dotted, After, Unsigned, Nan, Signed, Body, plain_same}

-- READERS
abbrev pub said_r : ℕ → List ℕ → List ℕ → Reader Found
said_r kind word text = seq_r (word_r word) λ _. ret_r (found kind text)

abbrev pub one_r : Class → Reader (List ℕ)
one_r c = map_r (λ b. b ∷ []) (byte_r (is c))

abbrev pub sign : Class
sign = (43 to 43) ∷ (45 to 45) ∷ []

unfoldable pub exponent_r : Bool → Reader (List ℕ)
exponent_r spaced = seq_r (one_r (only 101)) λ x. seq_r (option_r sign (one_r sign)) λ s. seq_r (digits_r spaced) λ ds. ret_r (x ++ s ++ ds)

unfoldable pub fraction_r : Bool → List ℕ → Reader Found
fraction_r spaced m =
    seq_r (one_r (only 46)) λ p. seq_r (digits_r spaced) λ fs. seq_r (option_r (only 101) (exponent_r spaced)) λ x. ret_r (found FLOAT (m ++ ((p ++ fs) ++ x)))

unfoldable pub dotted_r : Bool → List ℕ → List ℕ → Reader Found
dotted_r spaced m ds =
    seq_r (one_r (only 46)) λ p.
    seq_r (option_r digit (digits_r spaced)) λ fs.
    seq_r (option_r (only 101) (exponent_r spaced)) λ x. ret_r (found FLOAT (m ++ ((ds ++ p ++ fs) ++ x)))

unfoldable pub after_r : Bool → List ℕ → List ℕ → Reader Found
after_r spaced m ds =
    alt_r
    (is (only 46))
    (dotted_r spaced m ds)
    (alt_r (is (only 101)) (seq_r (exponent_r spaced) λ x. ret_r (found FLOAT (m ++ (ds ++ x)))) (ret_r (found INTEGER (signed m ds))))

unfoldable pub unsigned_r : Bool → List ℕ → Reader Found
unsigned_r spaced m = alt_r (is (only 46)) (fraction_r spaced m) (seq_r (digits_r spaced) (after_r spaced m))

unfoldable pub nan_r : Reader Found
nan_r = seq_r (byte_r (is (only 110))) λ _. alt_r (is (only 97)) (said_r FLOAT (97 ∷ 110 ∷ []) nan_word) (said_r NULL (117 ∷ 108 ∷ 108 ∷ []) [])

unfoldable pub signed_r : Bool → Reader Found
signed_r spaced = seq_r (one_r (only 45)) λ m. alt_r (is (only 105)) (said_r FLOAT infinity_word (45 ∷ infinity_word)) (unsigned_r spaced m)

unfoldable pub body_r : Bool → Reader Found
body_r spaced =
    alt_r
    (is (only 110))
    nan_r
    (alt_r
    (is (only 116))
    (said_r TRUE true_word [])
    (alt_r
    (is (only 102))
    (said_r FALSE false_word [])
    (alt_r (is (only 105)) (said_r FLOAT infinity_word infinity_word) (alt_r (is (only 45)) (signed_r spaced) (unsigned_r spaced [])))))

unfoldable pub plain_r : Bool → Reader Tree
plain_r spaced = seq_r here_r λ a. seq_r (body_r spaced) λ f. seq_r here_r λ e. ret_r (leaf_of a e f)

-- WHAT MAY NOT FOLLOW a number: a digit, `.`, `e`; where spaces are allowed, a space and a digit
abbrev pub number_more : Class
number_more = (46 to 46) ∷ (48 to 57) ∷ (101 to 101) ∷ []

abbrev pub NumberOn : Bool → List ℕ → Type 0
NumberOn spaced = On (gap spaced) number_more

-- `-` `.` digits `f` `i` `n` `t`
abbrev pub plain_first : Class
plain_first = (45 to 45) ∷ (46 to 46) ∷ (48 to 57) ∷ (102 to 102) ∷ (105 to 105) ∷ (110 to 110) ∷ (116 to 116) ∷ []

abbrev pub plain_s : Shape
plain_s = record { null = false; first = plain_first; follow = number_more }

-- EXACT: a keyword
said_ll : (kind : ℕ) (word text : List ℕ) → Ll (seq_s (word_s word) ret_s) (Said kind word text) (said_r kind word text)
said_ll kind word text = seq_ll refl (word_ll word) λ _. ret_ll (found kind text)

abbrev word_s₁ : ℕ → Shape
word_s₁ b = record { null = false; first = only b; follow = [] }

nan_ll : Ll (word_s₁ 110) Nan nan_r
unfolding nan_r
nan_ll = relax (word_s₁ 110) refl refl refl (seq_ll refl (byte₁ 110) λ _. alt_ll refl refl (said_ll FLOAT (97 ∷ 110 ∷ []) nan_word) (said_ll NULL (117 ∷ 108 ∷ 108 ∷ []) []))

-- a number
one_ll : (c : Class) (b₀ : ℕ) → is c b₀ ≡ true → Ll (seq_s (byte_s c) ret_s) (One c) (one_r c)
one_ll c b₀ e = seq_ll refl (byte_ll c b₀ e) λ b. ret_ll (b ∷ [])

module _ (spaced : Bool) where
  pub exponent_looked : Looked (gap spaced) (record { null = false; first = only 101; follow = digit }) (Exponent spaced) (exponent_r spaced)
  unfolding exponent_r
  exponent_looked =
      relax_looked
      _
      refl
      refl
      refl
      (seq_looked refl refl (of_ll _ (one_ll (only 101) 101 refl)) λ x.
      seq_looked refl refl (of_ll _ (alt_ll refl refl (one_ll sign 43 refl) (ret_ll []))) λ s.
      seq_looked refl refl (digits_looked spaced) λ ds. of_ll _ (ret_ll (x ++ s ++ ds)))

  pub power_looked : Looked (gap spaced) (record { null = true; first = only 101; follow = number_more }) (Option (Exponent spaced)) (option_r (only 101) (exponent_r spaced))
  power_looked = relax_looked _ refl refl refl (alt_looked refl refl exponent_looked (of_ll _ (ret_ll [])))

  fraction_looked : (m : List ℕ) → Looked (gap spaced) (record { null = false; first = only 46; follow = number_more }) (Fraction spaced m) (fraction_r spaced m)
  unfolding fraction_r
  fraction_looked m =
      relax_looked
      _
      refl
      refl
      refl
      (seq_looked refl refl (of_ll _ (one_ll (only 46) 46 refl)) λ p.
      seq_looked refl refl (digits_looked spaced) λ fs. seq_looked refl refl power_looked λ x. of_ll _ (ret_ll (found FLOAT (m ++ ((p ++ fs) ++ x)))))

  dotted_looked : (m ds : List ℕ) → Looked (gap spaced) (record { null = false; first = only 46; follow = number_more }) (Dotted spaced m ds) (dotted_r spaced m ds)
  unfolding dotted_r
  dotted_looked m ds =
      relax_looked
      _
      refl
      refl
      refl
      (seq_looked refl refl (of_ll _ (one_ll (only 46) 46 refl)) λ p.
      seq_looked refl refl (alt_looked refl refl (digits_looked spaced) (of_ll _ (ret_ll []))) λ fs.
      seq_looked refl refl power_looked λ x. of_ll _ (ret_ll (found FLOAT (m ++ ((ds ++ p ++ fs) ++ x)))))

  pub after_looked : (m ds : List ℕ) → Looked (gap spaced) (record { null = true; first = only 46 ++ only 101; follow = number_more }) (After spaced m ds) (after_r spaced m ds)
  unfolding after_r
  after_looked m ds =
      relax_looked
      _
      refl
      refl
      refl
      (alt_looked refl refl (dotted_looked m ds)
      (alt_looked refl refl (seq_looked refl refl exponent_looked λ x. of_ll _ (ret_ll (found FLOAT (m ++ (ds ++ x))))) (of_ll _ (ret_ll (found INTEGER (signed m ds))))))

  pub unsigned_looked : (m : List ℕ) → Looked (gap spaced) (record { null = false; first = only 46 ++ digit; follow = number_more }) (Unsigned spaced m) (unsigned_r spaced m)
  unfolding unsigned_r
  unsigned_looked m = relax_looked _ refl refl refl (alt_looked refl refl (fraction_looked m) (seq_looked refl refl (digits_looked spaced) λ ds. after_looked m ds))

  signed_looked : Looked (gap spaced) (record { null = false; first = only 45; follow = number_more }) (Signed spaced) (signed_r spaced)
  unfolding signed_r
  signed_looked =
      relax_looked
      _
      refl
      refl
      refl
      (seq_looked refl refl (of_ll _ (one_ll (only 45) 45 refl)) λ m.
      alt_looked refl refl (of_ll _ (relax (word_s₁ 105) refl refl refl (said_ll FLOAT infinity_word (45 ∷ infinity_word)))) (unsigned_looked m))

  body_looked : Looked (gap spaced) plain_s (Body spaced) (body_r spaced)
  unfolding body_r
  body_looked =
      relax_looked
      plain_s
      refl
      refl
      refl
      (alt_looked refl refl (of_ll _ nan_ll)
      (alt_looked refl refl (of_ll _ (relax (word_s₁ 116) refl refl refl (said_ll TRUE true_word [])))
      (alt_looked refl refl (of_ll _ (relax (word_s₁ 102) refl refl refl (said_ll FALSE false_word [])))
      (alt_looked refl refl (of_ll _ (relax (word_s₁ 105) refl refl refl (said_ll FLOAT infinity_word infinity_word)))
      (alt_looked refl refl signed_looked (unsigned_looked []))))))

  spanned_looked : Looked (gap spaced) plain_s (Spanned (Body spaced)) (plain_r spaced)
  unfolding plain_r
  spanned_looked =
      relax_looked
      plain_s
      refl
      refl
      refl
      (seq_looked refl refl (of_ll _ here_ll) λ a.
      seq_looked refl refl body_looked λ f. of_ll _ (seq_ll refl here_ll λ e. ret_ll (leaf_of a e f)))

  pub plain_looked : Looked (gap spaced) plain_s (Plain spaced) (plain_r spaced)
  plain_looked = looked_iff (λ at s v at' t x. (plain_same spaced).from x) (λ at s v at' t x. (plain_same spaced).to x) spanned_looked

-- THE PROMISES
pub plain_exact : (spaced : Bool) → Exact 1 (Plain spaced) (bar (NumberOn spaced)) (plain_r spaced)
plain_exact spaced = (plain_looked spaced).exact

pub plain_begun : (spaced : Bool) (at : ℕ) (s : List ℕ) (v : Tree) (at' : ℕ) (t : List ℕ) → Plain spaced at s v at' t → Starts (is plain_first) s
plain_begun spaced at s v at' t x = begun_starts plain_s refl ((plain_looked spaced).begun at s v at' t x)

pub plain_ll : Ll plain_s (Plain false) (plain_r false)
plain_ll = to_ll refl (λ t x. x) (plain_looked false)
