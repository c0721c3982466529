-- The reader of keywords and numbers goes beyond each of its first bytes, and refuses at once what begins with another. Assumes nothing.
use Rattle.std.specs.Prelude.{◌≡◌, List, [], ◌∷◌, ◌++◌, Bool, true, false, ℕ}
use Rattle.std.proofs.Math.Path.{refl}
use Rattle.std.proofs.Common.{ap}
use Rattle.exact.specs.Class.{clash, Class, is, only, sub, inside, left, right}
use Rattle.exact.specs.Out.{Reader, bind, Tame}
use Rattle.exact.specs.Lang.{ret_r, ret_exact, byte_r}
use Rattle.exact.specs.Comb.{seq_r, seq_tame, alt_r, alt_tame}
use Rattle.exact.specs.Ll.{here_r, here_ll, word_ll}
use Rattle.exact.specs.More.{tame_any, Goes, byte_goes, seq_goes, here_goes, alt_goes, Shuts}
use Rattle.language.specs.Kind.{NULL, FALSE, TRUE, FLOAT}
use Rattle.language.specs.Scalars.{nan_word, infinity_word, digit}
use Rattle.numbers.specs.Digits.{digits_r, more_tame, digits_looked}
use Rattle.numbers.specs.Same.{found, leaf_of}
use Rattle.numbers.specs.Plain.{said_r, one_r, fraction_r, unsigned_r, nan_r, signed_r, body_r, plain_r, plain_first, power_looked, after_looked, unsigned_looked}

-- SHUTS: the combinators keep it
is_false : (c d : Class) (b : ℕ) → (is c b ≡ true → is d b ≡ true) → is d b ≡ false → is c b ≡ false
is_false c d b h e = go (is c b) refl
  where
    go : (x : Bool) → is c b ≡ x → is c b ≡ false
    go true z = absurd (clash (h z) e)
    go false z = z

pub shuts_inside : {X : Type 0} {c : Class} (d : Class) {r : Reader X} → sub c d ≡ true → Shuts c r → Shuts d r
shuts_inside {c = c} d h o = record { not = λ at b s e. o.not at b s (is_false c d b (inside c d b h) e); at_none = o.at_none }

pub byte_shuts : (c : Class) → Shuts c (byte_r (is c))
byte_shuts c = record { not = λ at b s e. rw e refl; at_none = λ at. refl }

pub seq_shuts : {X Y : Type 0} {c : Class} {r : Reader X} (q : X → Reader Y) → Shuts c r → Shuts c (seq_r r q)
seq_shuts q o = record { not = λ at b s e. ap (λ x. bind x q) (o.not at b s e); at_none = λ at. ap (λ x. bind x q) (o.at_none at) }

pub here_shuts : {X : Type 0} {c : Class} {q : ℕ → Reader X} → ((a : ℕ) → Shuts c (q a)) → Shuts c (seq_r here_r q)
here_shuts o = record { not = λ at. (o at).not at; at_none = λ at. (o at).at_none at }

pub alt_shuts : {X : Type 0} {c d : Class} {r q : Reader X} → Shuts c r → Shuts d q → Shuts (c ++ d) (alt_r (is c) r q)
alt_shuts {c = c} {d} {r} {q} x y =
    record { not = λ at b s e. rw (is_false c (c ++ d) b (left c d b) e) (y.not at b s (is_false d (c ++ d) b (right c d b) e)); at_none = y.at_none }

module _ (spaced : Bool) where
  unsigned_shuts : (m : List ℕ) → Shuts (only 46 ++ digit) (unsigned_r spaced m)
  unfolding unsigned_r fraction_r digits_r
  unsigned_shuts m = alt_shuts (seq_shuts _ (seq_shuts _ (byte_shuts (only 46)))) (seq_shuts _ (seq_shuts _ (byte_shuts digit)))

  body_shuts : Shuts plain_first (body_r spaced)
  unfolding body_r nan_r signed_r
  body_shuts =
      shuts_inside
      plain_first
      refl
      (alt_shuts (seq_shuts _ (byte_shuts (only 110)))
      (alt_shuts (seq_shuts _ (seq_shuts _ (byte_shuts (only 116))))
      (alt_shuts (seq_shuts _ (seq_shuts _ (byte_shuts (only 102))))
      (alt_shuts (seq_shuts _ (seq_shuts _ (byte_shuts (only 105)))) (alt_shuts (seq_shuts _ (seq_shuts _ (byte_shuts (only 45)))) (unsigned_shuts []))))))

  pub plain_shuts : Shuts plain_first (plain_r spaced)
  unfolding plain_r
  plain_shuts = here_shuts λ a. seq_shuts _ body_shuts

-- GOES
goes_inside : {X : Type 0} {d : Class} (c : Class) {r : Reader X} → sub c d ≡ true → Goes d r → Goes c r
goes_inside {d = d} c h o = record { goes = λ at b s e. o.goes at b s (inside c d b h e) }

ret_tame : {X : Type 0} (v : X) → Tame 0 (ret_r v)
ret_tame v = (ret_exact v).moves

said_tame : (kind : ℕ) (word text : List ℕ) → Tame 0 (said_r kind word text)
said_tame kind word text = tame_any (seq_tame (word_ll word).exact.moves λ _. ret_tame (found kind text))

said_goes : (kind : ℕ) (b : ℕ) (bs text : List ℕ) → Goes (only b) (said_r kind (b ∷ bs) text)
said_goes kind b bs text = seq_goes (λ _. ret_tame (found kind text)) (seq_goes (λ _. (word_ll bs).exact.moves) (byte_goes (only b)))

one_goes : (c : Class) → Goes c (one_r c)
one_goes c = seq_goes (λ b. ret_tame (b ∷ [])) (byte_goes c)

module _ (spaced : Bool) where
  unsigned_goes : (m : List ℕ) → Goes (only 46 ++ digit) (unsigned_r spaced m)
  unfolding unsigned_r fraction_r digits_r
  unsigned_goes m =
      alt_goes
      (seq_goes
      (λ p. seq_tame (digits_looked spaced).exact.moves λ fs. seq_tame (power_looked spaced).exact.moves λ x. ret_tame (found FLOAT (m ++ ((p ++ fs) ++ x))))
      (one_goes (only 46)))
      (seq_goes (λ ds. (after_looked spaced m ds).exact.moves) (seq_goes (λ d. seq_tame (more_tame spaced) λ ds. ret_tame (d ∷ ds)) (byte_goes digit)))

  body_goes : Goes plain_first (body_r spaced)
  unfolding body_r nan_r signed_r
  body_goes =
      goes_inside
      plain_first
      refl
      (alt_goes (seq_goes (λ _. behind_n) (byte_goes (only 110)))
      (alt_goes (said_goes TRUE 116 (114 ∷ 117 ∷ 101 ∷ []) [])
      (alt_goes (said_goes FALSE 102 (97 ∷ 108 ∷ 115 ∷ 101 ∷ []) [])
      (alt_goes (said_goes FLOAT 105 (110 ∷ 102 ∷ 105 ∷ 110 ∷ 105 ∷ 116 ∷ 121 ∷ []) infinity_word) (alt_goes (seq_goes (λ m. behind_sign m) (one_goes (only 45))) (unsigned_goes []))))))
    where
      behind_n : Tame 0 (alt_r (is (only 97)) (said_r FLOAT (97 ∷ 110 ∷ []) nan_word) (said_r NULL (117 ∷ 108 ∷ 108 ∷ []) []))
      behind_n = alt_tame (is (only 97)) (said_tame FLOAT (97 ∷ 110 ∷ []) nan_word) (said_tame NULL (117 ∷ 108 ∷ 108 ∷ []) [])

      behind_sign : (m : List ℕ) → Tame 0 (alt_r (is (only 105)) (said_r FLOAT infinity_word (45 ∷ infinity_word)) (unsigned_r spaced m))
      behind_sign m = alt_tame (is (only 105)) (said_tame FLOAT infinity_word (45 ∷ infinity_word)) (tame_any (unsigned_looked spaced m).exact.moves)

  pub plain_goes : Goes plain_first (plain_r spaced)
  unfolding plain_r
  plain_goes = here_goes λ a. seq_goes (λ f. seq_tame here_ll.exact.moves λ e. ret_tame (leaf_of a e f)) body_goes
