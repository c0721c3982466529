-- KEYWORDS AND NUMBERS in their bytes. Assumes nothing.
use Rattle.std.specs.Prelude.{refl, List, [], ◌∷◌, ◌++◌, Bool, true, false, ℕ, suc, ◌+◌, ◌≤◌, ◌<◌, length, eqb}
use Rattle.std.proofs.Common.{arith}
use Rattle.notation.specs.Class.{Class, only, ◌to◌}
use Rattle.language.specs.Kind.{NULL, FALSE, TRUE, INTEGER, FLOAT}
use Rattle.language.specs.Tree.{unescaped, leaf}
use Rattle.language.specs.Scalars.{null_word, true_word, false_word, nan_word, infinity_word, Keyword, Keywords, Further, Digits, One, plain, minus, signed, Integer, Pointed, Exponent, Float, Plain}
use Rattle.spans.specs.Every.{Every, ret_every, here_then, byte_every, byte_then, bind_every, via, map_every, alt_every, word_then}
use Rattle.spans.specs.Formed.{Formed, formed_word, formed_text}
use Rattle.spans.specs.Lies.{Lies}
use Rattle.spans.proofs.LiesLaws.{leaf_lies}
use Rattle.spans.specs.Texts.{Fits, Some, Steps, joined, star_fits, byte_steps, option_fits, pick_le}
use Rattle.spans.specs.Scalars.{digits_some, exponent_fits, one_fits, pointed_some, signed_le}

keyword_lies : (kind : ℕ) (word text : List ℕ) → 0 < length word → length text ≤ length word → ((a e : ℕ) → Formed (leaf kind a e (unescaped text)))
    → (at : ℕ) → Every (Keyword kind word text) at (Lies Formed 0 at)
keyword_lies kind word text h k f at =
    here_then (word_then word (λ m l. here_then (ret_every (leaf_lies (f at m) (omega arith) (omega arith) (omega arith) (omega arith)))))

empty_lies : (kind : ℕ) (word : List ℕ) → 0 < length word → NULL ≤ kind → kind ≤ TRUE → (at : ℕ) → Every (Keyword kind word []) at (Lies Formed 0 at)
empty_lies kind word h k l = keyword_lies kind word [] h (omega arith) (λ a e. formed_word k l refl)

float_word_lies : (word : List ℕ) → 0 < length word → (at : ℕ) → Every (Keyword FLOAT word word) at (Lies Formed 0 at)
float_word_lies word h = keyword_lies FLOAT word word h (omega arith) (λ a e. formed_text (omega arith) (omega arith))

keywords_lies : (at : ℕ) → Every Keywords at (Lies Formed 0 at)
keywords_lies at =
    alt_every
    (alt_every
    (empty_lies NULL null_word (omega arith) (omega arith) (omega arith) at)
    (alt_every (empty_lies TRUE true_word (omega arith) (omega arith) (omega arith) at) (empty_lies FALSE false_word (omega arith) (omega arith) (omega arith) at)))
    (alt_every
    (float_word_lies nan_word (omega arith) at)
    (alt_every (float_word_lies infinity_word (omega arith) at) (float_word_lies (45 ∷ infinity_word) (omega arith) at)))

integer_lies : (spaced : Bool) (at : ℕ) → Every (Integer spaced) at (Lies Formed 0 at)
integer_lies spaced at =
    here_then
    (bind_every
    (option_fits at (one_fits (only 45) at))
    (λ m n h. bind_every (digits_some spaced n) (λ ds e k. here_then (ret_every (by m ds e h k.0 k.1)))))
  where
    by : {n : ℕ} (m ds : List ℕ) (e : ℕ) → Fits at m n → Fits n ds e → n < e → Lies Formed 0 at (leaf INTEGER at e (unescaped (signed m ds))) e
    by m ds e h k l = let q = signed_le m ds in leaf_lies (formed_text (omega arith) (omega arith)) (omega arith) (omega arith) (omega arith) (omega arith)

float_lies : (spaced : Bool) (at : ℕ) → Every (Float spaced) at (Lies Formed 0 at)
float_lies spaced at =
    here_then
    (bind_every
    (option_fits at (one_fits (only 45) at))
    (λ m n h. bind_every
    {P = Some n}
    (alt_every
    (bind_every (pointed_some spaced n) (λ p o k. bind_every (option_fits o (exponent_fits spaced o)) (λ x e l. ret_every (two p x k.0 k.1 l))))
    (bind_every (digits_some spaced n) (λ p o k. bind_every (exponent_fits spaced o) (λ x e l. ret_every (two p x k.0 k.1 l)))))
    (λ w e k. here_then (ret_every (by m w e h k.0 k.1)))))
  where
    two : {n m e : ℕ} (p x : List ℕ) → Fits n p m → n < m → Fits m x e → Some n (p ++ x) e
    two p x h k l = let y = joined p x in (omega arith, omega arith)

    by : {n : ℕ} (m w : List ℕ) (e : ℕ) → Fits at m n → Fits n w e → n < e → Lies Formed 0 at (leaf FLOAT at e (unescaped (m ++ w))) e
    by m w e h k l = let q = joined m w in leaf_lies (formed_text (omega arith) (omega arith)) (omega arith) (omega arith) (omega arith) (omega arith)

pub plain_lies : (spaced : Bool) (at : ℕ) → Every (Plain spaced) at (Lies Formed 0 at)
plain_lies spaced at = alt_every (keywords_lies at) (alt_every (integer_lies spaced at) (float_lies spaced at))
