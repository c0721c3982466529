-- WORKED EXAMPLES: a keyword or number and a line feed, and what is answered. Assumes nothing.
use Rattle.std.specs.Prelude.{◌≡◌, refl, List, [], ◌∷◌, Bool, true, false, ℕ}
use Rattle.exact.specs.Verdict.{Res, acc, stop}
use Rattle.exact.specs.Class.{is, only}
use Rattle.exact.specs.Out.{finish}
use Rattle.exact.specs.Lang.{ret_r, byte_r, end_r}
use Rattle.exact.specs.Comb.{seq_r}
use Rattle.language.specs.Kind.{NULL, INTEGER, FLOAT}
use Rattle.language.specs.Scalars.{nan_word, infinity_word, plain, minus}
use Rattle.language.specs.Tree.{unescaped, Tree, leaf}
use Rattle.numbers.specs.Digits.{digits_r, more_r}
use Rattle.numbers.specs.Plain.{plain_r, body_r, nan_r, signed_r, unsigned_r, fraction_r, dotted_r, exponent_r, after_r}

answer : Bool → List ℕ → Res Tree
unfolding plain_r body_r nan_r signed_r unsigned_r fraction_r dotted_r exponent_r after_r digits_r more_r plain minus
answer spaced s = finish (seq_r (plain_r spaced) (λ v. seq_r (byte_r (is (only 10))) λ _. ret_r v) 0 s) end_r

data Example : Type 0 where
  ◌gives◌ : List ℕ → Res Tree → Example

infix 20 ◌gives◌
-- the same documents with what is answered
answered : Bool → List Example → List Example
answered spaced [] = []
answered spaced ((s gives r) ∷ es) = (s gives answer spaced s) ∷ answered spaced es

-- READ: `1⏎` `-0⏎` `007⏎` `-00⏎` `-007⏎` `-1 0⏎` `1 2 3⏎` `1.⏎` `.5⏎` `1e5⏎` `1 0.5 5⏎` `-1.e-5⏎` `-infinity⏎` `nan⏎` `null⏎`
read : List Example
read =
    ((49 ∷ 10 ∷ []) gives acc (leaf INTEGER 0 1 (unescaped (49 ∷ []))))
    ∷ ((45 ∷ 48 ∷ 10 ∷ []) gives acc (leaf INTEGER 0 2 (unescaped (48 ∷ []))))
    ∷ ((48 ∷ 48 ∷ 55 ∷ 10 ∷ []) gives acc (leaf INTEGER 0 3 (unescaped (55 ∷ []))))
    ∷ ((45 ∷ 48 ∷ 48 ∷ 10 ∷ []) gives acc (leaf INTEGER 0 3 (unescaped (48 ∷ []))))
    ∷ ((45 ∷ 48 ∷ 48 ∷ 55 ∷ 10 ∷ []) gives acc (leaf INTEGER 0 4 (unescaped (45 ∷ 55 ∷ []))))
    ∷ ((45 ∷ 49 ∷ 32 ∷ 48 ∷ 10 ∷ []) gives acc (leaf INTEGER 0 4 (unescaped (45 ∷ 49 ∷ 48 ∷ []))))
    ∷ ((49 ∷ 32 ∷ 50 ∷ 32 ∷ 51 ∷ 10 ∷ []) gives acc (leaf INTEGER 0 5 (unescaped (49 ∷ 50 ∷ 51 ∷ []))))
    ∷ ((49 ∷ 46 ∷ 10 ∷ []) gives acc (leaf FLOAT 0 2 (unescaped (49 ∷ 46 ∷ []))))
    ∷ ((46 ∷ 53 ∷ 10 ∷ []) gives acc (leaf FLOAT 0 2 (unescaped (46 ∷ 53 ∷ []))))
    ∷ ((49 ∷ 101 ∷ 53 ∷ 10 ∷ []) gives acc (leaf FLOAT 0 3 (unescaped (49 ∷ 101 ∷ 53 ∷ []))))
    ∷ ((49 ∷ 32 ∷ 48 ∷ 46 ∷ 53 ∷ 32 ∷ 53 ∷ 10 ∷ []) gives acc (leaf FLOAT 0 7 (unescaped (49 ∷ 48 ∷ 46 ∷ 53 ∷ 53 ∷ []))))
    ∷ ((45 ∷ 49 ∷ 46 ∷ 101 ∷ 45 ∷ 53 ∷ 10 ∷ []) gives acc (leaf FLOAT 0 6 (unescaped (45 ∷ 49 ∷ 46 ∷ 101 ∷ 45 ∷ 53 ∷ []))))
    ∷ ((45 ∷ 105 ∷ 110 ∷ 102 ∷ 105 ∷ 110 ∷ 105 ∷ 116 ∷ 121 ∷ 10 ∷ []) gives acc (leaf FLOAT 0 9 (unescaped (45 ∷ infinity_word))))
    ∷ ((110 ∷ 97 ∷ 110 ∷ 10 ∷ []) gives acc (leaf FLOAT 0 3 (unescaped nan_word)))
    ∷ ((110 ∷ 117 ∷ 108 ∷ 108 ∷ 10 ∷ []) gives acc (leaf NULL 0 4 (unescaped [])))
    ∷ []

read_right : answered true read ≡ read
unfolding answered answer read
read_right = refl

-- REFUSED: `1 ⏎` `1  2⏎` `1 e1⏎` `1e⏎` `1e 1⏎` `1. 5⏎` `1e5.5⏎` `-⏎` `- 1⏎` `-inf⏎` `nulls⏎` `nul⏎` `t⏎` `n` `1` `1 ` `.⏎` `1_0⏎`
refused : List Example
refused =
    ((49 ∷ 32 ∷ 10 ∷ []) gives stop 2)
    ∷ ((49 ∷ 32 ∷ 32 ∷ 50 ∷ 10 ∷ []) gives stop 2)
    ∷ ((49 ∷ 32 ∷ 101 ∷ 49 ∷ 10 ∷ []) gives stop 2)
    ∷ ((49 ∷ 101 ∷ 10 ∷ []) gives stop 2)
    ∷ ((49 ∷ 101 ∷ 32 ∷ 49 ∷ 10 ∷ []) gives stop 2)
    ∷ ((49 ∷ 46 ∷ 32 ∷ 53 ∷ 10 ∷ []) gives stop 2)
    ∷ ((49 ∷ 101 ∷ 53 ∷ 46 ∷ 53 ∷ 10 ∷ []) gives stop 3)
    ∷ ((45 ∷ 10 ∷ []) gives stop 1)
    ∷ ((45 ∷ 32 ∷ 49 ∷ 10 ∷ []) gives stop 1)
    ∷ ((45 ∷ 105 ∷ 110 ∷ 102 ∷ 10 ∷ []) gives stop 4)
    ∷ ((110 ∷ 117 ∷ 108 ∷ 108 ∷ 115 ∷ 10 ∷ []) gives stop 4)
    ∷ ((110 ∷ 117 ∷ 108 ∷ 10 ∷ []) gives stop 3)
    ∷ ((116 ∷ 10 ∷ []) gives stop 1)
    ∷ ((110 ∷ []) gives stop 1)
    ∷ ((49 ∷ []) gives stop 1)
    ∷ ((49 ∷ 32 ∷ []) gives stop 2)
    ∷ ((46 ∷ 10 ∷ []) gives stop 1)
    ∷ ((49 ∷ 95 ∷ 48 ∷ 10 ∷ []) gives stop 1)
    ∷ []

refused_right : answered true refused ≡ refused
unfolding answered answer refused
refused_right = refl

-- inside `[` and `{` no space stands between digits: `1 2⏎`
inside_right : answer false (49 ∷ 32 ∷ 50 ∷ 10 ∷ []) ≡ stop 1
unfolding answer
inside_right = refl
