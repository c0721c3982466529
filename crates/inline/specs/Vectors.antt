-- Worked examples, computed by the readers: a value and a line feed, with their trees, the places of refusal, and what the allowance does.
use Rattle.std.specs.Prelude.{◌≡◌, refl, List, [], ◌∷◌, true, ℕ}
use Rattle.language.specs.Kind.{INTEGER, FLOAT, STRING, BYTES, KEY}
use Rattle.language.specs.Scalars.{plain, minus}
use Rattle.language.specs.Strings.{hex_number}
use Rattle.language.specs.Tree.{unescaped, escaped, Tree, leaf, field, array_tree, object_tree}
use Rattle.exact.specs.Verdict.{Res, acc, stop}
use Rattle.exact.specs.Class.{is, only}
use Rattle.exact.specs.Out.{finish}
use Rattle.exact.specs.Lang.{ret_r, byte_r, end_r}
use Rattle.exact.specs.Comb.{seq_r}
use Rattle.numbers.specs.Digits.{digits_r, more_r}
use Rattle.numbers.specs.Plain.{plain_r, body_r, nan_r, signed_r, unsigned_r, fraction_r, dotted_r, exponent_r, after_r}
use Rattle.strings.specs.Spans.{spanned_r}
use Rattle.strings.specs.Quoted.{escape_r, single_escape_r, between_r, quoted_r, string_r}
use Rattle.strings.specs.Keys.{bare_r, name_r, key_r}
use Rattle.strings.specs.Bytes.{pair_r, further_r, inside_r, angled_r, inline_bytes_r}
use Rattle.inline.specs.Lists.{listed_r, inline_array_r, inline_pair_r, inline_object_r}
use Rattle.inline.specs.Values.{quotes_r, scalar_r, container_r, value_r}

answer : ℕ → List ℕ → Res Tree
unfolding plain_r body_r nan_r signed_r unsigned_r fraction_r dotted_r exponent_r after_r digits_r more_r plain minus spanned_r escape_r single_escape_r between_r quoted_r string_r hex_number bare_r name_r key_r pair_r further_r inside_r angled_r inline_bytes_r listed_r inline_array_r inline_pair_r inline_object_r quotes_r scalar_r container_r value_r
answer k s = finish (seq_r (value_r true k) (λ v. seq_r (byte_r (is (only 10))) λ _. ret_r v) 0 s) end_r

data Example : Type 0 where
  ◌gives◌ : List ℕ → Res Tree → Example

infix 20 ◌gives◌
-- the same documents with what is answered, two containers allowed
answered : List Example → List Example
answered [] = []
answered ((s gives r) ∷ es) = (s gives answer 2 s) ∷ answered es

-- READ: `[1, 22]⏎` `[{}]⏎` `{a: [1, 2]}⏎` `{a: <ab cd>, "": nan}⏎` `['b', []]⏎` `1 2⏎` `["\n"]⏎`
read : List Example
read =
    ((91 ∷ 49 ∷ 44 ∷ 32 ∷ 50 ∷ 50 ∷ 93 ∷ 10 ∷ []) gives acc (array_tree 0 7 (leaf INTEGER 1 2 (unescaped (49 ∷ [])) ∷ leaf INTEGER 4 6 (unescaped (50 ∷ 50 ∷ [])) ∷ [])))
    ∷ ((91 ∷ 123 ∷ 125 ∷ 93 ∷ 10 ∷ []) gives acc (array_tree 0 4 (object_tree 1 3 [] ∷ [])))
    ∷ ((123 ∷ 97 ∷ 58 ∷ 32 ∷ 91 ∷ 49 ∷ 44 ∷ 32 ∷ 50 ∷ 93 ∷ 125 ∷ 10 ∷ []) gives acc (object_tree 0 11 (field (leaf KEY 1 2 (unescaped (97 ∷ []))) (array_tree 4 10 (leaf INTEGER 5 6 (unescaped (49 ∷ [])) ∷ leaf INTEGER 8 9 (unescaped (50 ∷ [])) ∷ [])) ∷ [])))
    ∷ ((123 ∷ 97 ∷ 58 ∷ 32 ∷ 60 ∷ 97 ∷ 98 ∷ 32 ∷ 99 ∷ 100 ∷ 62 ∷ 44 ∷ 32 ∷ 34 ∷ 34 ∷ 58 ∷ 32 ∷ 110 ∷ 97 ∷ 110 ∷ 125 ∷ 10 ∷ []) gives acc (object_tree 0 21 (field (leaf KEY 1 2 (unescaped (97 ∷ []))) (leaf BYTES 4 11 (unescaped (171 ∷ 205 ∷ []))) ∷ field (leaf KEY 13 15 (unescaped [])) (leaf FLOAT 17 20 (unescaped (110 ∷ 97 ∷ 110 ∷ []))) ∷ [])))
    ∷ ((91 ∷ 39 ∷ 98 ∷ 39 ∷ 44 ∷ 32 ∷ 91 ∷ 93 ∷ 93 ∷ 10 ∷ []) gives acc (array_tree 0 9 (leaf STRING 1 4 (unescaped (98 ∷ [])) ∷ array_tree 6 8 [] ∷ [])))
    ∷ ((49 ∷ 32 ∷ 50 ∷ 10 ∷ []) gives acc (leaf INTEGER 0 3 (unescaped (49 ∷ 50 ∷ []))))
    ∷ ((91 ∷ 34 ∷ 92 ∷ 110 ∷ 34 ∷ 93 ∷ 10 ∷ []) gives acc (array_tree 0 6 (leaf STRING 1 5 (escaped (10 ∷ [])) ∷ [])))
    ∷ []

read_right : answered read ≡ read
unfolding answered answer read
read_right = refl

-- REFUSED: `[1,2]⏎` `[1 , 2]⏎` `[, 1]⏎` `[1, ]⏎` `[1,  2]⏎` `[1 2]⏎` `[1⏎` `[1e5.5]⏎` `[nullx]⏎` `{a : 1}⏎` `{a: 1 }⏎` `[{a:1}]⏎` `{a: {: 1}}⏎` `{a}⏎` `[{ }]⏎` `[`
refused : List Example
refused =
    ((91 ∷ 49 ∷ 44 ∷ 50 ∷ 93 ∷ 10 ∷ []) gives stop 3)
    ∷ ((91 ∷ 49 ∷ 32 ∷ 44 ∷ 32 ∷ 50 ∷ 93 ∷ 10 ∷ []) gives stop 2)
    ∷ ((91 ∷ 44 ∷ 32 ∷ 49 ∷ 93 ∷ 10 ∷ []) gives stop 1)
    ∷ ((91 ∷ 49 ∷ 44 ∷ 32 ∷ 93 ∷ 10 ∷ []) gives stop 4)
    ∷ ((91 ∷ 49 ∷ 44 ∷ 32 ∷ 32 ∷ 50 ∷ 93 ∷ 10 ∷ []) gives stop 4)
    ∷ ((91 ∷ 49 ∷ 32 ∷ 50 ∷ 93 ∷ 10 ∷ []) gives stop 2)
    ∷ ((91 ∷ 49 ∷ 10 ∷ []) gives stop 2)
    ∷ ((91 ∷ 49 ∷ 101 ∷ 53 ∷ 46 ∷ 53 ∷ 93 ∷ 10 ∷ []) gives stop 4)
    ∷ ((91 ∷ 110 ∷ 117 ∷ 108 ∷ 108 ∷ 120 ∷ 93 ∷ 10 ∷ []) gives stop 5)
    ∷ ((123 ∷ 97 ∷ 32 ∷ 58 ∷ 32 ∷ 49 ∷ 125 ∷ 10 ∷ []) gives stop 2)
    ∷ ((123 ∷ 97 ∷ 58 ∷ 32 ∷ 49 ∷ 32 ∷ 125 ∷ 10 ∷ []) gives stop 5)
    ∷ ((91 ∷ 123 ∷ 97 ∷ 58 ∷ 49 ∷ 125 ∷ 93 ∷ 10 ∷ []) gives stop 4)
    ∷ ((123 ∷ 97 ∷ 58 ∷ 32 ∷ 123 ∷ 58 ∷ 32 ∷ 49 ∷ 125 ∷ 125 ∷ 10 ∷ []) gives stop 5)
    ∷ ((123 ∷ 97 ∷ 125 ∷ 10 ∷ []) gives stop 2)
    ∷ ((91 ∷ 123 ∷ 32 ∷ 125 ∷ 93 ∷ 10 ∷ []) gives stop 2)
    ∷ ((91 ∷ []) gives stop 1)
    ∷ []

refused_right : answered refused ≡ refused
unfolding answered answer refused
refused_right = refl

-- `[[]]⏎` is refused at its second bracket where one container is allowed, and at its first where none is
one_right : answer 1 (91 ∷ 91 ∷ 93 ∷ 93 ∷ 10 ∷ []) ≡ stop 1
unfolding answer
one_right = refl

none_right : answer 0 (91 ∷ 91 ∷ 93 ∷ 93 ∷ 10 ∷ []) ≡ stop 0
unfolding answer
none_right = refl
