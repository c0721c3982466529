-- Worked examples of overlays, computed: the lower, the upper, and what they give.
use Rattle.std.specs.Prelude.{◌≡◌, refl, List, [], ◌∷◌, ℕ}
use Rattle.language.specs.Kind.{NULL, INTEGER, KEY}
use Rattle.language.specs.Tree.{unescaped, escaped, Tree, leaf, Field, field, array_tree, object_tree, text_of}
use Rattle.language.specs.Alike.{unspan}
use Rattle.overlay.specs.Overlay.{pairs_of, same, value_of, new_ones, Laid, laid, clash, lay, overlay}

unfoldable given : Tree → Tree → Laid
unfolding overlay lay pairs_of same value_of new_ones unspan text_of
given lower upper = overlay lower upper

-- the keys `a`, `b`, `c`; the integers of one digit; `null`
abbrev pub key : ℕ → Tree
key b = leaf KEY 0 0 (unescaped (b ∷ []))

abbrev pub a : Tree → Field
a v = field (key 97) v

abbrev pub b : Tree → Field
b v = field (key 98) v

abbrev pub c : Tree → Field
c v = field (key 99) v

abbrev pub digit : ℕ → Tree
digit n = leaf INTEGER 0 0 (unescaped (n ∷ []))

abbrev pub null : Tree
null = leaf NULL 0 0 (unescaped [])

abbrev pub array : List Tree → Tree
array ts = array_tree 0 0 ts

abbrev pub object : List Field → Tree
object fs = object_tree 0 0 fs

-- "Keys keep the lower's order, then the upper's new ones": `{a: 1, b: 2}` and `{c: 3, b: 4}` give `{a: 1, b: 4, c: 3}`
o₁ : given (object (a (digit 49) ∷ b (digit 50) ∷ [])) (object (c (digit 51) ∷ b (digit 52) ∷ [])) ≡ laid (object (a (digit 49) ∷ b (digit 52) ∷ c (digit 51) ∷ []))
unfolding given
o₁ = refl

-- "objects are laid over each other in the same way": `{a: {a: 1, b: 2}}` and `{a: {b: 3, c: 4}}` give `{a: {a: 1, b: 3, c: 4}}`
o₂ : given (object (a (object (a (digit 49) ∷ b (digit 50) ∷ [])) ∷ [])) (object (a (object (b (digit 51) ∷ c (digit 52) ∷ [])) ∷ []))
    ≡ laid (object (a (object (a (digit 49) ∷ b (digit 51) ∷ c (digit 52) ∷ [])) ∷ []))
unfolding given
o₂ = refl

-- "two others are answered by the upper", arrays among them: `{a: [1, 2]}` and `{a: [3]}` give `{a: [3]}`, and `{a: 1}` and `{a: [{}]}` give `{a: [{}]}`
o₃ : given (object (a (array (digit 49 ∷ digit 50 ∷ [])) ∷ [])) (object (a (array (digit 51 ∷ [])) ∷ [])) ≡ laid (object (a (array (digit 51 ∷ [])) ∷ []))
unfolding given
o₃ = refl

o₄ : given (object (a (digit 49) ∷ [])) (object (a (array (object [] ∷ [])) ∷ [])) ≡ laid (object (a (array (object [] ∷ [])) ∷ []))
unfolding given
o₄ = refl

-- objects inside arrays are never looked into: `{a: [{b: 1}]}` and `{a: [{c: 2}]}` give `{a: [{c: 2}]}`, and `{a: [{}]}` and `{a: [1]}` do not clash
o₅ : given (object (a (array (object (b (digit 49) ∷ []) ∷ [])) ∷ [])) (object (a (array (object (c (digit 50) ∷ []) ∷ [])) ∷ []))
    ≡ laid (object (a (array (object (c (digit 50) ∷ []) ∷ [])) ∷ []))
unfolding given
o₅ = refl

o₆ : given (object (a (array (object [] ∷ [])) ∷ [])) (object (a (array (digit 49 ∷ [])) ∷ [])) ≡ laid (object (a (array (digit 49 ∷ [])) ∷ []))
unfolding given
o₆ = refl

-- "one object against one other value": `{a: {b: 1}}` and `{a: null}`; `{a: 1}` and `{a: {}}`; `{a: {}}` and `{a: []}`; two levels down too
o₇ : given (object (a (object (b (digit 49) ∷ [])) ∷ [])) (object (a null ∷ [])) ≡ clash
unfolding given
o₇ = refl

o₈ : given (object (a (digit 49) ∷ [])) (object (a (object []) ∷ [])) ≡ clash
unfolding given
o₈ = refl

o₉ : given (object (a (object []) ∷ [])) (object (a (array []) ∷ [])) ≡ clash
unfolding given
o₉ = refl

o₁₀ : given (object (b (digit 49) ∷ a (object (b (digit 50) ∷ c (object []) ∷ [])) ∷ [])) (object (a (object (c null ∷ [])) ∷ b (digit 51) ∷ [])) ≡ clash
unfolding given
o₁₀ = refl

-- keys are compared decoded, and spans and escapes are not kept: `{a: 1}` and `{"\u{61}": 2}` give `{a: 2}`
o₁₁ : given (object_tree 3 9 (field (leaf KEY 4 5 (unescaped (97 ∷ []))) (leaf INTEGER 7 8 (unescaped (49 ∷ []))) ∷ []))
    (object_tree 0 15 (field (leaf KEY 1 11 (escaped (97 ∷ []))) (leaf INTEGER 13 14 (unescaped (50 ∷ []))) ∷ []))
    ≡ laid (object (a (digit 50) ∷ []))
unfolding given
o₁₁ = refl

-- `{}` and `{a: 1}` give `{a: 1}`, either way round
o₁₂ : given (object []) (object (a (digit 49) ∷ [])) ≡ laid (object (a (digit 49) ∷ []))
unfolding given
o₁₂ = refl

o₁₃ : given (object (a (digit 49) ∷ [])) (object []) ≡ laid (object (a (digit 49) ∷ []))
unfolding given
o₁₃ = refl
