-- Worked examples of the stored form and of the spans in it, computed. ⏎ is LF.
use Rattle.std.specs.Prelude.{◌≡◌, refl, List, [], ◌∷◌, ℕ, ◌+◌, ◌*◌, length, take, drop, replicate}
use Rattle.std.proofs.Common.{arith}
use Rattle.language.specs.Kind.{NULL, FALSE, TRUE, INTEGER, FLOAT, STRING, BYTES, ARRAY, OBJECT, KEY}
use Rattle.language.specs.Tree.{unescaped, Tree, leaf, node, none, more, Field, field, array_tree, object_tree, unlined, size, sizes, text_of, rows_of}
use Rattle.stored.specs.Form.{head, widest, parted, cut, content, form, placed, loaded}

abbrev pub scalar : ℕ → List ℕ → Tree
scalar kind s = leaf kind 0 0 (unescaped s)

abbrev key : List ℕ → Tree
key s = scalar KEY s

abbrev array : List Tree → Tree
array ts = array_tree 0 0 ts

abbrev object : List Field → Tree
object fs = object_tree 0 0 fs

-- `[1, 22]⏎`
s₁ : form (array ((scalar INTEGER (49 ∷ [])) ∷ (scalar INTEGER (50 ∷ 50 ∷ [])) ∷ [])) ≡ 8 ∷ 0 ∷ 9 ∷ 4 ∷ 0 ∷ 1 ∷ 49 ∷ 4 ∷ 0 ∷ 2 ∷ 50 ∷ 50 ∷ []
unfolding widest parted cut content
s₁ = refl

-- `false⏎`
s₁₇ : form (scalar FALSE []) ≡ 2 ∷ 0 ∷ 0 ∷ []
unfolding widest parted cut content
s₁₇ = refl

-- a string of 300 bytes: of its length the high byte is 1 and the low byte 44
s₁₈ : take 3 (form (scalar STRING (replicate 300 97))) ≡ 6 ∷ 1 ∷ 44 ∷ []
unfolding widest parted cut content
s₁₈ = refl

-- `""⏎`
s₂ : form (scalar STRING []) ≡ 6 ∷ 0 ∷ 0 ∷ []
unfolding widest parted cut content
s₂ = refl

-- `> #⏎`
s₃ : form (scalar BYTES []) ≡ 7 ∷ 0 ∷ 0 ∷ []
unfolding widest parted cut content
s₃ = refl

-- `"\u{000000}"⏎`
s₄ : form (scalar STRING (0 ∷ [])) ≡ 6 ∷ 0 ∷ 1 ∷ 0 ∷ []
unfolding widest parted cut content
s₄ = refl

-- `.5⏎`
s₅ : form (scalar FLOAT (46 ∷ 53 ∷ [])) ≡ 5 ∷ 0 ∷ 2 ∷ 46 ∷ 53 ∷ []
unfolding widest parted cut content
s₅ = refl

-- `- null⏎`
s₆ : form (array ((scalar NULL []) ∷ [])) ≡ 8 ∷ 0 ∷ 3 ∷ 1 ∷ 0 ∷ 0 ∷ []
unfolding widest parted cut content
s₆ = refl

-- `[{}]⏎`
s₇ : form (array ((object []) ∷ [])) ≡ 8 ∷ 0 ∷ 3 ∷ 9 ∷ 0 ∷ 0 ∷ []
unfolding widest parted cut content
s₇ = refl

-- `- - 5⏎`
s₈ : form (array ((array ((scalar INTEGER (53 ∷ [])) ∷ [])) ∷ [])) ≡ 8 ∷ 0 ∷ 7 ∷ 8 ∷ 0 ∷ 4 ∷ 4 ∷ 0 ∷ 1 ∷ 53 ∷ []
unfolding widest parted cut content
s₈ = refl

-- `a: [null, true]⏎`
s₉ : form (object (field (key (97 ∷ [])) (array ((scalar NULL []) ∷ (scalar TRUE []) ∷ [])) ∷ [])) ≡ 9 ∷ 0 ∷ 13 ∷ 10 ∷ 0 ∷ 1 ∷ 97 ∷ 8 ∷ 0 ∷ 6 ∷ 1 ∷ 0 ∷ 0 ∷ 3 ∷ 0 ∷ 0 ∷ []
unfolding widest parted cut content
s₉ = refl

-- `a: -infinity⏎`
s₁₀ : form (object (field (key (97 ∷ [])) (scalar FLOAT (45 ∷ 105 ∷ 110 ∷ 102 ∷ 105 ∷ 110 ∷ 105 ∷ 116 ∷ 121 ∷ [])) ∷ [])) ≡ 9 ∷ 0 ∷ 16 ∷ 10 ∷ 0 ∷ 1 ∷ 97 ∷ 5 ∷ 0 ∷ 9 ∷ 45 ∷ 105 ∷ 110 ∷ 102 ∷ 105 ∷ 110 ∷ 105 ∷ 116 ∷ 121 ∷ []
unfolding widest parted cut content
s₁₀ = refl

-- `"": 1⏎`
s₁₁ : form (object (field (key []) (scalar INTEGER (49 ∷ [])) ∷ [])) ≡ 9 ∷ 0 ∷ 7 ∷ 10 ∷ 0 ∷ 0 ∷ 4 ∷ 0 ∷ 1 ∷ 49 ∷ []
unfolding widest parted cut content
s₁₁ = refl

-- `{a: [1, 2]}⏎`
s₁₂ : form (object (field (key (97 ∷ [])) (array ((scalar INTEGER (49 ∷ [])) ∷ (scalar INTEGER (50 ∷ [])) ∷ [])) ∷ [])) ≡ 9 ∷ 0 ∷ 15 ∷ 10 ∷ 0 ∷ 1 ∷ 97 ∷ 8 ∷ 0 ∷ 8 ∷ 4 ∷ 0 ∷ 1 ∷ 49 ∷ 4 ∷ 0 ∷ 1 ∷ 50 ∷ []
unfolding widest parted cut content
s₁₂ = refl

-- `a: [{}]  # c⏎b: 1⏎`
s₁₃ : form (object (field (key (97 ∷ [])) (array ((object []) ∷ [])) ∷ field (key (98 ∷ [])) (scalar INTEGER (49 ∷ [])) ∷ [])) ≡ 9 ∷ 0 ∷ 18 ∷ 10 ∷ 0 ∷ 1 ∷ 97 ∷ 8 ∷ 0 ∷ 3 ∷ 9 ∷ 0 ∷ 0 ∷ 10 ∷ 0 ∷ 1 ∷ 98 ∷ 4 ∷ 0 ∷ 1 ∷ 49 ∷ []
unfolding widest parted cut content
s₁₃ = refl

-- `- - {a: 1, b: 2}⏎- 1⏎`
s₁₄ : form (array ((array ((object (field (key (97 ∷ [])) (scalar INTEGER (49 ∷ [])) ∷ field (key (98 ∷ [])) (scalar INTEGER (50 ∷ [])) ∷ [])) ∷ [])) ∷ (scalar INTEGER (49 ∷ [])) ∷ [])) ≡ 8 ∷ 0 ∷ 26 ∷ 8 ∷ 0 ∷ 19 ∷ 9 ∷ 0 ∷ 16 ∷ 10 ∷ 0 ∷ 1 ∷ 97 ∷ 4 ∷ 0 ∷ 1 ∷ 49 ∷ 10 ∷ 0 ∷ 1 ∷ 98 ∷ 4 ∷ 0 ∷ 1 ∷ 50 ∷ 4 ∷ 0 ∷ 1 ∷ 49 ∷ []
unfolding widest parted cut content
s₁₄ = refl

-- `a: <abcd>⏎`
s₁₅ : form (object (field (key (97 ∷ [])) (scalar BYTES (171 ∷ 205 ∷ [])) ∷ [])) ≡ 9 ∷ 0 ∷ 9 ∷ 10 ∷ 0 ∷ 1 ∷ 97 ∷ 7 ∷ 0 ∷ 2 ∷ 171 ∷ 205 ∷ []
unfolding widest parted cut content
s₁₅ = refl

-- `a:⏎  "` U+FEFF `"⏎  "y"⏎`
s₁₆ : form (object (field (key (97 ∷ [])) (scalar STRING (239 ∷ 187 ∷ 191 ∷ 121 ∷ [])) ∷ [])) ≡ 9 ∷ 0 ∷ 11 ∷ 10 ∷ 0 ∷ 1 ∷ 97 ∷ 6 ∷ 0 ∷ 4 ∷ 239 ∷ 187 ∷ 191 ∷ 121 ∷ []
unfolding widest parted cut content
s₁₆ = refl

-- SPANS: of `[1, 22]⏎` the array's field has the places 0 to 12, its elements' 3 to 7 and 7 to 12
p₁ : loaded (array (scalar INTEGER (49 ∷ []) ∷ scalar INTEGER (50 ∷ 50 ∷ []) ∷ []))
    ≡ node ARRAY 0 12 2 (more (leaf INTEGER 3 7 (unescaped (49 ∷ []))) (more (leaf INTEGER 7 12 (unescaped (50 ∷ 50 ∷ []))) none))
unfolding widest parted cut content placed
p₁ = refl

-- .. and so its rows, with 0 for line and column
r₁ : rows_of unlined 0 0 0 (loaded (array (scalar INTEGER (49 ∷ []) ∷ scalar INTEGER (50 ∷ 50 ∷ []) ∷ [])))
    ≡ 8 ∷ 0 ∷ 12 ∷ 0 ∷ 2 ∷ 0 ∷ 3 ∷ 0 ∷ 0 ∷ 4 ∷ 3 ∷ 7 ∷ 0 ∷ 1 ∷ 0 ∷ 2 ∷ 0 ∷ 0 ∷ 4 ∷ 7 ∷ 12 ∷ 1 ∷ 3 ∷ 0 ∷ 3 ∷ 0 ∷ 0 ∷ []
unfolding widest parted cut content placed rows_of size sizes text_of
r₁ = refl

-- a key's field stands before its value's: `a: {}⏎`
p₂ : loaded (object (field (key (97 ∷ [])) (object []) ∷ [])) ≡ node OBJECT 0 10 1 (more (leaf KEY 3 7 (unescaped (97 ∷ []))) (more (node OBJECT 7 10 0 none) none))
unfolding widest parted cut content placed
p₂ = refl

-- BORDERS: a string of 65,535 bytes is one field
b₁ : take 4 (form (scalar STRING (replicate 65535 97))) ≡ 6 ∷ 255 ∷ 255 ∷ 97 ∷ []
unfolding widest parted cut content
b₁ = refl

-- one byte more: a part, and a field of one byte
b₂ : drop 65538 (form (scalar STRING (replicate 65536 97))) ≡ 6 ∷ 0 ∷ 1 ∷ 97 ∷ []
unfolding widest parted cut content
b₂ = refl

-- an array of 65,537 bytes, cut in the head of its second element: `["aa…", 7]⏎` with 65,530 times `a`. The cut counts in that element's span
abbrev across : Tree
across = array (scalar STRING (replicate 65530 97) ∷ scalar INTEGER (55 ∷ []) ∷ [])

b₅ : drop 65536 (form across) ≡ 4 ∷ 0 ∷ 8 ∷ 0 ∷ 2 ∷ 1 ∷ 55 ∷ []
unfolding widest parted cut content
b₅ = refl

b₆ : loaded across ≡ node ARRAY 0 65543 2 (more (leaf STRING 3 65536 (unescaped (replicate 65530 97))) (more (leaf INTEGER 65536 65543 (unescaped (55 ∷ []))) none))
unfolding widest parted cut content placed
b₆ = refl

-- one that is cut just behind its first element, of 65,532 bytes: the cut counts in neither span
abbrev between : Tree
between = array (scalar STRING (replicate 65532 97) ∷ scalar NULL [] ∷ [])

b₇ : loaded between ≡ node ARRAY 0 65544 2 (more (leaf STRING 3 65538 (unescaped (replicate 65532 97))) (more (leaf NULL 65541 65544 (unescaped [])) none))
unfolding widest parted cut content placed
b₇ = refl

-- PARTS IN PARTS: an object of one key with 65,536 times `a`. The key has a part and an end of one byte, and the object is cut inside the key's part, 3 bytes before its end
abbrev long_key : Tree
long_key = object (field (key (replicate 65536 97)) (scalar NULL []) ∷ [])

b₈ : take 7 (form long_key) ≡ 11 ∷ 255 ∷ 255 ∷ 11 ∷ 255 ∷ 255 ∷ 97 ∷ []
unfolding widest parted cut content
b₈ = refl

b₉ : drop 65538 (form long_key) ≡ 9 ∷ 0 ∷ 10 ∷ 97 ∷ 97 ∷ 97 ∷ 10 ∷ 0 ∷ 1 ∷ 97 ∷ 1 ∷ 0 ∷ 0 ∷ []
unfolding widest parted cut content
b₉ = refl

b₁₀ : loaded long_key ≡ node OBJECT 0 65551 1 (more (leaf KEY 3 65548 (unescaped (replicate 65536 97))) (more (leaf NULL 65548 65551 (unescaped [])) none))
unfolding widest parted cut content placed
b₁₀ = refl
