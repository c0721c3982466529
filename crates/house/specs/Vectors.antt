-- Worked examples of the house style, computed. ⏎ is LF.
use Rattle.std.specs.Prelude.{◌≡◌, refl, List, [], ◌∷◌, ℕ}
use Rattle.language.specs.Kind.{NULL, INTEGER, STRING, BYTES, KEY}
use Rattle.language.specs.Tree.{unescaped, Tree, leaf, Field, field, array_tree, object_tree}
use Rattle.language.specs.House
use Rattle.language.specs.House.{house, inline, inlines, block, items, properties, shown, shown_text, hexes, keybytes, hex_pairs}

abbrev scalar : ℕ → List ℕ → Tree
scalar kind s = leaf kind 0 0 (unescaped s)

abbrev integer : List ℕ → Tree
integer s = scalar INTEGER s

abbrev key : List ℕ → Tree
key s = scalar KEY s

abbrev array : List Tree → Tree
array ts = array_tree 0 0 ts

abbrev object : List Field → Tree
object fs = object_tree 0 0 fs

unfoldable written : Tree → List ℕ
unfolding house inline inlines block items properties House.scalar_text shown shown_text hexes keybytes hex_pairs
written t = house t

-- an array as a value is a block below its key, in an object of an array too: `- b:⏎    - 1⏎`
w₁ : written (array (object (field (key (98 ∷ [])) (array (integer (49 ∷ []) ∷ [])) ∷ []) ∷ []))
    ≡ 45 ∷ 32 ∷ 98 ∷ 58 ∷ 10 ∷ 32 ∷ 32 ∷ 32 ∷ 32 ∷ 45 ∷ 32 ∷ 49 ∷ 10 ∷ []
unfolding written
w₁ = refl

-- an array in an array is on its line: `- [5]⏎`
w₂ : written (array (array (integer (53 ∷ []) ∷ []) ∷ []))
    ≡ 45 ∷ 32 ∷ 91 ∷ 53 ∷ 93 ∷ 10 ∷ []
unfolding written
w₂ = refl

-- .. with all that is below it: `- [1, {a: [2], "b c": {}}]⏎`
w₃ : written (array (array (integer (49 ∷ []) ∷ object (field (key (97 ∷ [])) (array (integer (50 ∷ []) ∷ [])) ∷ field (key (98 ∷ 32 ∷ 99 ∷ [])) (object []) ∷ []) ∷ []) ∷ []))
    ≡ 45 ∷ 32 ∷ 91 ∷ 49 ∷ 44 ∷ 32 ∷ 123 ∷ 97 ∷ 58 ∷ 32 ∷ 91 ∷ 50 ∷ 93 ∷ 44 ∷ 32 ∷ 34 ∷ 98 ∷ 32 ∷ 99 ∷ 34 ∷ 58 ∷ 32 ∷ 123 ∷ 125 ∷ 125 ∷ 93 ∷ 10 ∷ []
unfolding written
w₃ = refl

-- an object in an array begins behind the dash: `- a: 1⏎  b: 2⏎`
w₄ : written (array (object (field (key (97 ∷ [])) (integer (49 ∷ [])) ∷ field (key (98 ∷ [])) (integer (50 ∷ [])) ∷ []) ∷ []))
    ≡ 45 ∷ 32 ∷ 97 ∷ 58 ∷ 32 ∷ 49 ∷ 10 ∷ 32 ∷ 32 ∷ 98 ∷ 58 ∷ 32 ∷ 50 ∷ 10 ∷ []
unfolding written
w₄ = refl

-- blocks in blocks: `a:⏎  b:⏎    c: 1⏎  d: []⏎`
w₅ : written (object (field (key (97 ∷ [])) (object (field (key (98 ∷ [])) (object (field (key (99 ∷ [])) (integer (49 ∷ [])) ∷ [])) ∷ field (key (100 ∷ [])) (array []) ∷ [])) ∷ []))
    ≡ 97 ∷ 58 ∷ 10 ∷ 32 ∷ 32 ∷ 98 ∷ 58 ∷ 10 ∷ 32 ∷ 32 ∷ 32 ∷ 32 ∷ 99 ∷ 58 ∷ 32 ∷ 49 ∷ 10 ∷ 32 ∷ 32 ∷ 100 ∷ 58 ∷ 32 ∷ 91 ∷ 93 ∷ 10 ∷ []
unfolding written
w₅ = refl

-- empty at the root: `{}⏎`
w₆ : written (object [])
    ≡ 123 ∷ 125 ∷ 10 ∷ []
unfolding written
w₆ = refl

-- keys: unspan where they may be, as `- -: 1⏎`
w₇ : written (array (object (field (key (45 ∷ [])) (integer (49 ∷ [])) ∷ []) ∷ []))
    ≡ 45 ∷ 32 ∷ 45 ∷ 58 ∷ 32 ∷ 49 ∷ 10 ∷ []
unfolding written
w₇ = refl

-- .. and the empty key: `"": null⏎`
w₈ : written (object (field (key []) (scalar NULL []) ∷ []))
    ≡ 34 ∷ 34 ∷ 58 ∷ 32 ∷ 110 ∷ 117 ∷ 108 ∷ 108 ∷ 10 ∷ []
unfolding written
w₈ = refl

-- `"\"\\\b\f\n\r\t/'"⏎`
w₉ : written (scalar STRING (34 ∷ 92 ∷ 8 ∷ 12 ∷ 10 ∷ 13 ∷ 9 ∷ 47 ∷ 39 ∷ []))
    ≡ 34 ∷ 92 ∷ 34 ∷ 92 ∷ 92 ∷ 92 ∷ 98 ∷ 92 ∷ 102 ∷ 92 ∷ 110 ∷ 92 ∷ 114 ∷ 92 ∷ 116 ∷ 47 ∷ 39 ∷ 34 ∷ 10 ∷ []
unfolding written
w₉ = refl

-- characters that no document has, and beside them U+00A0 and U+FEFF, which stand as they are: `"\u{0}\u{7f}\u{fdd0}\u{10ffff}"`
w₁₀ : written (scalar STRING (0 ∷ 127 ∷ 239 ∷ 183 ∷ 144 ∷ 244 ∷ 143 ∷ 191 ∷ 191 ∷ 194 ∷ 160 ∷ 239 ∷ 187 ∷ 191 ∷ []))
    ≡ 34 ∷ 92 ∷ 117 ∷ 123 ∷ 48 ∷ 125 ∷ 92 ∷ 117 ∷ 123 ∷ 55 ∷ 102 ∷ 125 ∷ 92 ∷ 117 ∷ 123 ∷ 102 ∷ 100 ∷ 100 ∷ 48 ∷ 125 ∷ 92 ∷ 117 ∷ 123 ∷ 49 ∷ 48 ∷ 102 ∷ 102 ∷ 102 ∷ 102 ∷ 125 ∷ 194 ∷ 160 ∷ 239 ∷ 187 ∷ 191 ∷ 34 ∷ 10 ∷ []
unfolding written
w₁₀ = refl

-- `<00ff>⏎`
w₁₁ : written (scalar BYTES (0 ∷ 255 ∷ []))
    ≡ 60 ∷ 48 ∷ 48 ∷ 102 ∷ 102 ∷ 62 ∷ 10 ∷ []
unfolding written
w₁₁ = refl
