-- THE HOUSE STYLE (02, Ticket 1): the bytes that are written for a tree. Assumes nothing.
use Rattle.std.specs.Prelude.{List, [], ◌∷◌, ◌++◌, Bool, true, false, ℕ, zero, suc, ◌+◌, ◌-◌, ◌*◌, ◌/◌, ◌%◌, get_or, drop, eqb, leb}
use Rattle.notation.specs.Class.{pick, and, or, is, only}
use Rattle.language.specs.Kind.{NULL, FALSE, TRUE, STRING, BYTES, ARRAY, KEY}
use Rattle.language.specs.Tree.{Tree, leaf, node, Forest, none, more}
use Rattle.language.specs.Characters.{utf8, ascii, character}
use Rattle.language.specs.Scalars.{null_word, true_word, false_word}
use Rattle.language.specs.Strings.{keybyte}
use Rattle.language.specs.BlockText.{spaces}
use Rattle.language.specs.Lines.{tail}

-- "lowercase, no leading zeros": a hex digit, and the hex digits of a number, at most n of them
abbrev pub hexletter : ℕ → ℕ
hexletter d = pick (leb d 9) (48 + d) (87 + d)

unfoldable pub hexes : ℕ → ℕ → List ℕ
hexes zero v = []
hexes (suc n) v = pick (leb v 15) (hexletter v ∷ []) (hexes n (v / 16) ++ hexletter (v % 16) ∷ [])

-- "Quote, backslash and the five lettered escapes are written short": what stands behind the backslash, or 0
abbrev pub letter : ℕ → ℕ
letter v =
    pick (is (only 34) v) 34
    (pick (is (only 92) v) 92
    (pick (is (only 8) v) 98
    (pick (is (only 12) v) 102
    (pick (is (only 10) v) 110
    (pick (is (only 13) v) 114
    (pick (is (only 9) v) 116 0))))))

-- a character of a string: short, as itself, or, "other characters not allowed in a document as `\u{…}`"
unfoldable pub shown : ℕ → List ℕ
shown v = pick (eqb (letter v) 0) (pick (character ascii v) (utf8 v) (92 ∷ 117 ∷ 123 ∷ hexes 6 v ++ 125 ∷ [])) (92 ∷ letter v ∷ [])

-- the scalar value of the character whose bytes are b and the first of s, in UTF-8
abbrev pub tail_value : List ℕ → ℕ → ℕ
tail_value s i = get_or s i 128 - 128

abbrev pub value_at : ℕ → List ℕ → ℕ
value_at b s =
    pick (leb b 127) b
    (pick (leb b 223) (64 * (b - 192) + tail_value s 0)
    (pick (leb b 239) (4096 * (b - 224) + 64 * tail_value s 0 + tail_value s 1) (262144 * (b - 240) + 4096 * tail_value s 0 + 64 * tail_value s 1 + tail_value s 2)))

-- the characters of a text, each shown where it begins
unfoldable pub shown_text : List ℕ → List ℕ
shown_text [] = []
shown_text (b ∷ s) = pick (is tail b) [] (shown (value_at b s)) ++ shown_text s

-- "double-quoted strings"
abbrev pub quoted : List ℕ → List ℕ
quoted s = 34 ∷ shown_text s ++ 34 ∷ []

-- "bare keys wherever a key allows it": one or more key bytes
unfoldable pub keybytes : List ℕ → Bool
keybytes [] = true
keybytes (b ∷ s) = and (is keybyte b) (keybytes s)

abbrev pub bareable : List ℕ → Bool
bareable [] = false
bareable (b ∷ s) = keybytes (b ∷ s)

-- "inline bytes without spaces"
unfoldable pub hex_pairs : List ℕ → List ℕ
hex_pairs [] = []
hex_pairs (b ∷ s) = hexletter (b / 16) ∷ hexletter (b % 16) ∷ hex_pairs s

-- a scalar or a key on its line; the texts of numbers stand as they are
unfoldable pub scalar_text : ℕ → List ℕ → List ℕ
scalar_text k s =
    pick (eqb k NULL) null_word
    (pick (eqb k FALSE) false_word
    (pick (eqb k TRUE) true_word
    (pick (eqb k STRING) (quoted s)
    (pick (eqb k BYTES) (60 ∷ hex_pairs s ++ 62 ∷ []) (pick (eqb k KEY) (pick (bareable s) s (quoted s)) s)))))

abbrev pub is_key : Tree → Bool
is_key (leaf k a e s) = eqb k KEY
is_key (node k a e c ts) = false

abbrev pub is_none : Forest → Bool
is_none none = true
is_none (more t ts) = false

-- what stands between a child and those behind it: a colon and a space behind a key, a comma and a space before a further element or pair
abbrev pub between : Tree → Forest → List ℕ
between t ts = pick (is_key t) (58 ∷ 32 ∷ []) (pick (is_none ts) [] (44 ∷ 32 ∷ []))

-- "on one line", with all that is below it; "`[]` and `{}` where empty"
unfoldable mutual
  pub inline : Tree → List ℕ
  inline (leaf k a e s) = scalar_text k s.bytes
  inline (node k a e c ts) = pick (eqb k ARRAY) (91 ∷ inlines ts ++ 93 ∷ []) (123 ∷ inlines ts ++ 125 ∷ [])

  pub inlines : Forest → List ℕ
  inlines none = []
  inlines (more t ts) = inline t ++ between t ts ++ inlines ts

abbrev pub one_line : Tree → List ℕ
one_line t = inline t ++ 10 ∷ []

-- a scalar, a key, or a container that is empty
abbrev pub flat : Tree → Bool
flat (leaf k a e s) = true
flat (node k a e c ts) = is_none ts

abbrev pub is_array : Tree → Bool
is_array (leaf k a e s) = false
is_array (node k a e c ts) = eqb k ARRAY

-- what stands behind a property's colon at the column n, and behind an item's dash and space with the content column n; b: the lines of the tree as a block.
-- "An array inside an array goes on one line"; an object in an array begins behind the dash, where its first line has n spaces less
abbrev pub value : Tree → List ℕ → List ℕ
value t b = pick (flat t) (32 ∷ one_line t) (10 ∷ b)

abbrev pub item : ℕ → Tree → List ℕ → List ℕ
item n t b = pick (or (flat t) (is_array t)) (one_line t) (drop n b)

-- "block objects and arrays where not empty .. two spaces a level": the lines at the column n
unfoldable mutual
  pub block : ℕ → Tree → List ℕ
  block n (leaf k a e s) = []
  block n (node k a e c ts) = pick (eqb k ARRAY) (items n ts) (properties n ts)

  pub items : ℕ → Forest → List ℕ
  items n none = []
  items n (more t ts) = spaces n ++ 45 ∷ 32 ∷ item (suc (suc n)) t (block (suc (suc n)) t) ++ items n ts

  pub properties : ℕ → Forest → List ℕ
  properties n none = []
  properties n (more t ts) = pick (is_key t) (spaces n ++ inline t ++ 58 ∷ []) (value t (block (suc (suc n)) t)) ++ properties n ts

-- A PROFILE AS IT IS WRITTEN
unfoldable pub house : Tree → List ℕ
house t = pick (flat t) (one_line t) (block 0 t)
