-- QUOTED STRINGS, KEYS AND INLINE BYTES, with their decoded texts (01, Scalars). Assumes nothing.
use Rattle.std.specs.Prelude.{List, [], ◌∷◌, ◌++◌, Bool, ℕ, ◌+◌, ◌-◌, ◌*◌, length, leb}
use Rattle.notation.specs.Class.{pick, and, ◌to◌, Class, is, only}
use Rattle.notation.specs.Lang.{Lang, Ret, Here, Byte, Seq, ◌>>=◌, ◌>>◌, Map, Alt, Star, Plus, Such, Word}
use Rattle.language.specs.Kind.{STRING, BYTES, KEY}
use Rattle.language.specs.Tree.{Decoded, unescaped, escaped, together, Tree, leaf}
use Rattle.language.specs.Characters.{utf8, Char, Space, Option}

-- "1 to 6 hex digits of either case naming a scalar value (not D800..DFFF, at most 10FFFF)"
abbrev pub hexdigit : Class
hexdigit = (48 to 57) ∷ (65 to 70) ∷ (97 to 102) ∷ []

abbrev pub hexval : ℕ → ℕ
hexval b = pick (leb b 57) (b - 48) (pick (leb b 70) (b - 55) (b - 87))

unfoldable pub hex_number : ℕ → List ℕ → ℕ
hex_number v [] = v
hex_number v (d ∷ ds) = hex_number (16 * v + hexval d) ds

abbrev pub scalar : ℕ → Bool
scalar v = is ((0 to 0xD7FF) ∷ (0xE000 to 0x10FFFF) ∷ []) v

abbrev pub Code : Lang (List ℕ)
Code = Such (λ ds. and (leb (length ds) 6) (scalar (hex_number 0 ds))) (Plus (Byte (is hexdigit)))

-- "escapes `\" \\ \/ \b \f \n \r \t`, where b, f, n, r, t stand for 8, 12, 10, 13, 9; `\u{…}`"
abbrev pub lettered : Class
lettered = (34 to 34) ∷ (92 to 92) ∷ (47 to 47) ∷ (98 to 98) ∷ (102 to 102) ∷ (110 to 110) ∷ (114 to 114) ∷ (116 to 116) ∷ []

abbrev pub stands_for : ℕ → ℕ
stands_for b = pick (is (only 98) b) 8 (pick (is (only 102) b) 12 (pick (is (only 110) b) 10 (pick (is (only 114) b) 13 (pick (is (only 116) b) 9 b))))

abbrev pub Escape : Lang Decoded
Escape = do
  Byte (is (only 92))
  Alt (do b ← Byte (is lettered); Ret (escaped (stands_for b ∷ []))) (do Word (117 ∷ 123 ∷ []); ds ← Code; Byte (is (only 125)); Ret (escaped (utf8 (hex_number 0 ds))))

-- "Single-quoted: .. escapes `\'` and `\\`" (01); "a backslash before any other allowed character but LF stays as itself, that character too, and is not counted as an escape" (02, Ticket 3)
abbrev pub SingleEscape : Lang Decoded
SingleEscape = do
  Byte (is (only 92))
  Alt (do b ← Byte (is ((39 to 39) ∷ (92 to 92) ∷ [])); Ret (escaped (b ∷ []))) (do c ← Char ((32 to 38) ∷ (40 to 91) ∷ (93 to 126) ∷ []); Ret (unescaped (92 ∷ c)))

-- a quote, escapes and characters, the same quote
abbrev pub Between : ℕ → Lang Decoded → Class → Lang Decoded
Between quote E others = do
  Byte (is (only quote))
  ps ← Star (Alt E (Map unescaped (Char others)))
  Byte (is (only quote))
  Ret (together ps)

-- "characters except LF, `"` and `\`"; "characters except LF, `'` and `\`"
abbrev pub Double : Lang Decoded
Double = Between 34 Escape ((32 to 33) ∷ (35 to 91) ∷ (93 to 126) ∷ [])

abbrev pub Single : Lang Decoded
Single = Between 39 SingleEscape ((32 to 38) ∷ (40 to 91) ∷ (93 to 126) ∷ [])

abbrev pub Quoted : Lang Decoded
Quoted = Alt Double Single

-- a text with its span
abbrev pub Spanned : ℕ → Lang Decoded → Lang Tree
Spanned kind A = do
  a ← Here
  s ← A
  e ← Here
  Ret (leaf kind a e s)

abbrev pub String : Lang Tree
String = Spanned STRING Quoted

-- "Key: letters, digits, `_`, `-`, at least one; or a quoted string."
abbrev pub keybyte : Class
keybyte = (97 to 122) ∷ (65 to 90) ∷ (48 to 57) ∷ (95 to 95) ∷ (45 to 45) ∷ []

abbrev pub Key : Lang Tree
Key = Spanned KEY (Alt (Map unescaped (Plus (Byte (is keybyte)))) Quoted)

-- "Inline bytes: `<`, lowercase hex pairs with at most one space between pairs, `>`; `<>` is empty."
abbrev pub lowhex : Class
lowhex = (48 to 57) ∷ (97 to 102) ∷ []

abbrev pub Pair : Lang ℕ
Pair = do
  h ← Byte (is lowhex)
  l ← Byte (is lowhex)
  Ret (16 * hexval h + hexval l)

abbrev pub Pairs : Lang (List ℕ)
Pairs = do
  p ← Pair
  ps ← Star (Alt Pair (Space >> Pair))
  Ret (p ∷ ps)

abbrev pub InlineBytes : Lang Tree
InlineBytes = Spanned BYTES (do Byte (is (only 60)); bs ← Option Pairs; Byte (is (only 62)); Ret (unescaped bs))
