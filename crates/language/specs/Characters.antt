-- CHARACTERS AND LINES (01, Characters and lines). Assumes nothing.
use Rattle.std.specs.Prelude.{◌≡◌, List, [], ◌∷◌, ◌++◌, Bool, true, ℕ, ◌+◌, ◌/◌, ◌%◌, length, leb}
use Rattle.notation.specs.Class.{pick, and, or, ◌to◌, Class, is, only}
use Rattle.notation.specs.Lang.{Lang, Ret, Byte, Seq, ◌>>=◌, ◌>>◌, Map, Alt, Star, Word, cat, Tail, Then, End}

-- the bytes of a scalar value in UTF-8
abbrev pub utf8 : ℕ → List ℕ
utf8 v =
    pick
    (leb v 127)
    (v ∷ [])
    (pick
    (leb v 2047)
    ((192 + v / 64) ∷ (128 + v % 64) ∷ [])
    (pick
    (leb v 65535)
    ((224 + v / 4096) ∷ (128 + v / 64 % 64) ∷ (128 + v % 64) ∷ [])
    ((240 + v / 262144) ∷ (128 + v / 4096 % 64) ∷ (128 + v / 64 % 64) ∷ (128 + v % 64) ∷ [])))

-- "LF, U+0020..U+007E"
abbrev pub ascii : Class
ascii = (10 to 10) ∷ (32 to 126) ∷ []

-- "U+00A0..U+D7FF, U+E000..U+FFFD less U+FDD0..U+FDEF, and U+10000..U+10FFFF less each plane's last two"
abbrev pub wide : ℕ → Bool
wide v =
    or
    (is ((0xA0 to 0xD7FF) ∷ (0xE000 to 0xFDCF) ∷ (0xFDF0 to 0xFFFD) ∷ []) v)
    (and (is ((0x10000 to 0x10FFFF) ∷ []) v) (leb (v % 0x10000) 0xFFFD))

-- a character: below 128 one of a class, from there on any that is allowed. Its value is its bytes; an overlong form is none
abbrev pub character : Class → ℕ → Bool
character plain v = pick (leb v 127) (is plain v) (wide v)

pub data Char (plain : Class) : ℕ → List ℕ → List ℕ → ℕ → List ℕ → Type 0 where
  char : {at : ℕ} {t : List ℕ} (v : ℕ) → character plain v ≡ true → Char plain at (utf8 v ++ t) (utf8 v) (at + length (utf8 v)) t

-- a sequence of allowed characters
abbrev pub Allowed : Tail (List (List ℕ))
Allowed = Then (Star (Char ascii)) End 0

-- "Every line ends in LF"; "A blank line is LF alone."
abbrev pub Feed : Lang ℕ
Feed = Byte (is (only 10))

abbrev pub Space : Lang ℕ
Space = Byte (is (only 32))

-- "no line ends in a space": characters of a line come as pieces, each of them spaces and one character that is no space
abbrev pub dark : Class
dark = (33 to 126) ∷ []

abbrev pub Piece : Lang (List ℕ)
Piece = do
  ss ← Star Space
  c ← Char dark
  Ret (ss ++ c)

-- "A comment is `#` and any characters up to LF."
abbrev pub Comment : Lang (List ℕ)
Comment = do
  Byte (is (only 35))
  Map cat (Star Piece)

-- an A, or nothing
abbrev pub Option : Lang (List ℕ) → Lang (List ℕ)
Option A = Alt A (Ret [])

-- "A line comment is two spaces and a comment."
abbrev pub LineComment : Lang (List ℕ)
LineComment = Word (32 ∷ 32 ∷ []) >> Comment
