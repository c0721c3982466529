-- BLOCK STRINGS AND BLOCK BYTES (01, Blocks, 5 and 6). Assumes nothing.
use Rattle.std.specs.Prelude.{List, [], ◌∷◌, ◌++◌, ℕ, zero, suc, ◌-◌, min, length}
use Rattle.notation.specs.Class.{is, only}
use Rattle.notation.specs.Lang.{Lang, Ret, Here, Byte, Seq, ◌>>=◌, ◌>>◌, Map, Alt, Star, Plus, Word, Indented, cat}
use Rattle.language.specs.Kind.{STRING, BYTES}
use Rattle.language.specs.Tree.{Decoded, unescaped, ◌then◌, Tree, leaf}
use Rattle.language.specs.Characters.{Char, dark, Space, Feed, Piece, Comment, Option, LineComment}
use Rattle.language.specs.Strings.{Pairs}

-- "blank lines and text lines": of a text line the spaces past the first column that it may have, its text, and the place of its LF
pub data Line : Type 0 where
  blank : Line
  line : ℕ → List ℕ → ℕ → Line

-- deeper than c: more than c spaces
abbrev pub Deeper : {X : Type 0} → ℕ → (ℕ → Lang X) → Lang X
Deeper c A = Indented c (do Space; ss ← Star Space; A (length ss))

-- "A text is not empty and doesn't end in a space; a text line's text begins with no space."
abbrev pub TextLine : ℕ → Lang Line
TextLine i = do
  d ← Char dark
  ps ← Star Piece
  e ← Here
  Feed
  Ret (line i (d ++ cat ps) e)

abbrev pub BodyLine : ℕ → Lang Line
BodyLine c = Alt (do Feed; Ret blank) (Deeper c TextLine)

-- "blanks at the body's end dropped"
abbrev pub hold : List Line → List Line
hold [] = []
hold (l ∷ ls) = blank ∷ l ∷ ls

abbrev pub trim : List Line → List Line
trim [] = []
trim (blank ∷ ls) = hold (trim ls)
trim (line i t e ∷ ls) = line i t e ∷ trim ls

-- "the body lines less their smallest indentation", which is that of the text lines alone
abbrev pub lower : ℕ → List Line → ℕ
lower m [] = m
lower m (blank ∷ ls) = lower m ls
lower m (line i t e ∷ ls) = lower (min m i) ls

abbrev pub lowest : List Line → ℕ
lowest [] = 0
lowest (blank ∷ ls) = lowest ls
lowest (line i t e ∷ ls) = lower i ls

abbrev pub spaces : ℕ → List ℕ
spaces zero = []
spaces (suc n) = 32 ∷ spaces n

-- "blanks empty, .. each followed by LF"
abbrev pub unlines : ℕ → List Line → List ℕ
unlines m [] = []
unlines m (blank ∷ ls) = 10 ∷ unlines m ls
unlines m (line i t e ∷ ls) = spaces (i - m) ++ t ++ 10 ∷ unlines m ls

unfoldable pub body_text : List Line → List ℕ
body_text ls = unlines (lowest (trim ls)) (trim ls)

-- "grave up to the LF of its last line with text, or of its leader"
unfoldable pub body_end : ℕ → List Line → ℕ
body_end e [] = e
body_end e (blank ∷ ls) = body_end e ls
body_end e (line i t f ∷ ls) = body_end f ls

-- "Open at c: grave, then LF, or space, text, LF. .. Value: first the leader's text (open form; empty if the leader is bare)"
abbrev pub OpenString : ℕ → Lang Tree
OpenString c = do
  a ← Here
  Byte (is (only 96))
  t ← Option (do Space; ps ← Plus Piece; Ret (cat ps))
  e ← Here
  Feed
  Map (λ ls. leaf STRING a (body_end e ls) (unescaped (t ++ 10 ∷ body_text ls))) (Star (BodyLine c))

-- "Property at n: grave, LF."
abbrev pub PropertyString : ℕ → Lang Tree
PropertyString n = do
  a ← Here
  Byte (is (only 96))
  e ← Here
  Feed
  Map (λ ls. leaf STRING a (body_end e ls) (unescaped (body_text ls))) (Star (BodyLine n))

-- a text that stands on one line, and the place after that line's content
pub data Part : Type 0 where
  part : Decoded → ℕ → Part

abbrev pub part_text : List Part → Decoded
part_text [] = unescaped []
part_text (part s e ∷ ps) = s then part_text ps

abbrev pub part_end : ℕ → List Part → ℕ
part_end e [] = e
part_end e (part s f ∷ ps) = part_end f ps

-- "pairs with optional line comment, or a comment"
abbrev pub HexRest : Lang Part
HexRest = do
  bs ← Alt (do ps ← Pairs; Option LineComment; Ret ps) (do Comment; Ret [])
  e ← Here
  Feed
  Ret (part (unescaped bs) e)

abbrev pub HexLine : ℕ → Lang Part
HexLine c = Deeper c (λ _. HexRest)

-- "of block bytes, `>` up to the LF of its last line". "Open at c: `>`, space, then hex pairs with optional line comment, or a comment; LF; any number of hex lines."
abbrev pub OpenBytes : ℕ → Lang Tree
OpenBytes c = do
  a ← Here
  Word (62 ∷ 32 ∷ [])
  h ← HexRest
  Map (λ hs. leaf BYTES a (part_end 0 (h ∷ hs)) (part_text (h ∷ hs))) (Star (HexLine c))

-- "Property at n: `>`, optional space and comment, LF, at least one hex line."
abbrev pub PropertyBytes : ℕ → Lang Tree
PropertyBytes n = do
  a ← Here
  Byte (is (only 62))
  Option (Space >> Comment)
  Feed
  Map (λ hs. leaf BYTES a (part_end 0 hs) (part_text hs)) (Plus (HexLine n))
