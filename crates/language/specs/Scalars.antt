-- KEYWORDS AND NUMBERS (01, Scalars). Assumes nothing.
use Rattle.std.specs.Prelude.{List, [], ◌∷◌, ◌++◌, Bool, true, false, ℕ, eqb}
use Rattle.notation.specs.Class.{pick, ◌to◌, Class, is, only}
use Rattle.notation.specs.Lang.{Lang, Ret, Here, Byte, Seq, ◌>>=◌, ◌>>◌, Map, Alt, Star, Word}
use Rattle.language.specs.Kind.{NULL, FALSE, TRUE, INTEGER, FLOAT}
use Rattle.language.specs.Tree.{unescaped, Tree, leaf}
use Rattle.language.specs.Characters.{Space, Option}

-- "Keywords: `null`, `true`, `false`, `nan`, `infinity`, `-infinity`. The last three are floats, kind 5."
abbrev pub null_word : List ℕ
null_word = 110 ∷ 117 ∷ 108 ∷ 108 ∷ []

abbrev pub true_word : List ℕ
true_word = 116 ∷ 114 ∷ 117 ∷ 101 ∷ []

abbrev pub false_word : List ℕ
false_word = 102 ∷ 97 ∷ 108 ∷ 115 ∷ 101 ∷ []

abbrev pub nan_word : List ℕ
nan_word = 110 ∷ 97 ∷ 110 ∷ []

abbrev pub infinity_word : List ℕ
infinity_word = 105 ∷ 110 ∷ 102 ∷ 105 ∷ 110 ∷ 105 ∷ 116 ∷ 121 ∷ []

-- a keyword, the kind of its row, and the row's text
abbrev pub Keyword : ℕ → List ℕ → List ℕ → Lang Tree
Keyword kind word text = do
  a ← Here
  Word word
  e ← Here
  Ret (leaf kind a e (unescaped text))

abbrev pub Keywords : Lang Tree
Keywords =
    Alt
    (Alt (Keyword NULL null_word []) (Alt (Keyword TRUE true_word []) (Keyword FALSE false_word [])))
    (Alt (Keyword FLOAT nan_word nan_word) (Alt (Keyword FLOAT infinity_word infinity_word) (Keyword FLOAT (45 ∷ infinity_word) (45 ∷ infinity_word))))

-- "Each d is one or more digits." "Single spaces between two digits are allowed outside `[` and `{` only": where `spaced` holds
abbrev pub digit : Class
digit = (48 to 57) ∷ []

abbrev pub Further : Bool → Lang ℕ
Further false = Byte (is digit)
Further true = Alt (Byte (is digit)) (Space >> Byte (is digit))

abbrev pub Digits : Bool → Lang (List ℕ)
Digits spaced = do
  d ← Byte (is digit)
  ds ← Star (Further spaced)
  Ret (d ∷ ds)

abbrev pub One : Class → Lang (List ℕ)
One c = Map (λ b. b ∷ []) (Byte (is c))

-- an integer's text: "`-` if negative, then digits without leading zeros or spaces; zero is `0`"
unfoldable pub plain : List ℕ → List ℕ
plain [] = []
plain (d ∷ []) = d ∷ []
plain (d ∷ e ∷ ds) = pick (eqb d 48) (plain (e ∷ ds)) (d ∷ e ∷ ds)

-- of plain digits, the first is 0 for zero alone
unfoldable pub minus : List ℕ → List ℕ
minus [] = []
minus (d ∷ ds) = pick (eqb d 48) (d ∷ ds) (45 ∷ d ∷ ds)

abbrev pub signed : List ℕ → List ℕ → List ℕ
signed [] ds = plain ds
signed (m ∷ ms) ds = minus (plain ds)

-- "Integer: optional `-`, digits."
abbrev pub Integer : Bool → Lang Tree
Integer spaced = do
  a ← Here
  m ← Option (One (only 45))
  ds ← Digits spaced
  e ← Here
  Ret (leaf INTEGER a e (unescaped (signed m ds)))

-- "`d.`, `d.d`, `.d`"
abbrev pub Pointed : Bool → Lang (List ℕ)
Pointed spaced =
    Alt
    (do ds ← Digits spaced; p ← One (only 46); fs ← Option (Digits spaced); Ret (ds ++ p ++ fs))
    (do p ← One (only 46); fs ← Digits spaced; Ret (p ++ fs))

-- "exponent `e`, optional sign, `d`"
abbrev pub Exponent : Bool → Lang (List ℕ)
Exponent spaced = do
  x ← One (only 101)
  s ← Option (One ((43 to 43) ∷ (45 to 45) ∷ []))
  ds ← Digits spaced
  Ret (x ++ s ++ ds)

-- "Float: optional `-`, then `d.`, `d.d`, `.d` or `d`, then an optional exponent; the form `d` needs the exponent." Its text is "as written, spaces removed"
abbrev pub Float : Bool → Lang Tree
Float spaced = do
  a ← Here
  m ← Option (One (only 45))
  w ← Alt (do p ← Pointed spaced; x ← Option (Exponent spaced); Ret (p ++ x)) (do ds ← Digits spaced; x ← Exponent spaced; Ret (ds ++ x))
  e ← Here
  Ret (leaf FLOAT a e (unescaped (m ++ w)))

-- a keyword or a number
abbrev pub Plain : Bool → Lang Tree
Plain spaced = Alt Keywords (Alt (Integer spaced) (Float spaced))
