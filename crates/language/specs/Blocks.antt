-- BLOCKS (01, Blocks, 2 to 4): k is how many containers may stand one inside another, n, m and c are columns. Assumes nothing.
use Rattle.std.specs.Prelude.{List, [], ◌∷◌, ℕ, zero, suc}
use Rattle.notation.specs.Class.{is, only}
use Rattle.notation.specs.Lang.{Lang, Ret, Here, Byte, Seq, ◌>>=◌, ◌>>◌, Map, Alt, Star, Plus, Word, Indented}
use Rattle.language.specs.Kind.{STRING}
use Rattle.language.specs.Tree.{Tree, leaf, Field, field, Entry, entry, block_array, block_object}
use Rattle.language.specs.Characters.{Space, Feed, Option, LineComment}
use Rattle.language.specs.Strings.{Quoted, Key}
use Rattle.language.specs.Inline.{LineValue}
use Rattle.language.specs.BlockText.{Part, part, part_text, part_end, OpenString, PropertyString, OpenBytes, PropertyBytes}

-- one or more As, the first of them here and the further ones each on n spaces
abbrev pub Lines : {X : Type 0} → ℕ → Lang X → Lang (List X)
Lines n A = do
  v ← A
  vs ← Star (Indented n A)
  Ret (v ∷ vs)

-- "line value, optional line comment, LF"
abbrev pub ValueLine : ℕ → Lang Tree
ValueLine k = do
  v ← LineValue k
  Option LineComment
  Feed
  Ret v

-- "Property: key, `:`, then one of: space, line value, optional line comment, LF; space and property block string or bytes;
-- optional line comment, LF, nested content at n+2." N: that nested content
abbrev pub Property : ℕ → ℕ → Lang Tree → Lang Field
Property k n N = do
  ky ← Key
  Byte (is (only 58))
  v ← Alt (Space >> Alt (ValueLine k) (Alt (PropertyString n) (PropertyBytes n))) (Option LineComment >> (Feed >> N))
  Ret (field ky v)

-- "Object at n: one or more properties at n, each on n spaces." The first begins here
abbrev pub Object : ℕ → ℕ → Lang Tree → Lang Tree
Object k n N = Map block_object (Lines n (Property k n N))

-- "`- `, item"
abbrev pub Dashed : Lang Tree → Lang Entry
Dashed I = do
  d ← Here
  Word (45 ∷ 32 ∷ [])
  v ← I
  Ret (entry d v)

-- "Array at n: one or more items, each n spaces, `- `, item." The first begins here
abbrev pub Array : ℕ → Lang Tree → Lang Tree
Array n I = Map block_array (Lines n (Dashed I))

-- "two or more lines of m spaces, one quoted string and LF, joined": the first begins here. "of a joined string, first quote to last quote"
abbrev pub JoinedLine : Lang Part
JoinedLine = do
  s ← Quoted
  e ← Here
  Feed
  Ret (part s e)

abbrev pub Joined : ℕ → Lang Tree
Joined m = do
  a ← Here
  p ← JoinedLine
  Map (λ ps. leaf STRING a (part_end 0 ps) (part_text (p ∷ ps))) (Plus (Indented m JoinedLine))

-- "open block string or bytes at c"
abbrev pub Open : ℕ → Lang Tree
Open c = Alt (OpenString c) (OpenBytes c)

abbrev mutual
  -- "Nested content at m: array at m, object at m, m spaces and an open block string at m, or two or more lines .., joined."
  pub Nested : ℕ → ℕ → Lang Tree
  Nested zero m = Indented m (Alt (OpenString m) (Joined m))
  Nested (suc k) m =
      Indented m (Alt (Alt (Array m (Item k (suc (suc m)))) (Object k m (Nested k (suc (suc m))))) (Alt (OpenString m) (Joined m)))

  -- "Item with content column c = n+2: line value, optional line comment, LF; open block string or bytes at c; `- ` and an item with content column c+2
  -- (an array of that one element); or an object at c whose first property begins here and whose further ones stand on c spaces."
  pub Item : ℕ → ℕ → Lang Tree
  Item zero c = Alt (ValueLine zero) (Open c)
  Item (suc k) c =
      Alt
      (Alt (ValueLine (suc k)) (Open c))
      (Alt (Map (λ i. block_array (i ∷ [])) (Dashed (Item k (suc (suc c))))) (Object k c (Nested k (suc (suc c)))))
