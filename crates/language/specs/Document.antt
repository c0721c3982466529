-- DOCUMENTS (01, Blocks, 1). Assumes nothing.
use Rattle.std.specs.Prelude.{List, [], ◌∷◌, ℕ, zero, suc}
use Rattle.notation.specs.Lang.{Lang, Ret, Seq, ◌>>=◌, ◌>>◌, Alt, Star, Tail, Then, End}
use Rattle.language.specs.Tree.{Tree}
use Rattle.language.specs.Characters.{Feed, Comment}
use Rattle.language.specs.Inline.{LineValue}
use Rattle.language.specs.Blocks.{Array, Object, Open, Nested, Item}

-- "or a line value and LF. No line comment follows a root line value."
abbrev pub RootLine : ℕ → Lang Tree
RootLine k = do
  v ← LineValue k
  Feed
  Ret v

-- "Root: an object at 0, an array at 0, an open block string or open block bytes at 0, or a line value and LF."
abbrev pub Root : ℕ → Lang Tree
Root zero = Alt (RootLine zero) (Open 0)
Root (suc k) = Alt (Alt (RootLine (suc k)) (Open 0)) (Alt (Array 0 (Item k 2)) (Object k 0 (Nested k 2)))

-- "A document is comments at column 0, one root, blank lines."
abbrev pub Whole : ℕ → Lang Tree
Whole k = do
  Star (Comment >> Feed)
  v ← Root k
  Star Feed
  Ret v

-- s is a document with at most k containers one inside another, and t is its tree; nesting unlimited is: for some k
unfoldable pub Document : ℕ → Tail Tree
Document k = Then (Whole k) End 0
