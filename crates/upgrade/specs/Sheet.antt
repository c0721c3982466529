-- A RELEASE SHEET (02, Ticket 6). Assumes nothing.
use Rattle.std.specs.Prelude.{◌≡◌, List, [], ◌∷◌, ℕ, length}
use Rattle.language.specs.Kind.{BYTES, OBJECT, KEY}
use Rattle.language.specs.Tree.{Decoded, Tree, leaf, node, Forest, more}
use Rattle.upgrade.specs.Version.{Version}

-- the value v stands under the key s among the children of an object, in a tree as documents have it; how the key is escaped is not asked
pub data Under (s : List ℕ) (v : Tree) : Forest → Type 0 where
  under_here : {a e n : ℕ} {ts : Forest} → Under s v (more (leaf KEY a e (record { bytes = s; escapes = n })) (more v ts))
  under_later : {t : Tree} {ts : Forest} → Under s v ts → Under s v (more t ts)

-- "the keys `version`, `floor` and `image`"
abbrev pub VERSION : List ℕ
VERSION = 118 ∷ 101 ∷ 114 ∷ 115 ∷ 105 ∷ 111 ∷ 110 ∷ []

abbrev pub FLOOR : List ℕ
FLOOR = 102 ∷ 108 ∷ 111 ∷ 111 ∷ 114 ∷ []

abbrev pub IMAGE : List ℕ
IMAGE = 105 ∷ 109 ∷ 97 ∷ 103 ∷ 101 ∷ []

pub data Named : List ℕ → Type 0 where
  named_version : Named VERSION
  named_floor : Named FLOOR
  named_image : Named IMAGE

-- "`image` is bytes of length 32"
pub data Image : Tree → Type 0 where
  image : {a e : ℕ} {s : Decoded} → length s.bytes ≡ 32 → Image (leaf BYTES a e s)

-- "A sheet is a root object with exactly the keys `version`, `floor` and `image`, in any order. The first two are arrays of 1 to 8 integers not below zero, and `image` is bytes of length 32"
pub data Sheet : Tree → List ℕ → List ℕ → Type 0 where
  sheet : {a e c : ℕ} {ts : Forest} {t u i : Tree} {v f : List ℕ} → Under VERSION t ts → Version t v → Under FLOOR u ts → Version u f → Under IMAGE i ts → Image i
      → ((s : List ℕ) (w : Tree) → Under s w ts → Named s) → Sheet (node OBJECT a e c ts) v f
