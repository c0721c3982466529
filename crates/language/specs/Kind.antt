-- THE TEN KINDS (01, What the reader takes and gives: "The ten kinds are numbered"). Assumes nothing.
use Rattle.std.specs.Prelude.{Bool, true, false, ℕ, eqb, leb}
pub use Rattle.notation.specs.Class.{pick}

abbrev pub NULL : ℕ
NULL = 1

abbrev pub FALSE : ℕ
FALSE = 2

abbrev pub TRUE : ℕ
TRUE = 3

abbrev pub INTEGER : ℕ
INTEGER = 4

abbrev pub FLOAT : ℕ
FLOAT = 5

abbrev pub STRING : ℕ
STRING = 6

abbrev pub BYTES : ℕ
BYTES = 7

abbrev pub ARRAY : ℕ
ARRAY = 8

abbrev pub OBJECT : ℕ
OBJECT = 9

abbrev pub KEY : ℕ
KEY = 10

-- "A row's text, kinds 4 to 7 and 10" (01, Questions)
abbrev pub has_text : ℕ → Bool
has_text k = pick (eqb k KEY) true (pick (leb INTEGER k) (leb k BYTES) false)
