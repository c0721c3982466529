-- VERSIONS AND THEIR ORDER (02, Ticket 6). Assumes nothing.
use Rattle.std.specs.Prelude.{◌≡◌, List, [], ◌∷◌, ℕ, ◌≤◌, ◌<◌, length, get_or, pos}
use Rattle.language.specs.Kind.{INTEGER, ARRAY}
use Rattle.language.specs.Tree.{Decoded, Tree, leaf, node, Forest, none, more}
use Rattle.integers.specs.Integer.{integer}

-- "integers not below zero": the numbers that the texts of these elements denote, in a tree as documents have it
pub data Numbers : Forest → List ℕ → Type 0 where
  no_number : Numbers none []
  one_number : {a e n : ℕ} {s : Decoded} {ts : Forest} {ns : List ℕ} → integer s.bytes ≡ pos n → Numbers ts ns → Numbers (more (leaf INTEGER a e s) ts) (n ∷ ns)

-- "arrays of 1 to 8 integers not below zero"
abbrev pub most : ℕ
most = 8

pub data Version : Tree → List ℕ → Type 0 where
  version : {a e c : ℕ} {ts : Forest} {ns : List ℕ} → Numbers ts ns → 1 ≤ length ns → length ns ≤ most → Version (node ARRAY a e c ts) ns

-- "missing places counting as zero"
abbrev pub place : List ℕ → ℕ → ℕ
place ns i = get_or ns i 0

-- "Versions compare by place as numbers": one is above the other by the first place where they differ
pub record Higher (v w : ℕ → ℕ) : Type 0 where
  pub at : ℕ
  pub equal : (i : ℕ) → i < at → v i ≡ w i
  pub greater : w at < v at

abbrev pub Above : List ℕ → List ℕ → Type 0
Above v w = Higher (place v) (place w)
