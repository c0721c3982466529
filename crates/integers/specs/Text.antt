-- WHAT A TEXT GIVES of its bytes: how many they are, one of them, and those from a place on up to where the next are to be asked. Assumes nothing.
use Rattle.std.specs.Prelude.{◌≡◌, List, ℕ, ◌+◌, ◌≤◌, ◌<◌, length, get_or}

-- no text has more bytes than memory
abbrev pub most : ℕ
most = 9223372036854775807

-- how many bytes it has
pub record Counted (s : List ℕ) (n : ℕ) : Type 0 where
  pub count : n ≡ length s
  pub few : length s ≤ most
  pub octets : (i : ℕ) → get_or s i 0 < 256

-- the byte at a place, 0 behind the end
pub record Peeked (s : List ℕ) (at b : ℕ) : Type 0 where
  pub byte : b ≡ get_or s at 0
  pub few : length s ≤ most

-- bytes from a place on, at least one
pub record Run (s : List ℕ) (at : ℕ) (x : List ℕ) : Type 0 where
  pub some : 0 < length x
  pub inside : at + length x ≤ length s
  pub same : (j : ℕ) → j < length x → get_or x j 0 ≡ get_or s (at + j) 0
  pub few : length s ≤ most
