-- THE TEXT WORD of a cursor, which is how an answer carries the escapes: the text byte that comes next, and the escapes read so far, in one word, since a cursor of four words
-- costs a quarter more time. Assumes nothing.
use Rattle.std.specs.Prelude.{◌≡◌, ℕ, ◌+◌, ◌*◌, ◌/◌, ◌%◌, ◌<◌, length}
use Rattle.std.proofs.Common.{arith}
use Rattle.language.specs.Tree.{Decoded}

-- an escape; every text byte is below it
abbrev pub ESCAPE : ℕ
ESCAPE = 4294967296

-- the text byte that comes next, and the escapes so far
unfoldable pub spot : ℕ → ℕ
spot x = x % ESCAPE

unfoldable pub tally : ℕ → ℕ
tally x = x / ESCAPE

-- what a text adds
abbrev pub told : Decoded → ℕ
told s = length s.bytes + ESCAPE * s.escapes

-- a text more
pub spot_on : (x n z : ℕ) → spot x + n < ESCAPE → spot (x + (n + ESCAPE * z)) ≡ spot x + n
unfolding spot
spot_on x n z h = omega arith

pub tally_on : (x n z : ℕ) → spot x + n < ESCAPE → tally (x + (n + ESCAPE * z)) ≡ tally x + z
unfolding spot tally
tally_on x n z h = omega arith

-- .. without escapes
pub spot_plain : (x n : ℕ) → spot x + n < ESCAPE → spot (x + n) ≡ spot x + n
unfolding spot
spot_plain x n h = omega arith

pub tally_plain : (x n : ℕ) → spot x + n < ESCAPE → tally (x + n) ≡ tally x
unfolding spot tally
tally_plain x n h = omega arith

-- a text byte alone is a word without escapes
pub spot_low : (x : ℕ) → x < ESCAPE → spot x ≡ x
unfolding spot
spot_low x h = omega arith

pub tally_low : (x : ℕ) → x < ESCAPE → tally x ≡ 0
unfolding tally
tally_low x h = omega arith

-- the word is both
pub word_is : (x : ℕ) → x ≡ spot x + ESCAPE * tally x
unfolding spot tally
word_is x = omega arith
