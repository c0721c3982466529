-- STORED BYTES THAT ONE FIELD HOLDS: no longer than a field with the widest content. Assumes nothing.
use Rattle.std.specs.Prelude.{ℕ}

abbrev pub longest : ℕ
longest = 65538
