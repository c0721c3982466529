-- A ROW WITH A TEXT (`Named`). Assumes nothing.
use Rattle.std.specs.Prelude.{List, ℕ, ◌+◌, ◌*◌, ◌≤◌, length}
use Rattle.language.specs.Tree.{width}
use Rattle.distinct.specs.Names.{Part}
use Rattle.sound.specs.Keys.{from_at, to_at}

-- row r stands in the table, and its text in the room
pub record Named (table text : List ℕ) (r : ℕ) : Type 0 where
  pub whole : width * (r + 1) ≤ length table
  pub part : Part text (from_at table r) (to_at table r)
