-- WHAT THE FUNCTIONS OF THE TEST ARE ASKED AND TELL. Assumes nothing.
use Rattle.std.specs.Prelude.{◌≡◌, List, Bool, ℕ, ◌+◌, ◌*◌, ◌≤◌, ◌<◌, length, get_or}
use Rattle.language.specs.Tree.{Forest, width, sizes}
use Rattle.shaped.specs.RowsAt.{ForestAt}
use Rattle.std.specs.declared.option.Option.{Option}
use Rattle.std.specs.declared.option.Option.TheVariants.{Some, None}
use Rattle.sound.specs.declared.Tested.{Tested}
use Rattle.sound.specs.declared.Several.{Several}
use Rattle.sound.specs.Members.{Member, container_kind, Many}
use Rattle.sound.specs.Tested.{Lies}
use Rattle.sound.specs.Walk.{Passed}
use Rattle.sound.specs.Rows.{kind_at, parent_at, Texted}

-- the row r stands in the table
abbrev pub Whole : List ℕ → ℕ → Type 0
Whole table r = width * (r + 1) ≤ length table

-- it is below `stop`, and the text goes on from x
pub record Row (table text : List ℕ) (stop r x : ℕ) : Type 0 where
  pub lies : Lies table text stop x
  pub below : r < stop

-- the text of a row
abbrev pub TextTests : List ℕ → List ℕ → ℕ → ℕ → Option Tested → Type 0
TextTests table text r x (Some t) = (t.row ≡ r + 1) × Texted table text r (parent_at table r) x t.text
TextTests table text r x None = (to : ℕ) → Texted table text r (parent_at table r) x to → ⊥

-- the members of the container at row r, whose rows end at `end`
abbrev pub Went : List ℕ → List ℕ → Bool → ℕ → ℕ → ℕ → ℕ → Option Several → Type 0
Went table text o k r x end (Some m) = Passed table text o k r (r + 1) x end end m.text m.count
Went table text o k r x end None = (m : ℕ) (ts : Forest) → Many (Member o k) m ts → ForestAt table text (r + 1) r x ts → r + 1 + sizes ts ≡ end → ⊥

-- the members of the container at row r are passed, n of them, up to the row behind its last descendant
pub record Closing (table text : List ℕ) (stop r x allow : ℕ) (o : Bool) (n y : ℕ) : Type 0 where
  pub row : Row table text stop r x
  pub kind : kind_at table r ≡ container_kind o
  pub below : get_or table (width * r + 6) 0 ≤ stop
  pub passed : Passed table text o allow r (r + 1) x (get_or table (width * r + 6) 0) (get_or table (width * r + 6) 0) y n
