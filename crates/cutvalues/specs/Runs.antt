-- WHAT IS ASKED AND TOLD of members in a content that is cut: those of a run (`Several`), those from a place on (`RanOn`, `Stretched`), and all of a container (`ClosedTold`). Assumes nothing.
use Rattle.std.specs.Prelude.{◌≡◌, List, Bool, ℕ, ◌+◌, ◌-◌, ◌*◌, ◌≤◌, ◌<◌, length}
use Rattle.std.specs.declared.option.Option.{Option}
use Rattle.std.specs.declared.option.Option.TheVariants.{Some, None}
use Rattle.exact.specs.Tells.{Tells}
use Rattle.language.specs.Lent.{lent}
use Rattle.language.specs.Tree.{Forest}
use Rattle.sound.specs.Distinct.{Distinct}
use Rattle.sound.specs.Members.{Member}
use Rattle.uncut.specs.declared.tested.Tested.{Tested}
use Rattle.uncut.specs.Tested as uncut
use Rattle.uncut.specs.Walk as walk
use Rattle.wide.specs.declared.Walked.{Walked}
use Rattle.wide.specs.Tests.{Good}
use Rattle.wide.specs.Walk.{Passed, Went}
use Rattle.cutvalues.specs.declared.runs.Ran.{Ran}
use Rattle.cutvalues.specs.Bridge.{Heads, Near}

-- members up to a place
abbrev pub ran : ℕ → ℕ → ℕ → ℕ → Option Ran
ran e n m b = Some (record { end = e; members = n; rows = m; bytes = b })

-- ---- a run: few bytes of a content, one behind another, from a place on before `stop`
pub record Standing (v : List ℕ) (at stop : ℕ) (run : List ℕ) : Type 0 where
  pub near : Near v run at (length run)
  pub below : at + length run ≤ stop

-- what was tested from 0 on, told from a place on
abbrev pub moved_to : ℕ → Option Tested → Option Walked
moved_to at (Some t) = Good (at + t.to) t.rows (t.to - 3 * t.rows)
moved_to at None = None

pub record Movable (at : ℕ) (t : Option Tested) : Type 0 where
  pub low : at ≤ lent
  pub heads : (w : Tested) → t ≡ Some w → (3 * w.rows ≤ w.to) × (w.to ≤ 65535)

pub record Met (near : List ℕ) (Q : Forest → Type 0) (m at : ℕ) (w : Option Walked) : Type 0 where
  pub tested : Option Tested
  pub tells : uncut.Tests near Q 0 m tested
  pub moved : w ≡ moved_to at tested

-- members of a run are passed, behind which whole fields of a member stand that is none
pub record Stuck (near : List ℕ) (o : Bool) (k : ℕ) : Type 0 where
  pub at : ℕ
  pub count : ℕ
  pub rows : ℕ
  pub passed : walk.Passed near o k 0 (length near) at count rows
  pub heads : Heads near o at (length near)
  pub bad : uncut.Tests near (Member o k) at (length near) None

pub record Seen (near : List ℕ) (o : Bool) (k e n rows bytes : ℕ) : Type 0 where
  pub passed : walk.Passed near o k 0 (length near) e n rows
  pub text : bytes ≡ e - 3 * rows

-- WHAT IS TOLD of the members of a run
abbrev pub Several : List ℕ → Bool → ℕ → Option Ran → Type 0
Several near o k (Some r) = Seen near o k r.end r.members r.rows r.bytes
Several near o k None = Stuck near o k

-- ---- members of a content, from a place on
module _ (v : List ℕ) (o : Bool) (k from end : ℕ) where
  abbrev pub RanOn : Option Ran → Type 0
  RanOn (Some r) = Passed v o k from end r.end r.members r.rows r.bytes
  RanOn None = Went v o k from end None

  -- .. one of them at least
  pub record Further (e n rows bytes : ℕ) : Type 0 where
    pub passed : Passed v o k from end e n rows bytes
    pub ahead : from < e

  abbrev pub Stretched : Option Ran → Type 0
  Stretched (Some r) = Further r.end r.members r.rows r.bytes
  Stretched None = Went v o k from end None

-- ---- a container
pub record NoContainer (tag : ℕ) : Type 0 where
  pub no_array : tag ≡ 8 → ⊥
  pub no_object : tag ≡ 9 → ⊥

-- so many members stand in a content of n bytes
pub record Closing (v : List ℕ) (o : Bool) (n members : ℕ) : Type 0 where
  pub allow : ℕ
  pub rows : ℕ
  pub bytes : ℕ
  pub passed : Passed v o allow 0 n n members rows bytes

-- WHAT IS TOLD of them: whether no two keys are equal
pub record ClosedTold (v : List ℕ) (o : Bool) (n : ℕ) (b : Bool) : Type 0 where
  pub told : (k m rows bytes : ℕ) (p : Passed v o k 0 n n m rows bytes) → Tells (Distinct p.front) b
