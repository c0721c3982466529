-- WHAT THE FUNCTIONS OF THE DECISION PROMISE EACH OTHER. The promise does not rest on these. Assumes nothing.
use Rattle.std.specs.Prelude.{◌≡◌, List, Bool, true, false, ℕ, Option, Some, None}
use Rattle.language.specs.Kind.{OBJECT}
use Rattle.language.specs.Sound.{Sound}
use Rattle.questions.specs.Walk.{Reply, Finds}
use Rattle.upgrade.specs.Version.{Higher}
use Rattle.upgrade.specs.Sheet.{VERSION, FLOOR, IMAGE}
use Rattle.upgrade.specs.Decides.{SheetIn}
use Rattle.decide.specs.declared.sheets.Sheet.{Sheet}
use Rattle.decide.specs.Rows.{kind_at, count_at, Inside, VersionRow, ImageRow, number_at}

module _ (table : List ℕ) (rows : ℕ) (text : List ℕ) where
  -- a sound table of a version
  pub record InstalledRow : Type 0 where
    pub sound : Sound table rows text
    pub row : VersionRow table rows text 0

  -- a sound table of an object of three pairs
  pub data Object : Type 0 where
    object : Sound table rows text → kind_at table 0 ≡ OBJECT → count_at table 0 ≡ 3 → Object

  -- the row that finding a key in the root answers, or the root's own, 0
  pub record SoughtRow (key : List ℕ) (r : ℕ) : Type 0 where
    pub reply : Reply
    pub finds : Finds table rows text key 0 reply
    pub is : r ≡ reply.value

  abbrev pub Sought : List ℕ → Option ℕ → Type 0
  Sought key (Some r) = SoughtRow key r
  Sought key None = SoughtRow key 0

  -- the row of a version under a key, where there is one
  pub record VersionAt (key : List ℕ) (r : ℕ) : Type 0 where
    pub sought : SoughtRow key r
    pub row : VersionRow table rows text r

  pub record NoVersion (key : List ℕ) : Type 0 where
    pub r : ℕ
    pub sought : SoughtRow key r
    pub other : VersionRow table rows text r → ⊥

  abbrev pub VersionUnder : List ℕ → Option ℕ → Type 0
  VersionUnder key (Some r) = VersionAt key r
  VersionUnder key None = NoVersion key

  -- whether an image is under its key
  pub data ImageUnder : Bool → Type 0 where
    image : {r : ℕ} → SoughtRow IMAGE r → ImageRow table rows text r → ImageUnder true
    no_image : {r : ℕ} → SoughtRow IMAGE r → (ImageRow table rows text r → ⊥) → ImageUnder false

  -- a sheet, by the rows of its version and its floor
  pub record SheetRows (v f : ℕ) : Type 0 where
    pub whole : Object
    pub version : SoughtRow VERSION v
    pub version_row : VersionRow table rows text v
    pub floor : SoughtRow FLOOR f
    pub floor_row : VersionRow table rows text f
    pub image : ImageUnder true

  abbrev pub SheetTold : Option Sheet → Type 0
  SheetTold (Some s) = SheetRows s.version s.floor
  SheetTold None = (v f : List ℕ) → SheetIn table rows text v f → ⊥

-- two versions, each in a row of its table
pub record Versions (table : List ℕ) (rows : ℕ) (text : List ℕ) (r : ℕ) (other : List ℕ) (rows' : ℕ) (text' : List ℕ) (s : ℕ) : Type 0 where
  pub inside : Inside table rows r
  pub version : VersionRow table rows text r
  pub inside_too : Inside other rows' s
  pub other_version : VersionRow other rows' text' s

-- the one is above the other
abbrev pub AboveRow : List ℕ → ℕ → List ℕ → ℕ → List ℕ → ℕ → List ℕ → ℕ → Type 0
AboveRow table rows text r other rows' text' s = Higher (number_at table rows text r) (number_at other rows' text' s)
