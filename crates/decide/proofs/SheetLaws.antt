-- Laws of sheets and of the decision. Assumes nothing.
use Rattle.std.proofs.Common.{◌≡◌, ℕ, Bool, true, false, List, ap, arith}
use Rattle.exact.specs.Tells.{Tells}
use Rattle.notation.specs.Class.{pick}
use Rattle.language.specs.Kind.{OBJECT}
use Rattle.language.specs.Answered.{BADROW}
use Rattle.language.specs.Sound.{Sound}
use Rattle.language.specs.Written.{Sounded}
use Rattle.sound.specs.Members.{some_size}
use Rattle.upgrade.specs.Sheet.{IMAGE}
use Rattle.upgrade.specs.Decides.{SheetIn}
use Rattle.decide.specs.Rows.{kind_at, Whole, Inside, VersionRow, ImageRow}
use Rattle.decide.specs.Contract.{InstalledRow, Object, object, SoughtRow, ImageUnder, image, no_image, SheetRows, Versions}
use Rattle.decide.specs.Sheets.{sought_inside}
use Rattle.decide.specs.Deciding.{sounded_yes, no_object, no_version, no_floor}

-- ---- what is sought in the root

module _ (table : List ℕ) (rows : ℕ) (text : List ℕ) (o : Object table rows text) where
  object_kind : {table : List ℕ} {rows : ℕ} {text : List ℕ} → Object table rows text → kind_at table 0 ≡ OBJECT
  object_kind (object s k n) = k

  pub row_inside : (key : List ℕ) (r : ℕ) → SoughtRow table rows text key r → Inside table rows r
  row_inside key r q = sought_inside table rows text o q

  -- neither a version nor an image is in a root that is an object
  pub not_root : VersionRow table rows text 0 → ⊥
  not_root v = omega (arith, object_kind o, v.kind_is)

  pub no_root_image : ImageRow table rows text 0 → ⊥
  no_root_image v = omega (arith, object_kind o, v.kind_is)

pub image_told : (table : List ℕ) (rows : ℕ) (text : List ℕ) (r : ℕ) → SoughtRow table rows text IMAGE r → (b : Bool) → Tells (ImageRow table rows text r) b → ImageUnder table rows text b
image_told table rows text r q true t = image q t
image_told table rows text r q false t = no_image q t

-- ---- no sheet

module _ (table : List ℕ) (rows : ℕ) (text : List ℕ) where
  pub sheet_without_image : ImageUnder table rows text false → (v f : List ℕ) → SheetIn table rows text v f → ⊥
  sheet_without_image (no_image q f) = Rattle.decide.specs.Deciding.no_image q f

-- ---- a sound table

sound_first : {table : List ℕ} {rows : ℕ} {text : List ℕ} → Sound table rows text → Inside table rows 0
sound_first s = record { fits = s.holds.rows_fit; below = omega (arith, s.holds.count, some_size s.tree) }

module _ (table : List ℕ) (rows : ℕ) (text : List ℕ) (b : Bool) (x : Sounded table rows text (pick b 0 BADROW)) (e : b ≡ true) where
  pub first_inside : Inside table rows 0
  first_inside = sound_first (sounded_yes x (ap (λ (c : Bool). pick c 0 BADROW) e))

  pub first_whole : Whole table 0
  first_whole = let x = first_inside in omega (arith, x.fits, x.below)

-- ---- the decision

pub version_ready : (table : List ℕ) (rows : ℕ) (text : List ℕ) (v f : ℕ) (other : List ℕ) (rows' : ℕ) (text' : List ℕ) → SheetRows table rows text v f → InstalledRow other rows' text'
    → Versions table rows text v other rows' text' 0
version_ready table rows text v f other rows' text' s i =
    record {
      inside = sought_inside table rows text s.whole s.version;
      version = s.version_row;
      inside_too = sound_first i.sound;
      other_version = i.row;
    }

pub floor_ready : (table : List ℕ) (rows : ℕ) (text : List ℕ) (v f : ℕ) (other : List ℕ) (rows' : ℕ) (text' : List ℕ) → SheetRows table rows text v f → InstalledRow other rows' text'
    → Versions table rows text f other rows' text' 0
floor_ready table rows text v f other rows' text' s i =
    record {
      inside = sought_inside table rows text s.whole s.floor;
      version = s.floor_row;
      inside_too = sound_first i.sound;
      other_version = i.row;
    }
