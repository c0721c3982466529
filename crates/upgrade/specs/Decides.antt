-- WHAT THE DECISION PROMISES (02, Ticket 6). Assumes nothing.
use Rattle.std.specs.Prelude.{List, ℕ, Result, Ok, Err}
use Rattle.upgrade.specs.declared.Decision.{Decision}
use Rattle.upgrade.specs.declared.Decision.TheVariants.{Install, Keep, Blocked}
use Rattle.upgrade.specs.declared.Undecided.{Undecided}
use Rattle.upgrade.specs.declared.Undecided.TheVariants.{BadSheet, BadInstalled}
use Rattle.language.specs.Tree.{Tree}
use Rattle.language.specs.Sound.{Holds}
use Rattle.upgrade.specs.Version.{Version, Above}
use Rattle.upgrade.specs.Sheet.{Sheet}

-- "Any other or unsound sheet is 14, BADSHEET"; "number 15, BADINST"
abbrev pub BADSHEET : ℕ
BADSHEET = 14

abbrev pub BADINST : ℕ
BADINST = 15

-- the three answers, as the C function counts them
abbrev pub INSTALL : ℕ
INSTALL = 1

abbrev pub KEEP : ℕ
KEEP = 2

abbrev pub BLOCKED : ℕ
BLOCKED = 3

-- what `decide` answers
abbrev pub Answer : Type 0
Answer = Result Decision Undecided

-- the number and the value, a decision or a place, of each answer of `decide`
abbrev pub number : Answer → ℕ
number (Ok d) = 0
number (Err BadSheet) = BADSHEET
number (Err BadInstalled) = BADINST

abbrev pub value : Answer → ℕ
value (Ok Install) = INSTALL
value (Ok Keep) = KEEP
value (Ok Blocked) = BLOCKED
value (Err e) = 0

-- "install exactly if version is above installed and installed is not below floor; keep if version is not above installed; else blocked"
pub data Decided (version floor installed : List ℕ) : ℕ → Type 0 where
  installs : Above version installed → (Above floor installed → ⊥) → Decided version floor installed INSTALL
  keeps : (Above version installed → ⊥) → Decided version floor installed KEEP
  blocks : Above version installed → Above floor installed → Decided version floor installed BLOCKED

-- what is answered where S says which version and floor a sheet has, and I which version is installed: a number and a decision, or the place of the number.
-- BADINST is "tested first". "Both have place 0"
pub data Answers (S : List ℕ → List ℕ → Type 0) (I : List ℕ → Type 0) : ℕ → ℕ → Type 0 where
  decides : {v f i : List ℕ} {d : ℕ} → S v f → I i → Decided v f i d → Answers S I 0 d
  bad_sheet : {i : List ℕ} → I i → ((v f : List ℕ) → S v f → ⊥) → Answers S I BADSHEET 0
  bad_installed : ((i : List ℕ) → I i → ⊥) → Answers S I BADINST 0

-- "a release sheet and the installed version, each a table and text room": sound ones, of their shapes
pub record SheetIn (table : List ℕ) (rows : ℕ) (text : List ℕ) (version floor : List ℕ) : Type 0 where
  pub tree : Tree
  pub holds : Holds table rows text tree
  pub is : Sheet tree version floor

-- "a sound one of a root array of that shape"
pub record InstalledIn (table : List ℕ) (rows : ℕ) (text : List ℕ) (installed : List ℕ) : Type 0 where
  pub tree : Tree
  pub holds : Holds table rows text tree
  pub is : Version tree installed

-- THE PROMISE OF `decide`: the sheet's table, rows and text; the installed version's; the number and the decision
abbrev pub Decides : List ℕ → ℕ → List ℕ → List ℕ → ℕ → List ℕ → ℕ → ℕ → Type 0
Decides sheet rows text installed rows' text' = Answers (SheetIn sheet rows text) (InstalledIn installed rows' text')
