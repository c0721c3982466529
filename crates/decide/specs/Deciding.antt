-- FROM ROWS TO THE DECISION: each answer of the code, told by its rows, is the promised one. Assumes nothing.
use mathlib.Core.Path.{◌≡◌, sym, ap, ◌∙◌}
use Rattle.std.specs.Prelude.{Bool, List, ℕ, ◌+◌, ◌≤◌, ◌<◌}
use Rattle.std.proofs.Math.Bool.{true, false}
use Rattle.std.proofs.Common.{arith, ltb-true, ltb-false, lt-ltb, le-ltb}
use Rattle.std.proofs.Math.Dec.{ltb}
use Rattle.notation.specs.Class.{pick}
use Rattle.language.specs.Sound.{Sound}
use Rattle.language.specs.Written.{Sounded, is_sound, unsound}
use Rattle.language.specs.Answered.{BADROW}
use Rattle.questions.specs.Text.{text_of}
use Rattle.upgrade.specs.Version.{place, Higher, Above, most}
use Rattle.upgrade.specs.Order.{Equal, higher_once, equal_not_higher}
use Rattle.upgrade.specs.Sheet.{VERSION, FLOOR, IMAGE}
use Rattle.upgrade.specs.Decides.{BADSHEET, BADINST, INSTALL, KEEP, BLOCKED, SheetIn, Decides, installs, keeps, blocks, decides, bad_sheet, bad_installed}
use Rattle.decide.specs.Rows.{count_at, Natural, zero_text, zero_natural, value_of, VersionRow, ImageRow, place_text, number_at}
use Rattle.decide.specs.Contract.{InstalledRow, Object, SoughtRow, SheetRows, AboveRow}
use Rattle.decide.specs.Sheets.{row_installed, installed_row, rows_sheet, sheet_shown}

-- ---- places

module _ {table : List ℕ} {rows : ℕ} {text : List ℕ} {r : ℕ} (v : VersionRow table rows text r) where
  -- the text of any place denotes a number not below zero
  pub place_natural : (i : ℕ) → Natural (place_text table rows text r i)
  unfolding place_text
  place_natural i = go (ltb i (count_at table r)) mathlib.Core.Path.refl
    where
      go : (b : Bool) → ltb i (count_at table r) ≡ b → Natural (pick b (text_of table rows text (r + 1 + i)) zero_text)
      go true e = (v.places i (ltb-true i (count_at table r) e)).natural
      go false e = zero_natural

module _ (table : List ℕ) (rows : ℕ) (text : List ℕ) (r : ℕ) where
  -- a place that is there, and one that is missing and counts as zero
  pub place_there : (i : ℕ) → i < count_at table r → place_text table rows text r i ≡ text_of table rows text (r + 1 + i)
  unfolding place_text
  place_there i l = rw (lt-ltb i (count_at table r) l) mathlib.Core.Path.refl

  pub place_missing : (i : ℕ) → count_at table r ≤ i → place_text table rows text r i ≡ zero_text
  unfolding place_text
  place_missing i l = rw (le-ltb i (count_at table r) l) mathlib.Core.Path.refl

-- ---- which version is above

module _ {v w : ℕ → ℕ} {i : ℕ} (e : Equal v w i) where
  pub above_here : w i < v i → Higher v w
  above_here l = record { at = i; equal = e; greater = l }

  pub below_here : v i < w i → Higher v w → ⊥
  below_here l = higher_once (record { at = i; equal = λ j m. sym (e j m); greater = l })

module _ {table other : List ℕ} {rows rows' : ℕ} {text text' : List ℕ} {r s : ℕ} (v : VersionRow table rows text r) (w : VersionRow other rows' text' s) where
  pub level_all : {i : ℕ} → Equal (number_at table rows text r) (number_at other rows' text' s) i → most ≤ i → AboveRow table rows text r other rows' text' s → ⊥
  level_all {i} e l = equal_not_higher (λ j. by j (ltb j i) mathlib.Core.Path.refl)
    where
      by : (j : ℕ) (b : Bool) → ltb j i ≡ b → number_at table rows text r j ≡ number_at other rows' text' s j
      by j true h = e j (ltb-true j i h)
      by j false h =
          let m = ltb-false j i h in
          ap value_of (place_missing table rows text r j (omega (arith, v.few)) ∙ sym (place_missing other rows' text' s j (omega (arith, w.few))))

-- ---- tables

pub sounded_yes : {table : List ℕ} {rows : ℕ} {text : List ℕ} {n : ℕ} → Sounded table rows text n → n ≡ 0 → Sound table rows text
sounded_yes (is_sound s) e = s
sounded_yes (unsound f) e = absurd (omega arith)

pub sounded_no : {table : List ℕ} {rows : ℕ} {text : List ℕ} {n : ℕ} → Sounded table rows text n → n ≡ BADROW → Sound table rows text → ⊥
sounded_no (is_sound s) e = absurd (omega arith)
sounded_no (unsound f) e = f

-- ---- no sheet

module _ {table : List ℕ} {rows : ℕ} {text : List ℕ} where
  pub no_object : (Object table rows text → ⊥) → (v f : List ℕ) → SheetIn table rows text v f → ⊥
  no_object n v f x = n (sheet_shown table rows text x).whole

  pub no_version : {r : ℕ} → SoughtRow table rows text VERSION r → (VersionRow table rows text r → ⊥) → (v f : List ℕ) → SheetIn table rows text v f → ⊥
  no_version q n v f x = n ((sheet_shown table rows text x).version _ q)

  pub no_floor : {r : ℕ} → SoughtRow table rows text FLOOR r → (VersionRow table rows text r → ⊥) → (v f : List ℕ) → SheetIn table rows text v f → ⊥
  no_floor q n v f x = n ((sheet_shown table rows text x).floor _ q)

  pub no_image : {r : ℕ} → SoughtRow table rows text IMAGE r → (ImageRow table rows text r → ⊥) → (v f : List ℕ) → SheetIn table rows text v f → ⊥
  no_image q n v f x = n ((sheet_shown table rows text x).image _ q)

-- ---- the decision

-- the order of the rows' numbers is that of the versions
numbers_above : {v w : ℕ → ℕ} (a b : List ℕ) → ((i : ℕ) → v i ≡ place a i) → ((i : ℕ) → w i ≡ place b i) → Higher v w → Above a b
numbers_above a b f g h =
    record { at = h.at; equal = λ i l. sym (f i) ∙ (h.equal i l ∙ g i); greater = omega (arith, h.greater, f h.at, g h.at) }

above_numbers : {v w : ℕ → ℕ} (a b : List ℕ) → ((i : ℕ) → v i ≡ place a i) → ((i : ℕ) → w i ≡ place b i) → Above a b → Higher v w
above_numbers a b f g h =
    record { at = h.at; equal = λ i l. f i ∙ (h.equal i l ∙ sym (g i)); greater = omega (arith, h.greater, f h.at, g h.at) }

module _ {table installed : List ℕ} {rows rows' : ℕ} {text text' : List ℕ} where
  pub told_uninstalled : (InstalledRow installed rows' text' → ⊥) → Decides table rows text installed rows' text' BADINST 0
  told_uninstalled n = bad_installed (λ i x. n (installed_row installed rows' text' x))

  pub told_no_sheet : InstalledRow installed rows' text' → ((v f : List ℕ) → SheetIn table rows text v f → ⊥) → Decides table rows text installed rows' text' BADSHEET 0
  told_no_sheet i n = bad_sheet (row_installed installed rows' text' i).is n

  module _ {v f : ℕ} (s : SheetRows table rows text v f) (i : InstalledRow installed rows' text') where
    pub told_install : AboveRow table rows text v installed rows' text' 0 → (AboveRow table rows text f installed rows' text' 0 → ⊥) → Decides table rows text installed rows' text' 0 INSTALL
    told_install a b =
        let x = rows_sheet table rows text s in
        let y = row_installed installed rows' text' i in
        decides x.is y.is
        (installs (numbers_above x.version y.list x.versions y.numbers a) (λ h. b (above_numbers x.floor y.list x.floors y.numbers h)))

    pub told_blocked : AboveRow table rows text v installed rows' text' 0 → AboveRow table rows text f installed rows' text' 0 → Decides table rows text installed rows' text' 0 BLOCKED
    told_blocked a b =
        let x = rows_sheet table rows text s in
        let y = row_installed installed rows' text' i in
        decides x.is y.is
        (blocks (numbers_above x.version y.list x.versions y.numbers a) (numbers_above x.floor y.list x.floors y.numbers b))

    pub told_keep : (AboveRow table rows text v installed rows' text' 0 → ⊥) → Decides table rows text installed rows' text' 0 KEEP
    told_keep n =
        let x = rows_sheet table rows text s in
        let y = row_installed installed rows' text' i in
        decides x.is y.is (keeps (λ h. n (above_numbers x.version y.list x.versions y.numbers h)))
