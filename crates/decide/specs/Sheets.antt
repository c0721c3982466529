-- SHEETS AND INSTALLED VERSIONS BY THEIR ROWS: what the code finds in a sound table is what its tree has, and back. Assumes nothing.
use Rattle.std.specs.Prelude.{◌≡◌, List, true, ℕ, ◌+◌, ◌<◌}
use Rattle.std.proofs.Common.{sym, ◌∙◌, arith}
use Rattle.std.proofs.Math.Path.{subst}
use Rattle.language.specs.Kind.{ARRAY, OBJECT, BYTES}
use Rattle.language.specs.Tree.{Tree, node, Forest, size, sizes, inside}
use Rattle.language.specs.Answered.{deepest}
use Rattle.language.specs.Sound.{Holds, Sound}
use Rattle.questions.specs.Walk.{Reply}
use Rattle.shaped.specs.Shaped.{Shaped, shaped_leaf, shaped_array, shaped_object, Pairs}
use Rattle.shaped.specs.RowsAt.{RowsAt, leaf_row, node_row}
use Rattle.shaped.specs.Holds.{profile_shaped, holds_at}
use Rattle.upgrade.specs.Version.{Version, place}
use Rattle.upgrade.specs.Sheet.{Under, VERSION, FLOOR, IMAGE, Image, Sheet, sheet}
use Rattle.upgrade.specs.Unique.{under_one}
use Rattle.upgrade.specs.Decides.{SheetIn, InstalledIn}
use Rattle.decide.specs.Rows.{kind_at, count_at, Inside, VersionRow, ImageRow, number_at}
use Rattle.decide.specs.Trees.{Stands, version_reads, row_version, image_row, row_image, no_container}
use Rattle.decide.specs.Found.{Seen, seen, unseen, find_seen}
use Rattle.decide.specs.Exactly.{pairs_alone, three_named, named_three}
use Rattle.decide.specs.Contract.{InstalledRow, Object, object, SoughtRow, ImageUnder, image, SheetRows}

module _ (table : List ℕ) (rows : ℕ) (text : List ℕ) where
  -- a tree that a table holds stands from the first row on
  root : {t : Tree} (h : Holds table rows text t) → Stands table rows text h.rows_fit deepest 0 0 0 t
  root h = record { shaped = profile_shaped h.profile; at = holds_at h; below = omega (arith, h.count) }

  -- ---- installed versions

  -- an installed version with its numbers
  pub record Installed : Type 0 where
    pub list : List ℕ
    pub is : InstalledIn table rows text list
    pub numbers : (i : ℕ) → number_at table rows text 0 i ≡ place list i

  pub row_installed : InstalledRow table rows text → Installed
  row_installed x =
      let h = x.sound.holds in
      let s = root h in
      let v = row_version table rows text h.rows_fit s.shaped s.at x.row in
      record { list = v.list; is = record { tree = x.sound.tree; holds = h; is = v.is }; numbers = (version_reads table rows text h.rows_fit s v.is).numbers }

  pub installed_row : {i : List ℕ} → InstalledIn table rows text i → InstalledRow table rows text
  installed_row x =
      let h = x.holds in
      record { sound = record { tree = x.tree; holds = h }; row = (version_reads table rows text h.rows_fit (root h) x.is).row }

  -- ---- the object

  -- a tree with an object as root
  pub record Rooted (ts : Forest) : Type 0 where
    pub from : ℕ
    pub to : ℕ
    pub count : ℕ
    pub holds : Holds table rows text (node OBJECT from to count ts)

  module _ {ts : Forest} (x : Rooted ts) where
    abbrev tree : Tree
    tree = node OBJECT x.from x.to x.count ts

    pub record Whole : Type 0 where
      pub allow : ℕ
      pub pairs : Pairs allow x.count ts

    whole : Whole
    whole = by (profile_shaped x.holds.profile)
      where
        by : {k : ℕ} → Shaped k tree → Whole
        by (shaped_object {k = k} zs) = record { allow = k; pairs = zs }

    -- what is sought stands there, or nothing is under the key
    pub data SoughtAt (s : List ℕ) (r : ℕ) : Type 0 where
      sought_at : {k p y : ℕ} {v : Tree} → Under s v ts → Stands table rows text x.holds.rows_fit k r p y v → SoughtAt s r
      sought_none : r ≡ 0 → ((v : Tree) → Under s v ts → ⊥) → SoughtAt s r

    few : 1 + sizes ts ≡ rows
    unfolding size
    few = omega (arith, x.holds.count)

    pub sought : {s : List ℕ} {r : ℕ} → SoughtRow table rows text s r → SoughtAt s r
    unfolding size
    sought {s} {r} q = by q.reply q.is (find_seen table rows text x.holds.rows_fit whole.pairs (holds_at x.holds) (omega (arith, few)) q.finds)
      where
        by : (reply : Reply) → r ≡ reply.value → Seen table rows text x.holds.rows_fit whole.allow 1 0 (1 + sizes ts) s ts reply → SoughtAt s r
        by _ e (seen {i = i} {x = y} {v = v} u z h l m) =
            sought_at u (record { shaped = z; at = subst (λ (j : ℕ). RowsAt table text j 0 y v) (sym e) h; below = omega (arith, few) })
        by _ e (unseen f) = sought_none e f

    -- a version under a key, by its row
    sought_version : {s : List ℕ} {r : ℕ} {v : Tree} {ns : List ℕ} → SoughtRow table rows text s r → Under s v ts → Version v ns → VersionRow table rows text r
    sought_version {s} {r} {v} {ns} q u y = by (sought q)
      where
        by : SoughtAt s r → VersionRow table rows text r
        by (sought_none e f) = absurd (f v u)
        by (sought_at {v = w} u' z) =
            let g = under_one (λ p i. x.holds.profile.once p (inside i)) u u' in
            (version_reads table rows text x.holds.rows_fit z (subst (λ (t : Tree). Version t ns) g y)).row

    some_rows : {k r p y : ℕ} {v : Tree} → Stands table rows text x.holds.rows_fit k r p y v → r < rows
    some_rows {v = v} z = omega (arith, z.below, Rattle.sound.specs.Members.some_size v)

    sought_image : {s : List ℕ} {r : ℕ} {v : Tree} → SoughtRow table rows text s r → Under s v ts → Image v → ImageRow table rows text r
    sought_image {s} {r} {v} q u y = by (sought q)
      where
        by : SoughtAt s r → ImageRow table rows text r
        by (sought_none e f) = absurd (f v u)
        by (sought_at {v = w} u' z) =
            let g = under_one (λ p i. x.holds.profile.once p (inside i)) u u' in
            image_row table rows text x.holds.rows_fit z.at (some_rows z) (subst Image g y)

    -- the row that is sought is one of the table's
    sought_below : {s : List ℕ} {r : ℕ} → SoughtRow table rows text s r → r < rows
    sought_below {s} {r} q = by (sought q)
      where
        by : SoughtAt s r → r < rows
        by (sought_none e f) = omega (arith, few)
        by (sought_at u z) = some_rows z

    root_kind : kind_at table 0 ≡ OBJECT
    root_kind = (node_row table text (holds_at x.holds)).kind_is

    root_count : count_at table 0 ≡ x.count
    root_count = (node_row table text (holds_at x.holds)).to_is

    -- a version's row under a key
    pub record Version-at (s : List ℕ) (r : ℕ) : Type 0 where
      pub value : Tree
      pub under : Under s value ts
      pub list : List ℕ
      pub is : Version value list
      pub numbers : (i : ℕ) → number_at table rows text r i ≡ place list i

    version_at : {s : List ℕ} {r : ℕ} → SoughtRow table rows text s r → VersionRow table rows text r → Version-at s r
    version_at {s} {r} q v = by (sought q)
      where
        by : SoughtAt s r → Version-at s r
        by (sought_none e f) = absurd (omega (arith, subst (λ (j : ℕ). kind_at table j ≡ ARRAY) e v.kind_is, root_kind))
        by (sought_at {v = w} u z) =
            let y = row_version table rows text x.holds.rows_fit z.shaped z.at v in
            record { value = w; under = u; list = y.list; is = y.is; numbers = (version_reads table rows text x.holds.rows_fit z y.is).numbers }

    pub record Image-at (s : List ℕ) : Type 0 where
      pub value : Tree
      pub under : Under s value ts
      pub is : Image value

    image_at : {s : List ℕ} {r : ℕ} → SoughtRow table rows text s r → ImageRow table rows text r → Image-at s
    image_at {s} {r} q v = by (sought q)
      where
        by : SoughtAt s r → Image-at s
        by (sought_none e f) = absurd (omega (arith, subst (λ (j : ℕ). kind_at table j ≡ BYTES) e v.kind_is, root_kind))
        by (sought_at {v = w} u z) = record { value = w; under = u; is = row_image table rows text x.holds.rows_fit z.shaped z.at (some_rows z) v }

    image_under : ImageUnder table rows text true → Image-at IMAGE
    image_under (image q v) = image_at q v

  -- ---- sheets

  -- the tree of an object's table
  pub record Tree-of : Type 0 where
    pub children : Forest
    pub rooted : Rooted children

  tree_of : Sound table rows text → kind_at table 0 ≡ OBJECT → Tree-of
  tree_of s e = by s.tree s.holds (profile_shaped s.holds.profile)
    where
      by : (t : Tree) → Holds table rows text t → {k : ℕ} → Shaped k t → Tree-of
      by _ h (shaped_leaf {kind = k} z) = absurd (no_container z (omega (arith, (leaf_row table text (holds_at h)).kind_is)))
      by _ h (shaped_array z) = absurd (omega (arith, (node_row table text (holds_at h)).kind_is))
      by _ h (shaped_object {a = a} {e = e} {n = n} {ts = ts} z) = record { children = ts; rooted = record { from = a; to = e; count = n; holds = h } }

  pub sought_inside : {s : List ℕ} {r : ℕ} → Object table rows text → SoughtRow table rows text s r → Inside table rows r
  sought_inside (object x e n) q = let t = tree_of x e in record { fits = t.rooted.holds.rows_fit; below = sought_below t.rooted q }

  -- a sheet with its numbers
  pub record Sheeted (v f : ℕ) : Type 0 where
    pub version : List ℕ
    pub floor : List ℕ
    pub is : SheetIn table rows text version floor
    pub versions : (i : ℕ) → number_at table rows text v i ≡ place version i
    pub floors : (i : ℕ) → number_at table rows text f i ≡ place floor i

  pub rows_sheet : {v f : ℕ} → SheetRows table rows text v f → Sheeted v f
  rows_sheet {v} {f} x = by x.whole
    where
      by : Object table rows text → Sheeted v f
      by (object s k m) =
          let t = tree_of s k in
          let r = t.rooted in
          let v = version_at r x.version x.version_row in
          let f = version_at r x.floor x.floor_row in
          let i = image_under r x.image in
          let zs = (whole r).pairs in
          let o = pairs_alone zs (λ p h. r.holds.profile.once p (inside h)) in
          let n : r.count ≡ 3 = sym (root_count r) ∙ m in
          record {
            version = v.list;
            floor = f.list;
            is =
                record {
                  tree = tree r;
                  holds = r.holds;
                  is = sheet v.under v.is f.under f.is i.under i.is (three_named zs o v.under f.under i.under n);
                };
            versions = v.numbers;
            floors = f.numbers;
          }

  -- ---- and back: what a sheet's rows are

  pub record Shown (v f : List ℕ) : Type 0 where
    pub whole : Object table rows text
    pub version : (r : ℕ) → SoughtRow table rows text VERSION r → VersionRow table rows text r
    pub floor : (r : ℕ) → SoughtRow table rows text FLOOR r → VersionRow table rows text r
    pub image : (r : ℕ) → SoughtRow table rows text IMAGE r → ImageRow table rows text r

  shows : {t : Tree} {v f : List ℕ} → Holds table rows text t → Sheet t v f → Shown v f
  shows {t} h (sheet {a = a} {e = e} {c = c} {ts = ts} p y q z m i only) =
      let r : Rooted ts = record { from = a; to = e; count = c; holds = h } in
      let zs = (whole r).pairs in
      let o = pairs_alone zs (λ p h. r.holds.profile.once p (inside h)) in
      record {
        whole = object (record { tree = t; holds = h }) (root_kind r) (root_count r ∙ named_three zs o p q m only);
        version = λ j s. sought_version r s p y;
        floor = λ j s. sought_version r s q z;
        image = λ j s. sought_image r s m i;
      }

  pub sheet_shown : {v f : List ℕ} → SheetIn table rows text v f → Shown v f
  sheet_shown x = shows x.holds x.is
