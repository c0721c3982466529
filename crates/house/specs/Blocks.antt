-- BLOCKS: the items and properties that are written are an array's and an object's, like those of the tree. Assumes nothing.
use Rattle.std.specs.Prelude.{◌≡◌, refl, List, [], ◌∷◌, ◌++◌, Bool, true, false, ℕ, zero, suc, ◌+◌, length, drop}
use Rattle.std.proofs.Common.{append_assoc}
use Rattle.notation.specs.Class.{pick, or}
use Rattle.notation.specs.Lang.{Lang, ◌>>◌, Alt}
use Rattle.exact.specs.Class.{only_is, or_right}
use Rattle.language.specs.Kind.{ARRAY, OBJECT, KEY}
use Rattle.language.specs.Tree.{Tree, leaf, node, Forest, more, forest, count, fields, entries, block_array, block_object}
use Rattle.language.specs.Characters.{Space, Feed, Option, LineComment}
use Rattle.language.specs.Strings.{Key}
use Rattle.language.specs.BlockText.{spaces, PropertyString, PropertyBytes}
use Rattle.language.specs.Blocks.{ValueLine, Property, Object, Dashed, Array, Nested, Item}
use Rattle.language.specs.House.{is_key, is_none, inline, one_line, value, item, block, items, properties}
use Rattle.shaped.specs.Shaped.{Shaped, shaped_leaf, shaped_array, shaped_object, Elements, elements_none, elements_more, Pairs, pairs_none, pairs_more}
use Rattle.house.specs.Spells.{Spells, one_reads, two_reads, one_spells, two_spells, ret_reads, seq_reads, last_reads, here_then, byte_then, word_then}
use Rattle.house.specs.Same.{Like, Same, same_none, LikeField, like_field, same_field, LikeEntry, like_entry, same_entry, array_like, object_like}
use Rattle.house.specs.Leaves.{no_key}
use Rattle.house.specs.Inline.{value_spells, key_like}
use Rattle.house.specs.Laid.{Laid, laid_none, laid_more, block_spells, below_spells}

-- a value on its line
pub line_spells : {k : ℕ} {t : Tree} → Shaped k t → (at : ℕ) → Spells (ValueLine k) at (one_line t) (Like t)
line_spells x at =
    let r = value_spells true at x in
    record { value = r.value; reads = seq_reads r.reads (seq_reads (two_reads ret_reads) (byte_then (only_is 10) ret_reads)); good = r.good }

-- what stands behind a key and its colon
abbrev After : ℕ → ℕ → Lang Tree → Lang Tree
After k n N = Alt (Space >> Alt (ValueLine k) (Alt (PropertyString n) (PropertyBytes n))) (Option LineComment >> (Feed >> N))

module _ (k n : ℕ) {N : Lang Tree} where
  after_line : {at : ℕ} {w : List ℕ} {P : Tree → Type 0} → ((at : ℕ) → Spells (ValueLine k) at w P) → Spells (After k n N) at (32 ∷ w) P
  after_line {at} f =
      let r = f (suc at) in
      record { value = r.value; reads = one_reads (byte_then (only_is 32) (one_reads r.reads)); good = r.good }

  after_feed : {at : ℕ} {w : List ℕ} {P : Tree → Type 0} → ((at : ℕ) → Spells N at w P) → Spells (After k n N) at (10 ∷ w) P
  after_feed {at} f =
      let r = f (suc (at + 0)) in
      record { value = r.value; reads = two_reads (seq_reads (two_reads ret_reads) (byte_then (only_is 10) r.reads)); good = r.good }

  -- on its line where it is empty, or as a block below
  after_either : {line block : List ℕ} {P : Tree → Type 0} (at : ℕ) (c : Bool)
      → ((at : ℕ) → Spells (ValueLine k) at line P) → (c ≡ false → (at : ℕ) → Spells N at block P) → Spells (After k n N) at (pick c (32 ∷ line) (10 ∷ block)) P
  after_either at true f g = after_line f
  after_either at false f g = after_feed (g refl)

  property_spells : {y v : Tree} → ((at : ℕ) → Spells Key at (inline y) (Like y)) → ((at : ℕ) → Spells (After k n N) at (value v (block (suc (suc n)) v)) (Like v)) → (at : ℕ)
      → Spells (Property k n N) at (inline y ++ 58 ∷ value v (block (suc (suc n)) v)) (LikeField y v)
  property_spells {y} f g at =
      let a = f at in
      let b = g (suc (at + length (inline y))) in
      record { value = _; reads = seq_reads a.reads (byte_then (only_is 58) (last_reads b.reads ret_reads)); good = like_field a.good b.good }

-- what stands behind a dash and its space
dashed_spells : {I : Lang Tree} {t : Tree} {w : List ℕ} → ((at : ℕ) → Spells I at w (Like t)) → (at : ℕ) → Spells (Dashed I) at (45 ∷ 32 ∷ w) (LikeEntry t)
dashed_spells f at =
    let r = f (at + 2) in
    record { value = _; reads = here_then (word_then (45 ∷ 32 ∷ []) (last_reads r.reads ret_reads)); good = like_entry r.good }

item_line : (k c : ℕ) {at : ℕ} {w : List ℕ} {P : Tree → Type 0} → Spells (ValueLine k) at w P → Spells (Item k c) at w P
item_line zero c r = one_spells r
item_line (suc k) c r = one_spells (one_spells r)

-- ITEMS AND PROPERTIES of a tree, laid out at a column
abbrev pub Items : ℕ → ℕ → Forest → ℕ → Type 0
Items k n ts m = Laid m (Dashed (Item k (suc (suc m)))) (is_none ts) (items m ts) (λ xs. Same n ts (count (entries xs)) (forest (entries xs)))

abbrev pub Properties : ℕ → ℕ → Forest → ℕ → Type 0
Properties k n ts m = Laid m (Property k m (Nested k (suc (suc m)))) (is_none ts) (properties m ts) (λ fs. Same n ts (count fs) (forest (fields fs)))

module _ {a e : ℕ} (k n : ℕ) (ts : Forest) (m : ℕ) where
  -- a block that begins here, and one below a property
  pub array_spells : Items k n ts m → is_none ts ≡ false → (at : ℕ) → Spells (Array m (Item k (suc (suc m)))) at (drop m (items m ts)) (Like (node ARRAY a e n ts))
  array_spells x h = block_spells x h block_array array_like

  pub object_spells : Properties k n ts m → is_none ts ≡ false → (at : ℕ)
      → Spells (Object k m (Nested k (suc (suc m)))) at (drop m (properties m ts)) (Like (node OBJECT a e n ts))
  object_spells x h = block_spells x h block_object object_like

  array_below : Items k n ts m → is_none ts ≡ false → (at : ℕ) → Spells (Nested (suc k) m) at (items m ts) (Like (node ARRAY a e n ts))
  array_below x h = below_spells x h (λ at. one_spells (one_spells (array_spells x h at)))

  object_below : Properties k n ts m → is_none ts ≡ false → (at : ℕ) → Spells (Nested (suc k) m) at (properties m ts) (Like (node OBJECT a e n ts))
  object_below x h = below_spells x h (λ at. one_spells (two_spells (object_spells x h at)))

-- an item: on its line where it is empty, or an object that begins here
item_either : {at : ℕ} {line block : List ℕ} {P : Tree → Type 0} (k c : ℕ) (b : Bool) → Spells (ValueLine (suc k)) at line P
    → (b ≡ false → Spells (Object k c (Nested k (suc (suc c)))) at block P) → Spells (Item (suc k) c) at (pick (or b false) line block) P
item_either k c true f g = item_line (suc k) c f
item_either k c false f g = two_spells (two_spells (g refl))

-- an item's bytes; a property's
items_are : (t : Tree) (ts : Forest) (m : ℕ) → items m (more t ts) ≡ spaces m ++ (45 ∷ 32 ∷ item (suc (suc m)) t (block (suc (suc m)) t) ++ items m ts)
unfolding items
items_are t ts m = append_assoc (spaces m) (45 ∷ 32 ∷ item (suc (suc m)) t (block (suc (suc m)) t)) (items m ts)

properties_are : (y v : Tree) (ts : Forest) (m : ℕ) → is_key y ≡ true → is_key v ≡ false
    → properties m (more y (more v ts)) ≡ spaces m ++ (inline y ++ 58 ∷ value v (block (suc (suc m)) v) ++ properties m ts)
unfolding properties
properties_are y v ts m e h = rw (e, h) (simp append_assoc)

mutual
  unfolding block items properties

  value_after : {k : ℕ} {t : Tree} → Shaped k t → (n at : ℕ) → Spells (After k n (Nested k (suc (suc n)))) at (value t (block (suc (suc n)) t)) (Like t)
  value_after (shaped_leaf {k = k} x) n at = after_line k n (line_spells {k = k} (shaped_leaf x))
  value_after (shaped_array {k = k} {n = c} {ts = ts} x) n at =
      after_either (suc k) n at (is_none ts) (line_spells (shaped_array x)) (array_below k c ts (suc (suc n)) (elements_laid x (suc (suc n))))
  value_after (shaped_object {k = k} {n = c} {ts = ts} x) n at =
      after_either (suc k) n at (is_none ts) (line_spells (shaped_object x)) (object_below k c ts (suc (suc n)) (pairs_laid x (suc (suc n))))

  item_after : {k : ℕ} {t : Tree} → Shaped k t → (c at : ℕ) → Spells (Item k c) at (item c t (block c t)) (Like t)
  item_after (shaped_leaf {k = k} x) c at = item_line k c (line_spells {k = k} (shaped_leaf x) at)
  item_after (shaped_array {k = k} {ts = ts} x) c at = rw (or_right (is_none ts) refl) (item_line (suc k) c (line_spells (shaped_array x) at))
  item_after (shaped_object {k = k} {n = n} {ts = ts} x) c at =
      item_either k c (is_none ts) (line_spells (shaped_object x) at) (λ e. object_spells k n ts c (pairs_laid x c) e at)

  pub elements_laid : {k n : ℕ} {ts : Forest} → Elements k n ts → (m : ℕ) → Items k n ts m
  elements_laid elements_none m = laid_none same_none
  elements_laid (elements_more {t = t} {ts = ts} x xs) m =
      laid_more (45 ∷ 32 ∷ item (suc (suc m)) t (block (suc (suc m)) t)) (items m ts) (items_are t ts m) (dashed_spells (λ at. item_after x (suc (suc m)) at)) (elements_laid xs m) same_entry

  pub pairs_laid : {k n : ℕ} {ts : Forest} → Pairs k n ts → (m : ℕ) → Properties k n ts m
  pairs_laid pairs_none m = laid_none same_none
  pairs_laid (pairs_more {k = k} {a = a} {e = e} {s = s} {v = v} {ts = ts} y x xs) m =
      laid_more
      (inline (leaf KEY a e s) ++ 58 ∷ value v (block (suc (suc m)) v))
      (properties m ts)
      (properties_are (leaf KEY a e s) v ts m refl (no_key x))
      (property_spells k m (key_like y) (λ at. value_after x m at))
      (pairs_laid xs m)
      same_field
