-- CONTAINERS of shaped values are shaped, with one more container around them. Assumes nothing.
use Rattle.std.specs.Prelude.{List, [], ◌∷◌, ℕ, suc}
use Rattle.language.specs.Tree.{Tree, Forest, more, Field, field, Entry, entry, forest, count, fields, entries, array_tree, object_tree, block_array, block_object}
use Rattle.spans.specs.Ascii.{Each}
use Rattle.shaped.specs.Shaped.{Shaped, shaped_array, shaped_object, Elements, elements_none, elements_more, Pairs, pairs_none, pairs_more}
use Rattle.shaped.specs.Quoted.{KeyShaped, key_shaped}

-- a key and a shaped value; a dash and a shaped value
abbrev pub FieldShaped : ℕ → Field → Type 0
FieldShaped k (field ky v) = KeyShaped ky × Shaped k v

abbrev pub EntryShaped : ℕ → Entry → Type 0
EntryShaped k (entry d v) = Shaped k v

elements_of : {k : ℕ} (ts : List Tree) → Each (Shaped k) ts → Elements k (count ts) (forest ts)
elements_of [] h = elements_none
elements_of (t ∷ ts) h = elements_more h.0 (elements_of ts h.1)

pair_of : {k n : ℕ} {ky v : Tree} {ts : Forest} → KeyShaped ky → Shaped k v → Pairs k n ts → Pairs k (suc n) (more ky (more v ts))
pair_of (key_shaped h) x y = pairs_more h x y

pairs_of : {k : ℕ} (fs : List Field) → Each (FieldShaped k) fs → Pairs k (count fs) (forest (fields fs))
pairs_of [] h = pairs_none
pairs_of (field ky v ∷ fs) h = pair_of h.0.0 h.0.1 (pairs_of fs h.1)

entries_of : (k : ℕ) (es : List Entry) → Each (EntryShaped k) es → Each (Shaped k) (entries es)
entries_of k [] h = tt
entries_of k (entry d v ∷ es) h = (h.0, entries_of k es h.1)

pub array_of : {k : ℕ} (a e : ℕ) (ts : List Tree) → Each (Shaped k) ts → Shaped (suc k) (array_tree a e ts)
array_of a e ts h = shaped_array (elements_of ts h)

pub object_of : {k : ℕ} (a e : ℕ) (fs : List Field) → Each (FieldShaped k) fs → Shaped (suc k) (object_tree a e fs)
object_of a e fs h = shaped_object (pairs_of fs h)

pub block_array_of : {k : ℕ} (es : List Entry) → Each (EntryShaped k) es → Shaped (suc k) (block_array es)
block_array_of [] h = array_of 0 0 [] tt
block_array_of {k} (entry d v ∷ es) h = array_of d _ (v ∷ entries es) (entries_of k (entry d v ∷ es) h)

pub block_object_of : {k : ℕ} (fs : List Field) → Each (FieldShaped k) fs → Shaped (suc k) (block_object fs)
block_object_of [] h = object_of 0 0 [] tt
block_object_of (field ky v ∷ fs) h = object_of _ _ (field ky v ∷ fs) h
