-- TREES IN THEIR BYTES: a tree that was read from the byte `at` up to the byte at' has its span, its rows, its text with its escapes, and its keys there. Assumes nothing.
use Rattle.std.specs.Prelude.{List, [], ◌∷◌, ◌++◌, ℕ, suc, ◌+◌, ◌*◌, ◌≤◌, ◌<◌, length}
use Rattle.std.proofs.Common.{arith, length-append}
use Rattle.language.specs.Tree.{Decoded, Tree, leaf, node, Forest, forest, count, first, after, Field, field, fields, Entry, entry, entries, end_of, array_tree, object_tree, block_array, block_object, size, sizes, text_of, texts_of, escapes_of, escapes_in}
use Rattle.spans.specs.Placed.{Placed, Along, placed_leaf, placed_node, along_none, along_more, along_wide, along_end, along_le, end_le, span_some}
use Rattle.spans.specs.Formed.{Formed, Elements, Pairs, IsKey, no_element, element, no_pair, pair, formed_array, formed_object}
use Rattle.spans.specs.Keys.{keys_in, keys_among, value_none, key_one}
use Rattle.spans.specs.Lies.{ElementsLie, Lie, Lies, LiesIn, PairsLie}

-- in more bytes
pub lies_from : {F : Tree → Type 0} {n j a b e : ℕ} {t : Tree} → a ≤ b → LiesIn F n j b t e → LiesIn F n j a t e
lies_from h x =
    let p = x.begins in
    let r = x.rows in
    let s = x.text in
    let k = x.keys in
    record { begins = omega arith; ends = x.ends; placed = x.placed; rows = omega arith; text = omega arith; keys = omega arith; formed = x.formed }

pub lies_to : {F : Tree → Type 0} {n j a e f : ℕ} {t : Tree} → e ≤ f → LiesIn F n j a t e → LiesIn F n j a t f
lies_to h x =
    let q = x.ends in
    let r = x.rows in
    let s = x.text in
    let k = x.keys in
    record { begins = x.begins; ends = omega arith; placed = x.placed; rows = omega arith; text = omega arith; keys = omega arith; formed = x.formed }

-- with a byte or more behind it
pub lies_line : {F : Tree → Type 0} {a m e : ℕ} {t : Tree} → m < e → Lies F 0 a t m → Lies F 1 a t e
lies_line h x =
    let p = x.begins in
    let q = x.ends in
    let r = x.rows in
    let s = x.text in
    let k = x.keys in
    record { begins = omega arith; ends = omega arith; placed = x.placed; rows = omega arith; text = omega arith; keys = omega arith; formed = x.formed }

-- with a byte or more in front of it, and with fewer free ones
pub lies_behind : {F : Tree → Type 0} {n j a b e : ℕ} {t : Tree} → a < b → LiesIn F n j b t e → LiesIn F n (suc j) a t e
lies_behind h x =
    let p = x.begins in
    let r = x.rows in
    let s = x.text in
    let k = x.keys in
    record { begins = omega arith; ends = x.ends; placed = x.placed; rows = omega arith; text = omega arith; keys = omega arith; formed = x.formed }

pub lies_less : {F : Tree → Type 0} {n j a e : ℕ} {t : Tree} → LiesIn F n (suc j) a t e → LiesIn F n j a t e
lies_less x =
    let k = x.keys in
    record { begins = x.begins; ends = x.ends; placed = x.placed; rows = x.rows; text = x.text; keys = omega arith; formed = x.formed }

-- a leaf whose span begins where it was read
pub leaf_lies : {F : Tree → Type 0} {n k a e at' : ℕ} {s : Decoded} → F (leaf k a e s) → a < e → e ≤ at' → n + suc a ≤ at' → n + a + (length s.bytes + s.escapes) ≤ at' → Lies F n a (leaf k a e s) at'
unfolding size text_of escapes_of keys_in
leaf_lies f h k l m = record { begins = omega arith; ends = k; placed = placed_leaf h; rows = omega arith; text = m; keys = omega arith; formed = f }

-- one tree more in front, with the bytes of its keys
lie_more : {F : Tree → Type 0} {n j a m b e : ℕ} {t : Tree} {ts : List Tree} → LiesIn F n j a t m → m ≤ b → Lie b ts e → a + 4 * keys_among (forest (t ∷ ts)) ≤ e → Lie a (t ∷ ts) e
unfolding sizes texts_of escapes_in
lie_more {a = a} {b = b} {e = e} {t = t} {ts = ts} x h y i =
    let p : a ≤ first t = x.begins in
    let q = x.ends in
    let r = x.rows in
    let s = x.text in
    let u = y.rows in
    let v = y.text in
    let w = length-append (text_of t) (texts_of (forest ts)) in
    let l : after t ≤ b = omega arith in
    let m : e ≤ e = omega arith in
    record { along = along_more p x.placed (along_wide l m y.along); rows = omega arith; text = omega arith; keys = i }

-- a value
value_more : {n j a b e : ℕ} {t : Tree} {ts : List Tree} → LiesIn Formed n j a t b → Lie b ts e → Lie a (t ∷ ts) e
unfolding keys_among
value_more {b = b} x y =
    let l : b ≤ b = omega arith in
    lie_more x l y (omega (arith, value_none x.formed, x.keys, y.keys))

-- a key and its value: the key, a colon, a space or an LF, and a byte of the value are its own four bytes
pair_keys : {n a m b e at' : ℕ} {k v : Tree} {ts : List Tree} → Lies IsKey 0 a k m → suc (suc m) ≤ b → Lies Formed n b v e → Lie e ts at'
    → n + a + 4 * keys_among (forest (k ∷ v ∷ ts)) ≤ at'
unfolding keys_among
pair_keys x h y z = omega (arith, key_one x.formed, value_none y.formed, x.keys, y.keys, z.keys)

pair_more : {n a m b e at' : ℕ} {k v : Tree} {ts : List Tree} → Lies IsKey 0 a k m → suc (suc m) ≤ b → Lies Formed n b v e → Lie e ts at' → Lie a (k ∷ v ∷ ts) at'
pair_more {m = m} {b = b} x h y z = let l : m ≤ b = omega arith in lie_more x l (value_more y z) (omega (arith, pair_keys x h y z))

-- a container
node_lies : {n j k at a e c at' : ℕ} {ts : Forest} → Formed (node k a e c ts) → at ≤ a → a < e → e ≤ at' → Along a ts e
    → n + suc at + sizes ts ≤ at' → n + at + (length (texts_of ts) + escapes_in ts) ≤ at' → j + at + 4 * keys_among ts ≤ at' → LiesIn Formed n j at (node k a e c ts) at'
unfolding size text_of escapes_of keys_in
node_lies f b h k l x y z = record { begins = b; ends = k; placed = placed_node h l; rows = omega arith; text = y; keys = z; formed = f }

-- inline, between brackets
module _ {a m : ℕ} {ts : List Tree} (x : Lie (suc a) ts m) where
  inline_lies : {k c : ℕ} → Formed (node k a (suc m) c (forest ts)) → Lies Formed 0 a (node k a (suc m) c (forest ts)) (suc m)
  inline_lies f =
      let p = x.rows in
      let q = x.text in
      let y = x.keys in
      let l : a ≤ suc a = omega arith in
      let r : m ≤ suc m = omega arith in
      node_lies f (omega arith) (omega arith) (omega arith) (along_wide l r x.along) (omega arith) (omega arith) (omega arith)

pub inline_array_lies : {a m : ℕ} {ts : List Tree} → ElementsLie (suc a) ts m → Lies Formed 0 a (array_tree a (suc m) ts) (suc m)
inline_array_lies x = inline_lies x.lie (formed_array x.all)

pub inline_object_lies : {a m : ℕ} {fs : List Field} → PairsLie (suc a) fs m → Lies Formed 0 a (object_tree a (suc m) fs) (suc m)
inline_object_lies x = inline_lies x.lie (formed_object x.all)

-- a block array, from its first dash on
pub block_array_lies : {a at' : ℕ} {v : Tree} (es : List Entry) → ElementsLie (suc (suc a)) (v ∷ entries es) at' → Lies Formed 1 a (block_array (entry a v ∷ es)) at'
unfolding sizes texts_of escapes_in
block_array_lies {a} {at'} {v} es x = by x.lie.along
  where
    by : Along (suc (suc a)) (forest (v ∷ entries es)) at' → Lies Formed 1 a (block_array (entry a v ∷ es)) at'
    by l =
        let p = x.lie.rows in
        let q = x.lie.text in
        let y = x.lie.keys in
        let e = end_of (after v) (entries es) in
        let r : a ≤ suc (suc a) = omega arith in
        let s : e ≤ e = omega arith in
        let m = along_end (v ∷ entries es) l in
        let o = along_le m in
        node_lies (formed_array x.all) (omega arith) (omega arith) (end_le (v ∷ entries es) l) (along_wide r s m) (omega arith) (omega arith) (omega arith)

-- a block object, from its first key on; behind the key stand a colon and a space or an LF
pub block_object_lies : {a m e at' : ℕ} {k v : Tree} {fs : List Field} → Lies IsKey 0 a k m → Lies Formed 1 (suc (suc m)) v e → PairsLie e fs at'
    → LiesIn Formed 1 1 a (block_object (field k v ∷ fs)) at'
unfolding sizes texts_of escapes_in
block_object_lies {a} {m} {e} {at'} {k} {v} {fs} x y z =
    let ts = fields fs in
    let b : first k < after k = span_some x.placed in
    let c : after k ≤ m = x.ends in
    let d : after k ≤ suc (suc m) = omega arith in
    let i : first k ≤ first k = omega arith in
    let h : at' ≤ at' = omega arith in
    let g : Along (after k) (forest (v ∷ ts)) at' = along_wide d h (value_more y z.lie).along in
    let n : Along (after k) (forest (v ∷ ts)) (end_of (after k) (v ∷ ts)) = along_end (v ∷ ts) g in
    let o = along_le n in
    let p : 0 + a + size k ≤ m = x.rows in
    let q : 0 + a + (length (text_of k) + escapes_of k) ≤ m = x.text in
    let r : 1 + suc (suc m) + size v ≤ e = y.rows in
    let s : 1 + suc (suc m) + (length (text_of v) + escapes_of v) ≤ e = y.text in
    let t : e + sizes (forest ts) ≤ at' = z.lie.rows in
    let u : e + (length (texts_of (forest ts)) + escapes_in (forest ts)) ≤ at' = z.lie.text in
    let w = length-append (text_of k) (text_of v ++ texts_of (forest ts)) in
    let j = length-append (text_of v) (texts_of (forest ts)) in
    let f : suc (suc m) ≤ suc (suc m) = omega arith in
    node_lies (formed_object (pair x.formed y.formed z.all)) x.begins (omega arith) (end_le (v ∷ ts) g) (along_more i x.placed n) (omega arith) (omega arith) (pair_keys x f y z.lie)

pub elements_more : {n j a b e : ℕ} {t : Tree} {ts : List Tree} → LiesIn Formed n j a t b → ElementsLie b ts e → ElementsLie a (t ∷ ts) e
elements_more x y = record { lie = value_more x y.lie; all = element x.formed y.all }

pub pairs_more : {n a m b e at' : ℕ} {k v : Tree} {fs : List Field} → Lies IsKey 0 a k m → suc (suc m) ≤ b → Lies Formed n b v e → PairsLie e fs at' → PairsLie a (field k v ∷ fs) at'
pairs_more x h y z = record { lie = pair_more x h y z.lie; all = pair x.formed y.formed z.all }
